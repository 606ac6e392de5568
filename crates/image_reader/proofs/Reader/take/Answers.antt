-- `image_reader::Reader::take` meets its contract: the field's step, on a reader.
use Rattle.std.proofs.Common.{ap}
use Rattle.image_reader.specs.Fields.{moved_to, take_from}
use Rattle.image_reader.proofs.Reader.take.Goals as goal

pub returns : goal.returns
unfolding take_from
returns c = ap (moved_to c.args.self.now) c.take_at.ensures
