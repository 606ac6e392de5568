-- `image_reader::nodes::record_from` meets its contract: the record is read from the rest of the slice.
use Rattle.image_reader.proofs.RecordLaws.{rest-inside, rest_read}
use Rattle.image_reader.proofs.nodes.record_from.Goals as goal

pub record_at-requires : goal.record_at-requires
record_at-requires c = (c.requires.0, c.requires.1, rest-inside c.args.n c.args.image.now c.args.at c.requires.0 c.requires.2)

pub returns : goal.returns
returns c = rest_read _ _ _ c.record_at.ensures
