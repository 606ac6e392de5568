-- `drawing::linking::hold` meets its contract: nothing is named at first, in an empty set for each node.
use Rattle.drawing.proofs.Marks.{none_seen}
use Rattle.drawing.proofs.linking.hold.Goals as goal

pub all_new-requires : goal.all_new-requires
all_new-requires c = (c.requires.0, c.requires.1, none_seen c.args.n)
