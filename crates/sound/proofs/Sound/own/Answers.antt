use Rattle.sound.proofs.LookLaws.{row-given, own-look}
use Rattle.sound.proofs.Sound.own.Goals as goal

pub node-row-requires : goal.node-row-requires
node-row-requires c = row-given _ _ c.args.self.passed _ c.requires

pub height_in-requires : goal.height_in-requires
height_in-requires c = let r = row-given _ _ c.args.self.passed _ c.requires in (r.0, r.1, c.node-row.ensures.1)

pub returns : goal.returns
returns c = own-look _ _ c.args.self.passed _ c.requires c.node-row.ensures.0 c.height_in.ensures.0
