use Rattle.sound.proofs.LookLaws.{row-given, neighbors-fit, forming-fit, up-at}
use Rattle.sound.proofs.Sound.is_up.Goals as goal

pub node-row-requires : goal.node-row-requires
node-row-requires c = row-given _ _ c.args.self.passed _ c.requires

pub neighbors-neighbors-requires : goal.neighbors-neighbors-requires
neighbors-neighbors-requires c = neighbors-fit _ _ c.args.self.passed _ c.requires c.node-row.ensures.0 c.node-row.ensures.1

pub forming-forming-requires : goal.forming-forming-requires
forming-forming-requires c = forming-fit _ _ c.args.self.passed _ c.requires c.node-row.ensures.0 c.node-row.ensures.1

pub returns : goal.returns
returns c =
    up-at _ _ c.args.self.passed _ c.requires _ c.node-row.ensures.0 c.neighbors-neighbors.ensures c.forming-forming.ensures
    c.contains.ensures c.contains-2.ensures
