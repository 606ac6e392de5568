use mathlib.Core.Path.{ap, ◌∙◌}
use Rattle.tables.specs.Row.{neighbors_in, forming_in}
use Rattle.sound.proofs.LookLaws.{row-given, neighbors-fit, forming-fit, up-look}
use Rattle.sound.proofs.Sound.up_from.Goals as goal

pub node-row-requires : goal.node-row-requires
node-row-requires c = row-given _ _ c.args.self.passed _ c.requires

pub neighbors-neighbors-requires : goal.neighbors-neighbors-requires
neighbors-neighbors-requires c = neighbors-fit _ _ c.args.self.passed _ c.requires c.node-row.ensures.0 c.node-row.ensures.1

pub forming-forming-requires : goal.forming-forming-requires
forming-forming-requires c = forming-fit _ _ c.args.self.passed _ c.requires c.node-row.ensures.0 c.node-row.ensures.1

pub returns : goal.returns
returns c =
    let row = c.node-row.ensures.0 in
    c.union.ensures ∙ up-look _ _ c.args.self.passed _ c.requires _ _ (c.neighbors-neighbors.ensures ∙ ap neighbors_in row) (c.forming-forming.ensures ∙ ap forming_in row)
