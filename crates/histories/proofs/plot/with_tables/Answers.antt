-- `histories::plot::with_tables` meets its contract: fresh tables, then all histories behind the empty path.
use Rattle.lent.proofs.FilledLaws.{made-fresh}
use Rattle.tables.specs.Tables.{tables}
use Rattle.histories.proofs.ListLaws.{whole-start, whole-done}
use Rattle.histories.proofs.plot.with_tables.Goals as goal

pub explore-requires : goal.explore-requires
explore-requires c =
    let fresh-now = made-fresh c.args.n (tables c.args.nodes.now c.args.channels.now) c.requires.0 c.fresh.ensures in
    whole-start c.args.n c.args.k _ c.requires.0.low c.requires.1 c.requires.2 fresh-now

pub returns : goal.returns
returns c =
    let e = c.explore.ensures in
    whole-done c.args.n c.args.k c.args.out.now e.0 e.1
