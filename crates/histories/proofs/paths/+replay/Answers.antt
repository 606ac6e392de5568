-- `histories::paths::replay` meets its contract: the path before its last event, then that one.
use Rattle.tables.specs.Tables.{tables}
use Rattle.lent.proofs.FilledLaws.{made-fresh}
use Rattle.histories.proofs.PathLaws.{replay-none, replay-more}
use Rattle.histories.proofs.paths.+replay.Goals as goal

pub returns-then-path-eq0 : goal.returns-then-path-eq0
returns-then-path-eq0 t c =
    let p = c.args.path in
    replay-none p.n p.events p.code c.if-path-eq0.true _
    (made-fresh p.n (tables c.args.nodes.now c.args.channels.now) c.requires c.fresh.ensures)

pub returns-else-path-eq0 : goal.returns-else-path-eq0
returns-else-path-eq0 t c =
    let p = c.args.path in
    replay-more p.n p.events p.code c.requires.low c.requires.few c.if-path-eq0.false _ _ c.replay.ensures c.step.ensures.1
