-- `pairs::own` meets its contract: the sets and the unused cell, then the own height.
use mathlib.Core.Path.{◌∙◌}
use Rattle.tables.proofs.RowsLaws.{height-from-start}
use Rattle.pairs.proofs.PairLaws.{own-faulty, own-found}
use Rattle.pairs.proofs.own.Goals as goal

pub returns-then-sets-unused : goal.returns-then-sets-unused
returns-then-sets-unused c =
    let a = c.args in
    let low = c.requires.1.low in
    rw (c.height_start.ensures.0, ← height-from-start a.row.now a.u low) at c.height_at.ensures
    ∙ own-found a.n a.u a.row.now a.cell.now (rw (c.sets_hold-sets.ensures, c.all_zero-unused.ensures) at c.if-sets-unused.true)

pub returns : goal.returns
returns c =
    let a = c.args in
    own-faulty a.n a.u a.row.now a.cell.now (rw (c.sets_hold-sets.ensures, c.all_zero-unused.ensures) at c.if-sets-unused.false)
