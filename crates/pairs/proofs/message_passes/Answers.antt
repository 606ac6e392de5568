-- `pairs::message_passes` meets its contract: the stamp beside the clock, the height and its times beside the stamp.
use Prim.Native.Nat.{◌+◌}
use native.Mathlib.Omega.{arith}
use mathlib.Core.Path.{◌∙◌}
use Rattle.pairs.proofs.PairLaws.{stamp-above, passes-by-height}
use Rattle.pairs.proofs.message_passes.Goals as goal

pub returns-then-clock-stamp : goal.returns-then-clock-stamp
returns-then-clock-stamp c = let a = c.args in stamp-above a.n a.u a.clock a.cell.now a.at c.if-clock-stamp.true

pub returns : goal.returns
returns c =
    let a = c.args in
    c.height_within.ensures
    ∙ passes-by-height a.n a.u a.clock a.cell.now a.at c.if-clock-stamp.false (omega (arith, c.type_inv.cell (a.at + 7)))
