use Prim.Native.Nat.{◌+◌, ◌*◌}
use native.Mathlib.Omega.{arith}
use mathlib.Core.Path.{sym, ◌∙◌}
use borrow.Author.Tests.{not-true, not-false}
use Rattle.pairs.proofs.PairLaws.{messages-start, messages-next, messages-fail, messages-end, holds-by-height}
use Rattle.pairs.proofs.all_hold.Goals as goal

pub loop-k-init : goal.loop-k-init
loop-k-init c = messages-start _ _ _

pub returns-then-not-height_holds : goal.returns-then-not-height_holds
returns-then-not-height_holds c =
    let l = c.loop-k in
    let a = c.args in
    sym
    (messages-fail _ _ _ l.k l.invariant c.loop-k-test.true
    (holds-by-height a.n a.u a.cell.now (1 + l.k * 8) (omega (arith, c.type_inv.cell (1 + l.k * 8 + 7)))
    ∙ (rw c.slot_start.ensures at (sym c.height_holds.ensures ∙ not-true _ c.if-not-height_holds.true-raw))))

pub loop-k-preserved : goal.loop-k-preserved
loop-k-preserved c =
    let l = c.loop-k in
    let a = c.args in
    messages-next _ _ _ l.k l.invariant c.loop-k-test.true
    (holds-by-height a.n a.u a.cell.now (1 + l.k * 8) (omega (arith, c.type_inv.cell (1 + l.k * 8 + 7)))
    ∙ (rw c.slot_start.ensures at (sym c.height_holds.ensures ∙ not-false _ c.if-not-height_holds.false-raw)))

pub returns : goal.returns
returns c = sym (messages-end _ _ _ _ c.loop-k.invariant c.loop-k-test.false)
