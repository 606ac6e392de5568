use native.Mathlib.Omega.{arith}
use mathlib.Core.Path.{sym, ◌∙◌}
use borrow.Author.Tests.{not-true, not-false}
use Rattle.pairs.proofs.PairLaws.{messages-start, messages-next, messages-fail, messages-end}
use Rattle.pairs.proofs.all_pass.Goals as goal

pub loop-k-init : goal.loop-k-init
loop-k-init c = messages-start _ _ _

pub returns-then-k-count : goal.returns-then-k-count
returns-then-k-count c = let l = c.loop-k in sym (messages-end _ _ _ _ l.invariant (omega (arith, c.if-k-count.true)))

pub returns-then-not-message_passes : goal.returns-then-not-message_passes
returns-then-not-message_passes c =
    let l = c.loop-k in
    sym
    (messages-fail _ _ _ l.k l.invariant (omega (arith, l.invariant.inside, c.if-k-count.false))
    (rw c.slot_start.ensures at (sym c.message_passes.ensures ∙ not-true _ c.if-not-message_passes.true-raw)))

pub loop-k-preserved : goal.loop-k-preserved
loop-k-preserved c =
    let l = c.loop-k in
    messages-next _ _ _ l.k l.invariant (omega (arith, l.invariant.inside, c.if-k-count.false))
    (rw c.slot_start.ensures at (sym c.message_passes.ensures ∙ not-false _ c.if-not-message_passes.false-raw))

pub returns : goal.returns
returns c = sym (messages-end _ _ _ _ c.loop-k.invariant (omega (arith, c.loop-k-test.false, c.requires.0)))
