use borrow.Author.Rules.{rules}
use mathlib.Core.Bool.{true, false}
use mathlib.Core.Path.{◌≡◌, sym, ◌∙◌}
use native.Mathlib.Omega.{arith}
use mir.Syntax.{w32}
use mir.Val.{SFits}
use mir.Facts.{to_z-of_z}
use Rattle.height.specs.Height.{level_key}
use Rattle.height.specs.Order.{same}
use Rattle.decision.proofs.SmallestDelta.{start, took, passed, done}
use Rattle.decision.proofs.levels.smallest_delta.Goals as goal

pub loop-w-init : goal.loop-w-init
loop-w-init c = start _ _ _ _ (omega arith)

pub loop-w-preserved-in-Some : goal.loop-w-preserved-in-Some
loop-w-preserved-in-Some c =
    let f : SFits w32 c.min.result = search rules in
    let g : SFits w32 c.of-other.result.delta = search rules in
    let h : SFits w32 c.in-Some.delta = search rules in
    let alike : same (level_key c.of-other.result.level) (level_key c.args.level) ≡ true = sym c.level_same.ensures ∙ c.if-level_same.true in
    took _ _ _ _ c.loop-w.invariant (omega arith) (rw (← c.contains.ensures, c.if-contains.true, ← c.of-other.ensures.0, alike))
    (to_z-of_z f ∙ c.min.ensures.value ∙ rw (to_z-of_z g, to_z-of_z h, c.in-Some.is, c.of-other.ensures.0))

pub loop-w-preserved-in-None : goal.loop-w-preserved-in-None
loop-w-preserved-in-None c =
    let g : SFits w32 c.of-other.result.delta = search rules in
    let alike : same (level_key c.of-other.result.level) (level_key c.args.level) ≡ true = sym c.level_same.ensures ∙ c.if-level_same.true in
    took _ _ _ _ c.loop-w.invariant (omega arith) (rw (← c.contains.ensures, c.if-contains.true, ← c.of-other.ensures.0, alike))
    (to_z-of_z g ∙ rw (c.in-None.is, c.of-other.ensures.0))

pub loop-w-preserved-else-level_same : goal.loop-w-preserved-else-level_same
loop-w-preserved-else-level_same c =
    let other : same (level_key c.of-other.result.level) (level_key c.args.level) ≡ false = sym c.level_same.ensures ∙ c.if-level_same.false in
    passed _ _ _ _ c.loop-w.invariant (omega arith) (rw (← c.contains.ensures, c.if-contains.true, ← c.of-other.ensures.0, other))

pub loop-w-preserved : goal.loop-w-preserved
loop-w-preserved c = passed _ _ _ _ c.loop-w.invariant (omega arith) (rw (← c.contains.ensures, c.if-contains.false))

pub returns : goal.returns
returns c =
    let f : SFits w32 c.unwrap_or.result = search rules in
    to_z-of_z f ∙ c.unwrap_or.ensures ∙ done _ _ _ _ c.loop-w.least c.loop-w.invariant (omega arith)
