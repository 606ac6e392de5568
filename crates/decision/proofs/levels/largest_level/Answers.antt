use Prim.Native.Nat.{ℕ, zero, suc, ◌+◌, ◌-◌, ◌≤◌}
use native.Mathlib.Omega.{arith}
use mathlib.Core.Bool.{Bool, cond}
use mathlib.Core.Path.{◌≡◌, refl, ◌∙◌}
use Rattle.height.specs.declared.Height.{Height}
use Rattle.height.specs.declared.ReferenceLevel.{ReferenceLevel}
use Rattle.protocol.specs.Rules.{larger, largest}
use Rattle.decision.proofs.levels.largest_level.Goals as goal
use Rattle.decision.proofs.levels.largest_level.Goals.{then-contains, else-contains}

-- one node more
turn : (N : ℕ → Bool) (row : ℕ → Height) (w : ℕ) {l m : ReferenceLevel} → 1 ≤ w → l ≡ largest (w - 1) N row
    → m ≡ cond (N w) (larger l (row w).level) l → m ≡ largest (w + 1 - 1) N row
unfolding largest
turn N row zero h e f = absurd (omega arith)
turn N row (suc k) h e f =
    let below : suc k - 1 ≡ k = omega arith in
    let here : suc k + 1 - 1 ≡ suc k = omega arith in
    f ∙ rw (e, below, here)

pub loop-w-init : goal.loop-w-init
unfolding largest
loop-w-init c = refl

pub loop-w-preserved : goal.loop-w-preserved
loop-w-preserved c =
    let l = c.loop-w in
    let inside = c.contains.ensures in
    elim c.if-contains.branch [
      | then-contains w ↦
          turn _ _ l.w (omega arith) l.invariant
          (w.level-is ∙ w.larger_of-level.ensures ∙ rw (← inside, w.if-contains.true, w.of-other.ensures.0))
      | else-contains w ↦ turn _ _ l.w (omega arith) l.invariant (w.level-is ∙ rw (← inside, w.if-contains.false))
    ]

pub returns : goal.returns
returns c =
    let all : c.loop-w.w - 1 ≡ c.args.views.n = omega arith in
    rw all at c.loop-w.invariant
