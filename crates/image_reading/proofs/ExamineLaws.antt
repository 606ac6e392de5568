-- Each return of `examine` is what the definition says; an accepted walk ends inside the bytes.
use Prim.Native.Nat.{ℕ, ◌≤◌, ◌<◌, ◌^◌}
use native.Mathlib.Omega.{arith}
use mathlib.Core.Bool.{true, false}
use mathlib.Core.List.{List}
use mathlib.Core.Path.{◌≡◌, sym, ap, ◌∙◌}
use lib.ListN.{length}
use Rattle.image.specs.Places.{tables_in}
use Rattle.image.specs.inner.Parts.{image_end}
use Rattle.lent.specs.Check.{contents_on}
use Rattle.refusal.specs.Refusal.{why, why_of}
use Rattle.refusal.specs.declared.Refusal.{Refusal}
use Rattle.refusal.specs.declared.Why.{Why}
use Rattle.image_reading.specs.Examine.{after_walk, examined}
use Rattle.image_reading.specs.inner.Cells.{Walkable}
use Rattle.image_reading.specs.Walk.{walk, ends_at}
use Rattle.std.proofs.Common.{Ok, Err}
use Rattle.image_reading.proofs.WalkLaws.{walk-accepted}

module _ (h d n : ℕ) (l : List ℕ) where
  pub examined-stops : (r : Refusal) → Err r ≡ walk h d n l → why_of r ≡ examined h d n l
  unfolding examined after_walk
  examined-stops r e = ap (after_walk h d n l) e

  module _ {q : ℕ} (on : Ok q ≡ walk h d n l) where
    after : after_walk h d n l (Ok q) ≡ examined h d n l
    unfolding examined
    after = ap (after_walk h d n l) on

    pub examined-bad-end : ends_at l q ≡ false → why 12 0 0 ≡ examined h d n l
    unfolding after_walk
    examined-bad-end b = rw b at after

    pub examined-contents : ends_at l q ≡ true → {x : Why} → x ≡ contents_on n (tables_in h d n l) → x ≡ examined h d n l
    unfolding after_walk
    examined-contents b e = e ∙ (rw b at after)

    module _ (short : h < 4096) (narrow : d ≤ 32) (few : n ≤ 16) where
      pub accepted-walk : Walkable h d n l
      accepted-walk = (walk-accepted h d n l q short narrow few (sym on)).1

      pub accepted-end : (q < 2 ^ 30) × (q ≤ length l)
      accepted-end =
          let end : q ≡ image_end h d n l = (walk-accepted h d n l q short narrow few (sym on)).0 in
          (omega (arith, accepted-walk.small), omega (arith, accepted-walk.inside))
