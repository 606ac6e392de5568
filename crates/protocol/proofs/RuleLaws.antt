-- Bounds on times and leader pairs, the sink test, and the largest level of the views: what the rules rest on.
use Prim.Native.Nat.{ℕ, zero, suc, ◌<◌, ◌≤◌}
use native.Mathlib.Omega.{arith}
use mathlib.Core.Bool.{Bool, true, false, cond, and-false}
use mathlib.Core.List.{List, [], ◌∷◌, ◌++◌}
use mathlib.Core.Logic.{inl, inr}
use mathlib.Core.Path.{◌≡◌, refl}
use lib.IntN.{ℤ, pos, neg_ℤ}
use borrow.Author.Tests.{eq-eqb}
use Rattle.basics.proofs.FunctionsLaws.{every-false}
use Rattle.basics.proofs.Tests.{clash, Choice, yes!, no!, choice, SameOrNot, equal?}
use Rattle.height.specs.Height.{level_key, pair_key, height_key, self_elected}
use Rattle.height.specs.Order.{before, same}
use Rattle.height.specs.declared.Height.{Height}
use Rattle.height.specs.declared.ReferenceLevel.{ReferenceLevel}
use Rattle.height.proofs.OrderLaws.{before-less, before-asym, before-append, before-irrefl, not-before-trans, lt_z-neg}
use Rattle.protocol.specs.Rules.{larger, largest}
use Rattle.protocol.specs.Sink.{above, sink}

-- what holds of x if b, and of y if not, holds of the one that b picks
pub by_cases : {X : Type 0} (G : X → Type 0) (b : Bool) (x y : X) → (b ≡ true → G x) → (b ≡ false → G y) → G (cond b x y)
by_cases G true x y h k = h refl
by_cases G false x y h k = k refl

-- every time in the height is at most c
pub record Bounded (c : ℕ) (h : Height) : Type 0 where
  pub tau-le : h.level.tau.0 ≤ c
  pub election : ℕ
  pub nlts-is : h.pair.nlts.0 ≡ neg_ℤ (pos election)
  pub election-le : election ≤ c

pub later : (c d : ℕ) (h : Height) → c ≤ d → Bounded c h → Bounded d h
later c d h l b = record { tau-le = omega arith; election = b.election; nlts-is = b.nlts-is; election-le = omega arith }

abbrev pub PairLe : Height → Height → Type 0
PairLe h k = before (pair_key k.pair) (pair_key h.pair) ≡ false

pub PairLe-refl : (h : Height) → PairLe h h
PairLe-refl h = before-irrefl (pair_key h.pair)

pub PairLe-trans : (h k l : Height) → PairLe h k → PairLe k l → PairLe h l
unfolding pair_key
PairLe-trans h k l p q = not-before-trans (pair_key h.pair) (pair_key k.pair) (pair_key l.pair) refl p q

-- a smaller level makes a smaller height
pub level-below : (h k : Height) → before (level_key h.level) (level_key k.level) ≡ true → before (height_key k) (height_key h) ≡ false
unfolding height_key
level-below h k e =
    before-asym (height_key h) (height_key k) (before-append (level_key h.level) (level_key k.level) e (rest h) (rest k))
  where
    rest : Height → List ℤ
    rest x = x.delta ∷ (pair_key x.pair ++ (pos x.id ∷ []))

-- a time above all of h's times elects a smaller pair
pub elected-below : (c t u : ℕ) (h : Height) → c < t → Bounded c h → PairLe (self_elected t u) h
unfolding pair_key
elected-below c t u h l b =
    before-asym (pair_key (self_elected t u).pair) (pair_key h.pair)
    (before-less (neg_ℤ (pos t)) h.pair.nlts.0 (pos u ∷ []) (pos h.pair.lid ∷ [])
    (rw b.nlts-is (lt_z-neg b.election t (omega arith))))

-- ---- the sink test

pub not-sink-by-height : (n : ℕ) (N : ℕ → Bool) (row : ℕ → Height) (u v : ℕ)
    → 1 ≤ v → v ≤ n → N v ≡ true → before (height_key (row u)) (height_key (row v)) ≡ false → sink n N row u ≡ false
unfolding sink above
not-sink-by-height n N row u v l k i h = rw (every-false n (above N row u) v l k (rw (i, h, and-false)))

pub not-sink-by-pair : (n : ℕ) (N : ℕ → Bool) (row : ℕ → Height) (u v : ℕ)
    → 1 ≤ v → v ≤ n → N v ≡ true → same (pair_key (row v).pair) (pair_key (row u).pair) ≡ false → sink n N row u ≡ false
unfolding sink above
not-sink-by-pair n N row u v l k i h = rw (every-false n (above N row u) v l k (rw (i, h)))

pub not-sink-by-leader : (n : ℕ) (N : ℕ → Bool) (row : ℕ → Height) (u : ℕ) → (row u).pair.lid ≡ u → sink n N row u ≡ false
unfolding sink
not-sink-by-leader n N row u h = rw (eq-eqb (row u).pair.lid u h, and-false)

-- ---- the largest level

larger-left : (l m : ReferenceLevel) → before (level_key (larger l m)) (level_key l) ≡ false
unfolding larger
larger-left l m =
    by_cases (λ x. before (level_key x) (level_key l) ≡ false) (before (level_key l) (level_key m)) m l
    (before-asym (level_key l) (level_key m)) (λ e. before-irrefl (level_key l))

larger-right : (l m : ReferenceLevel) → before (level_key (larger l m)) (level_key m) ≡ false
unfolding larger
larger-right l m =
    by_cases (λ x. before (level_key x) (level_key m) ≡ false) (before (level_key l) (level_key m)) m l
    (λ e. before-irrefl (level_key m)) (λ e. e)

pub largest-above : (n : ℕ) (N : ℕ → Bool) (row : ℕ → Height) (v : ℕ) → 1 ≤ v → v ≤ n → N v ≡ true
    → before (level_key (largest n N row)) (level_key (row v).level) ≡ false
unfolding largest level_key
largest-above zero N row v l k i = absurd (omega arith)
largest-above (suc n) N row v l k i =
    go (λ (q : v ≤ n). largest-above n N row v l q i) (choice (N (suc n))) (equal? v (suc n))
  where
    L : ReferenceLevel
    L = largest n N row

    M : ReferenceLevel
    M = (row (suc n)).level

    NotBelow : ReferenceLevel → Type 0
    NotBelow x = before (level_key x) (level_key (row v).level) ≡ false

    go : (v ≤ n → NotBelow L) → Choice (N (suc n)) → SameOrNot v (suc n) → NotBelow (cond (N (suc n)) (larger L M) L)
    go ih (yes! e) (inl d) = rw (e, d) (larger-right L M)
    go ih (yes! e) (inr d) =
        rw e (not-before-trans (level_key (row v).level) (level_key L) (level_key (larger L M)) refl (ih (omega arith)) (larger-left L M))
    go ih (no! e) (inl d) = clash (rw d at i) e
    go ih (no! e) (inr d) = rw e (ih (omega arith))

pub largest-tau : (n : ℕ) (N : ℕ → Bool) (row : ℕ → Height) (c : ℕ) → ((w : ℕ) → (row w).level.tau.0 ≤ c) → (largest n N row).tau.0 ≤ c
unfolding largest larger
largest-tau zero N row c h = omega arith
largest-tau (suc n) N row c h = go (largest-tau n N row c h)
  where
    L : ReferenceLevel
    L = largest n N row

    M : ReferenceLevel
    M = (row (suc n)).level

    Early : ReferenceLevel → Type 0
    Early x = x.tau.0 ≤ c

    go : Early L → Early (cond (N (suc n)) (larger L M) L)
    go ih =
        by_cases Early (N (suc n)) (larger L M) L
        (λ i. by_cases Early (before (level_key L) (level_key M)) M L (λ e. h (suc n)) (λ e. ih)) (λ i. ih)
