-- Tests over 1 to n, and functions changed in one place.
use Prim.Native.Nat.{ℕ, zero, suc, ◌≤◌}
use native.Mathlib.Omega.{arith}
use mathlib.Core.Bool.{Bool, true, false, ◌&&◌}
use mathlib.Core.Logic.{inl, inr}
use mathlib.Core.Path.{◌≡◌, refl, fun_ext}
use lib.Dec.{eqb}
use borrow.Author.Tests.{eq-eqb, ne_eqb}
use Rattle.basics.specs.Functions.{every, every_pair, update}
use Rattle.basics.proofs.Tests.{Choice, yes!, no!, choice, SameOrNot, equal?, and_left, and_right, and_both, both_equal, clash, not-true-is-false}

-- ---- tests over 1 to n

pub every-at : (n : ℕ) (p : ℕ → Bool) → every n p ≡ true → (v : ℕ) → 1 ≤ v → v ≤ n → p v ≡ true
unfolding every
every-at zero p h v l k = absurd (omega arith)
every-at (suc n) p h v l k = go (every-at n p (and_right (p (suc n)) (every n p) h) v l) (equal? v (suc n))
  where
    go : (v ≤ n → p v ≡ true) → SameOrNot v (suc n) → p v ≡ true
    go ih (inl e) = rw e (and_left (p (suc n)) (every n p) h)
    go ih (inr d) = ih (omega arith)

pub every-all : (n : ℕ) (p : ℕ → Bool) → ((v : ℕ) → 1 ≤ v → v ≤ n → p v ≡ true) → every n p ≡ true
unfolding every
every-all zero p h = refl
every-all (suc n) p h = and_both (h (suc n) (omega arith) (omega arith)) (every-all n p (λ v l k. h v l (omega arith)))

pub every-pair-at : (n : ℕ) (p : ℕ → ℕ → Bool) → every_pair n p ≡ true → (u : ℕ) → 1 ≤ u → u ≤ n → (v : ℕ) → 1 ≤ v → v ≤ n → p u v ≡ true
unfolding every_pair
every-pair-at n p h u a b v c d = every-at n (p u) (every-at n (λ x. every n (p x)) h u a b) v c d

pub every-pair-all : (n : ℕ) (p : ℕ → ℕ → Bool) → ((u : ℕ) → 1 ≤ u → u ≤ n → (v : ℕ) → 1 ≤ v → v ≤ n → p u v ≡ true) → every_pair n p ≡ true
unfolding every_pair
every-pair-all n p h = every-all n (λ u. every n (p u)) (λ u a b. every-all n (p u) (h u a b))

pub every-false : (n : ℕ) (p : ℕ → Bool) (v : ℕ) → 1 ≤ v → v ≤ n → p v ≡ false → every n p ≡ false
every-false n p v l k h = not-true-is-false (every n p) (λ e. clash (every-at n p e v l k) h)

-- a number where the test fails
pub record Found (n : ℕ) (p : ℕ → Bool) : Type 0 where
  pub at : ℕ
  pub low : 1 ≤ at
  pub high : at ≤ n
  pub fails : p at ≡ false

pub every-not : (n : ℕ) (p : ℕ → Bool) → every n p ≡ false → Found n p
unfolding every
every-not zero p h = clash refl h
every-not (suc n) p h = go (λ (e : every n p ≡ false). every-not n p e) (choice (p (suc n)))
  where
    go : (every n p ≡ false → Found n p) → Choice (p (suc n)) → Found (suc n) p
    go ih (no! e) = record { at = suc n; low = omega arith; high = omega arith; fails = e }
    go ih (yes! e) =
        let f : Found n p = ih (rw e at h) in
        record { at = f.at; low = f.low; high = omega arith; fails = f.fails }

-- ---- functions changed in one place

pub update-at : {A : Type 0} (f : ℕ → A) (u : ℕ) (x : A) → update f u x u ≡ x
unfolding update
update-at f u x = rw (eq-eqb u u refl)

pub update-off : {A : Type 0} (f : ℕ → A) (u : ℕ) (x : A) (a : ℕ) → (a ≡ u → ⊥) → update f u x a ≡ f a
unfolding update
update-off f u x a h = rw (ne_eqb a u h)

-- the same where f is a function of two numbers, changed in one row, or at one place
pub row_at : {A : Type 0} (f : ℕ → ℕ → A) (u : ℕ) (x : ℕ → A) (b : ℕ) → update f u x u b ≡ x b
row_at f u x b = rw (update-at f u x)

pub row-off : {A : Type 0} (f : ℕ → ℕ → A) (u : ℕ) (x : ℕ → A) (a b : ℕ) → (a ≡ u → ⊥) → update f u x a b ≡ f a b
row-off f u x a b h = rw (update-off f u x a h)

pub cell_at : {A : Type 0} (f : ℕ → ℕ → A) (u v : ℕ) (x : A) (a b : ℕ) → (eqb a u && eqb b v) ≡ true
    → update f u (update (f u) v x) a b ≡ x
cell_at f u v x a b e = let q = both_equal a u b v e in simp (q.0, q.1, row_at, update-at)

pub cell-off : {A : Type 0} (f : ℕ → ℕ → A) (u v : ℕ) (x : A) (a b : ℕ) → (eqb a u && eqb b v) ≡ false
    → update f u (update (f u) v x) a b ≡ f a b
cell-off f u v x a b e = go (equal? a u) (equal? b v)
  where
    go : SameOrNot a u → SameOrNot b v → update f u (update (f u) v x) a b ≡ f a b
    go (inl d) (inl g) = clash (rw (eq-eqb a u d, eq-eqb b v g)) e
    go (inl d) (inr g) = simp (d, row_at, update-off)
    go (inr d) g = simp row-off

-- what holds of x at u, and of f elsewhere, holds of `update f u x`
pub update_all : {A : Type 0} (P : ℕ → A → Type 0) (f : ℕ → A) (u : ℕ) (x : A)
    → P u x → ((a : ℕ) → (a ≡ u → ⊥) → P a (f a)) → (a : ℕ) → P a (update f u x a)
update_all P f u x h k a = go (equal? a u)
  where
    go : SameOrNot a u → P a (update f u x a)
    go (inl e) = rw (e, update-at f u x) h
    go (inr d) = rw (update-off f u x a d) (k a d)

pub update_self : {A : Type 0} (f : ℕ → A) (u : ℕ) → update f u (f u) ≡ f
update_self f u = fun_ext (update_all (λ a x. x ≡ f a) f u (f u) refl (λ a d. refl))
