-- Tests that answer true or false: the two cases, what a joined test shows, and that no test answers both.
-- Every crate's proofs go by cases with `choice` and `equal?`, and end an impossible case with `clash`.
use Prim.Native.Nat.{ℕ}
use native.Mathlib.Omega.{arith}
use mathlib.Core.Bool.{Bool, true, false, ◌&&◌, ◌||◌, beq}
use mathlib.Core.Logic.{◌⊎◌, inl, inr}
use mathlib.Core.Path.{◌≡◌, refl, sym}
use lib.Dec.{eqb}
use borrow.Author.Tests.{eqb-true, eqb-false}

pub clash {ℓ} : {X : Type ℓ} {b : Bool} → b ≡ true → b ≡ false → X
clash p q = let z : ◌≡◌ {A = ℕ} 0 1 = cc in absurd (omega arith)

pub not-true-is-false : (b : Bool) → (b ≡ true → ⊥) → b ≡ false
not-true-is-false true h = absurd (h refl)
not-true-is-false false h = refl

-- ---- a test, and its two answers

pub data Choice (b : Bool) : Type 0 where
  yes! : b ≡ true → Choice b
  no! : b ≡ false → Choice b

pub choice : (b : Bool) → Choice b
choice true = yes! refl
choice false = no! refl

abbrev pub SameOrNot : ℕ → ℕ → Type 0
SameOrNot a b = (a ≡ b) ⊎ (a ≡ b → ⊥)

pub equal? : (a b : ℕ) → SameOrNot a b
equal? a b = go (choice (eqb a b))
  where
    go : Choice (eqb a b) → SameOrNot a b
    go (yes! e) = inl (eqb-true a b e)
    go (no! e) = inr (eqb-false a b e)

pub and_left : (a b : Bool) → (a && b) ≡ true → a ≡ true
and_left true b h = refl
and_left false b h = h

pub and_right : (a b : Bool) → (a && b) ≡ true → b ≡ true
and_right true b h = h
and_right false b h = clash h refl

pub and_both : {a b : Bool} → a ≡ true → b ≡ true → (a && b) ≡ true
and_both p q = rw (p, q)

pub neither_left : (a b : Bool) → (a || b) ≡ false → a ≡ false
neither_left true b e = e
neither_left false b e = refl

pub neither_right : (a b : Bool) → (a || b) ≡ false → b ≡ false
neither_right true b e = clash refl e
neither_right false b e = e

pub both_equal : (a u b v : ℕ) → (eqb a u && eqb b v) ≡ true → (a ≡ u) × (b ≡ v)
both_equal a u b v e = (eqb-true a u (and_left (eqb a u) (eqb b v) e), eqb-true b v (and_right (eqb a u) (eqb b v) e))

pub not-both : (a u b v : ℕ) → (a ≡ u → b ≡ v → ⊥) → (eqb a u && eqb b v) ≡ false
not-both a u b v h = not-true-is-false (eqb a u && eqb b v) (λ e. let q = both_equal a u b v e in h q.0 q.1)

-- ---- two tests that are the same

pub iff : (a b : Bool) → (a ≡ true → b ≡ true) → (b ≡ true → a ≡ true) → a ≡ b
iff true b f g = sym (f refl)
iff false true f g = g refl
iff false false f g = refl

pub same_bool : (a b : Bool) → beq a b ≡ true → a ≡ b
same_bool true true e = refl
same_bool true false e = clash e refl
same_bool false true e = clash e refl
same_bool false false e = refl

pub beq_same : (a b : Bool) → a ≡ b → beq a b ≡ true
beq_same true true e = refl
beq_same true false e = clash refl e
beq_same false true e = clash refl (sym e)
beq_same false false e = refl
