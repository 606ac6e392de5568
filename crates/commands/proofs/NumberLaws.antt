-- Each return of `one_digit`, `two_digits` and `number` is what number_of says.
use Prim.Native.Nat.{ℕ, ◌+◌, ◌-◌, ◌*◌, ◌≤◌}
use native.Mathlib.Omega.{arith}
use mathlib.Core.Bool.{Bool, true, false, not, ◌&&◌}
use mathlib.Core.List.{List, [], ◌∷◌}
use mathlib.Core.Path.{◌≡◌, refl, sym, ◌∙◌}
use borrow.Author.Tests.{leb-true}
use lib.Dec.{eqb, leb}
use lib.ListN.{length, get_or}
use Rattle.std.proofs.lemmas.Bool.{and_parts}
use Rattle.commands.specs.Commands.{none, is_digit, number_of}

pub digit_low : (a : ℕ) → is_digit a ≡ true → 48 ≤ a
digit_low a e = leb-true 48 a (and_parts (leb 48 a) (leb a 57) e).0

-- ---- one digit: t is what `is_digit` answers

module _ (a : ℕ) (t : Bool) (d : t ≡ is_digit a) where
  pub one-is : t ≡ true → a - 48 ≡ number_of (a ∷ [])
  unfolding number_of
  one-is e = rw (rw d at e)

  pub one_none : t ≡ false → none ≡ number_of (a ∷ [])
  unfolding number_of
  one_none e = rw (rw d at e)

-- ---- two digits

module _ (a b : ℕ) (s t : Bool) (d : s ≡ is_digit a) (e : t ≡ is_digit b) where
  pub two-low : (s && t && not (eqb a 48)) ≡ true → (48 ≤ a) × (48 ≤ b)
  two-low h =
      let st = and_parts s t (and_parts (s && t) (not (eqb a 48)) h).0 in
      (digit_low a (sym d ∙ st.0), digit_low b (sym e ∙ st.1))

  pub two_is : (s && t && not (eqb a 48)) ≡ true → 10 * (a - 48) + (b - 48) ≡ number_of (a ∷ b ∷ [])
  unfolding number_of
  two_is h = rw (rw (d, e) at h)

  pub two_none : (s && t && not (eqb a 48)) ≡ false → none ≡ number_of (a ∷ b ∷ [])
  unfolding number_of
  two_none h = rw (rw (d, e) at h)

-- ---- by the length

pub number-one : (l : List ℕ) → length l ≡ 1 → number_of (get_or l 0 0 ∷ []) ≡ number_of l
number-one [] h = absurd (omega arith)
number-one (a ∷ []) h = refl
number-one (a ∷ b ∷ l) h = absurd (omega arith)

pub number-two : (l : List ℕ) → length l ≡ 2 → number_of (get_or l 0 0 ∷ get_or l 1 0 ∷ []) ≡ number_of l
number-two [] h = absurd (omega arith)
number-two (a ∷ []) h = absurd (omega arith)
number-two (a ∷ b ∷ []) h = refl
number-two (a ∷ b ∷ c ∷ l) h = absurd (omega arith)

pub number-other : (l : List ℕ) → (length l ≡ 1 → ⊥) → (length l ≡ 2 → ⊥) → none ≡ number_of l
unfolding number_of
number-other [] g h = refl
number-other (a ∷ []) g h = absurd (g refl)
number-other (a ∷ b ∷ []) g h = absurd (h refl)
number-other (a ∷ b ∷ c ∷ l) g h = refl
