-- What stands before the first byte x: to_space and to_newline count it, and `position` finds it.
use Prim.Native.Nat.{ℕ, ◌≤◌}
use native.Mathlib.Omega.{arith}
use mathlib.Core.Bool.{Bool, true, false, cond}
use mathlib.Core.List.{List}
use mathlib.Core.Path.{◌≡◌, refl, ap, ◌∙◌}
use borrow.Author.Tests.{ltb-false}
use lib.Dec.{eqb, ltb}
use lib.ListN.{length}
use Rattle.std.proofs.Common.{Some, None, Option}
use Rattle.std.specs.List.{position_or_len}
use Rattle.std.specs.Option.{unwrap_or}
use Rattle.std.proofs.lemmas.List.Recursion.{is_position_or_len}
use Rattle.std.proofs.lemmas.List.Sums.{prefix_len-le-length}
use Rattle.commands.specs.Commands.{to_space}
use Rattle.commands.specs.inner.Leaves.{to_newline}

-- the test that finds byte x
abbrev pub is_byte : ℕ → ℕ → Bool
is_byte x b = eqb b x

pub spaces : (bs : List ℕ) → to_space bs ≡ position_or_len (is_byte 32) bs
unfolding to_space
spaces = is_position_or_len to_space (is_byte 32) refl (λ b bs. ap (cond (eqb b 32) 0) (omega arith))

pub newlines : (bs : List ℕ) → to_newline bs ≡ position_or_len (is_byte 10) bs
unfolding to_newline
newlines = is_position_or_len to_newline (is_byte 10) refl (λ b bs. ap (cond (eqb b 10) 0) (omega arith))

-- the place that `position` answers, or the length where it answers none
module _ (x : ℕ) (bs : List ℕ) where
  abbrev p : ℕ
  p = position_or_len (is_byte x) bs

  within : p ≤ length bs
  within = prefix_len-le-length _ bs

  place : (t : Bool) → ltb p (length bs) ≡ t → unwrap_or (cond t (Some p) None) (length bs) ≡ p
  place true e = refl
  place false e = omega (arith, within, ltb-false p (length bs) e)

  pub found : (m : ℕ) → m ≡ p → (r : Option ℕ) → r ≡ cond (ltb p (length bs)) (Some p) None → (n : ℕ) → n ≡ unwrap_or r (length bs)
      → (n ≡ m) × (n ≤ length bs)
  found m c r at n e =
      let here : n ≡ p = rw at at e ∙ place (ltb p (length bs)) refl in
      (omega arith, omega (arith, within))
