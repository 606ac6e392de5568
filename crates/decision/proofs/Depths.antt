-- One more or one less than a depth: it fits 32 bits, and it is out of range exactly where the depth was at the end.
use Prim.Native.Nat.{ℕ, zero, suc, ◌<◌}
use native.Mathlib.Omega.{arith}
use mathlib.Core.Bool.{Bool, true, false, not, not-not}
use mathlib.Core.Path.{◌≡◌, refl, sym, ap, ◌∙◌}
use borrow.Author.Tests.{ltb-true, ltb-false, lt-ltb, le-ltb}
use lib.Dec.{ltb}
use lib.IntN.{ℤ, pos, negsuc, suc_ℤ, pred_ℤ, suc-pred}
use lib.Signed.{lt_z, mag}
use mir.Syntax.{w32}
use mir.Val.{SFits}
use Rattle.protocol.specs.Holds.{least_delta, greatest_delta}

mag_suc : (z : ℤ) → mag z < 2147483648 → lt_z z greatest_delta ≡ true → mag (suc_ℤ z) < 2147483648
mag_suc (pos a) h e = omega (arith, ltb-true a 32767 e)
mag_suc (negsuc zero) h e = omega arith
mag_suc (negsuc (suc a)) h e = omega arith

mag_pred : (z : ℤ) → mag z < 2147483648 → lt_z least_delta z ≡ true → mag (pred_ℤ z) < 2147483648
mag_pred (pos zero) h e = omega arith
mag_pred (pos (suc a)) h e = omega arith
mag_pred (negsuc a) h e = omega (arith, ltb-true a 32767 e)

pub fits_suc : (z : ℤ) → SFits w32 z → lt_z z greatest_delta ≡ true → SFits w32 (suc_ℤ z)
fits_suc z f e = record { sfits = mag_suc z f.sfits e }

pub fits-pred : (z : ℤ) → SFits w32 z → lt_z least_delta z ≡ true → SFits w32 (pred_ℤ z)
fits-pred z f e = record { sfits = mag_pred z f.sfits e }

ltb-suc : (a b : ℕ) → ltb a (suc b) ≡ not (ltb b a)
ltb-suc a b = go (ltb b a) refl
  where
    go : (t : Bool) → ltb b a ≡ t → ltb a (suc b) ≡ not t
    go true e = le-ltb a (suc b) (ltb-true b a e)
    go false e = let h = ltb-false b a e in lt-ltb a (suc b) (omega arith)

-- x is below z + 1 exactly where z is not below x, and z - 1 below x exactly where x is not below z
pub below_suc : (x z : ℤ) → lt_z x (suc_ℤ z) ≡ not (lt_z z x)
below_suc (pos a) (pos b) = ltb-suc a b
below_suc (pos a) (negsuc zero) = le-ltb a 0 (omega arith)
below_suc (pos a) (negsuc (suc b)) = refl
below_suc (negsuc a) (pos b) = refl
below_suc (negsuc a) (negsuc zero) = sym (ap not (le-ltb a 0 (omega arith)))
below_suc (negsuc a) (negsuc (suc b)) = sym (ap not (ltb-suc a b) ∙ not-not (ltb b a))

pub pred-below : (x z : ℤ) → lt_z (pred_ℤ z) x ≡ not (lt_z x z)
pred-below x z =
    sym (not-not (lt_z (pred_ℤ z) x)) ∙ ap not (sym (below_suc x (pred_ℤ z)) ∙ ap (lt_z x) (suc-pred z))
