-- Signed numbers through their bits: a test, a cast or a difference on the bits is the one on the numbers, where these fit.
use Prim.Native.Nat.{ℕ, zero, suc, ◌≤◌, ◌<◌, ◌^◌}
use native.Mathlib.Nat.{zero-add}
use native.Mathlib.Omega.{arith}
use mathlib.Core.Bool.{Bool, true, false}
use mathlib.Core.Path.{◌≡◌, refl, ap, ap₂, sym, ◌∙◌}
use borrow.Author.Tests.{le-ltb}
use lib.IntN.{ℤ, pos, negsuc, neg_ℤ, ◌-ℤ◌}
use lib.Signed.{lt_z, mag}
use mir.Syntax.{Width, w32, w64}
use mir.Val.{to_z, of_z, SFits}
use mir.Facts.{to_z-of_z}
use Rattle.basics.proofs.Tests.{clash}

-- a test on the bits is the test on the numbers
pub test-lt : (w : Width) (a b : ℤ) {v : Bool} → SFits w a → SFits w b → lt_z (to_z w (of_z w a)) (to_z w (of_z w b)) ≡ v → lt_z a b ≡ v
test-lt w a b fa fb e = sym (ap₂ lt_z (to_z-of_z fa) (to_z-of_z fb)) ∙ e

-- a computed number that fits is read back
pub read_back : (w : Width) {z v : ℤ} → z ≡ v → SFits w v → to_z w (of_z w z) ≡ v
read_back w e f = ap (λ (y : ℤ). to_z w (of_z w y)) e ∙ to_z-of_z f

-- a number of 32 bits fits 64, and so does a word negated
pub sfits_wide : (z : ℤ) → SFits w32 z → SFits w64 z
sfits_wide z f = let h : mag z < 2 ^ 31 = f.sfits in record { sfits = omega arith }

pub mag-neg : (n : ℕ) → mag (neg_ℤ (pos n)) ≤ n
mag-neg zero = omega arith
mag-neg (suc n) = omega arith

pub sfits_neg : (n : ℕ) → n < 2 ^ 63 → SFits w64 (neg_ℤ (pos n))
sfits_neg n h = record { sfits = omega (arith, mag-neg n) }

-- -1 - k is -(k + 1), and -1 - -(k + 1) is k
pub from-minus-one : (k : ℕ) → negsuc 0 -ℤ pos k ≡ negsuc k
from-minus-one zero = refl
from-minus-one (suc k) = ap (λ (n : ℕ). negsuc (suc n)) (zero-add k)

pub to-minus-one : (k : ℕ) → negsuc 0 -ℤ negsuc k ≡ pos k
to-minus-one k = simp (le-ltb (suc k) 1 (omega arith)) (ap pos (omega arith))

-- the two cases of the sign, as a test leaves them
pub negative : (z : ℤ) → lt_z z (pos 0) ≡ true → (k : ℕ) × (z ≡ negsuc k)
negative (pos n) e = clash e (le-ltb n 0 (omega arith))
negative (negsuc k) e = (k, refl)

pub nonnegative : (z : ℤ) → lt_z z (pos 0) ≡ false → (n : ℕ) × (z ≡ pos n)
nonnegative (pos n) e = (n, refl)
nonnegative (negsuc k) e = clash refl e
