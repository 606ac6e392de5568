-- Heights that their seven words give back.
-- Every loaded height is one, and so is every height within the ranges of document 01.
use Prim.Native.Nat.{ℕ, ◌<◌}
use native.Mathlib.Omega.{arith}
use mathlib.Core.Path.{◌≡◌, refl, ap}
use lib.IntN.{ℤ, pos, negsuc, neg_ℤ, nat_abs}
use lib.Signed.{mag}
use borrow.Author.Tests.{ltb-false}
use Rattle.height.specs.Height.{zero_height}
use Rattle.height.specs.Words.{delta_word}
use Rattle.height.specs.declared.Height.{Height}
use Rattle.height.proofs.WordsLaws.{nat_abs-neg}
use Rattle.protocol.proofs.Ranges.{HeightFits, DeltaFits}

pub record Wordy (h : Height) : Type 0 where
  pub delta : mag h.delta < 2147483648
  pub nlts : neg_ℤ (pos (nat_abs h.pair.nlts.0)) ≡ h.pair.nlts.0

pub word_lt : (z : ℤ) → mag z < 2147483648 → delta_word z < 4294967296
unfolding delta_word
word_lt (pos a) h = omega arith
word_lt (negsuc a) h = omega arith

pub zero-wordy : Wordy zero_height
zero-wordy = record { delta = omega arith; nlts = refl }

-- a height within the ranges
delta-wordy : (d : ℤ) → DeltaFits d → mag d < 2147483648
delta-wordy (pos a) h = omega (arith, ltb-false 32767 a h.high)
delta-wordy (negsuc a) h = omega (arith, ltb-false 32767 a h.low)

pub fits-wordy : (n k : ℕ) (h : Height) → HeightFits n k h → Wordy h
fits-wordy n k h f = record {
  delta = delta-wordy h.delta f.delta;
  nlts = let e = f.pair.nlts-is in rw e (ap (λ (x : ℕ). neg_ℤ (pos x)) (nat_abs-neg f.pair.election));
}
