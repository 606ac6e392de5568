-- `height::words::delta_word` meets its contract: a depth from 0 up is its own word, one below 0 counts down from 2 ^ 32 - 1.
use native.Mathlib.Omega.{arith}
use Prim.Native.Nat.{ℕ, ◌-◌, ◌<◌, ◌^◌}
use mathlib.Core.Path.{◌≡◌, ap, sym, ◌∙◌}
use lib.IntN.{ℤ, pos, negsuc, ◌-ℤ◌, nat_abs}
use lib.Signed.{mag}
use mir.Syntax.{w32}
use mir.Val.{SFits, to_z, of_z}
use mir.Facts.{to_z-of_z}
use Rattle.height.specs.Words.{delta_word}
use Rattle.height.proofs.Signed.{to-minus-one, negative, nonnegative, test-lt, read_back}
use Rattle.height.proofs.words.delta_word.Goals as goal

-- a depth below 0
module _ (c : goal.Then-delta-lt0) where
  depth : (k : ℕ) × (c.args.delta ≡ negsuc k)
  depth = negative _ (test-lt w32 c.args.delta (pos 0) c.ranges.delta (record { sfits = omega arith }) c.if-delta-lt0.true)

  small : depth.0 < 2 ^ 31
  small = let h : mag c.args.delta < 2 ^ 31 = c.ranges.delta.sfits in rw depth.1 at h

  value : negsuc 0 -ℤ to_z w32 (of_z w32 c.args.delta) ≡ pos depth.0
  value = ap (λ (y : ℤ). negsuc 0 -ℤ y) (to_z-of_z c.ranges.delta ∙ depth.1) ∙ to-minus-one depth.0

  value-fits : SFits w32 (pos depth.0)
  value-fits = record { sfits = small }

  back : to_z w32 (of_z w32 (negsuc 0 -ℤ to_z w32 (of_z w32 c.args.delta))) ≡ pos depth.0
  back = read_back w32 value value-fits

-- a depth from 0 up
size : (c : goal.Else-delta-lt0) → (n : ℕ) × (c.args.delta ≡ pos n)
size c = nonnegative _ (test-lt w32 c.args.delta (pos 0) c.ranges.delta (record { sfits = omega arith }) c.if-delta-lt0.false)

pub overflow_sub-below : goal.overflow_sub-below
overflow_sub-below c = rw (value c) (value-fits c)

pub overflow_cast-below : goal.overflow_cast-below
overflow_cast-below c = rw (back c) (tt, record { fits = omega (arith, small c) })

pub overflow_sub-result : goal.overflow_sub-result
overflow_sub-result c = rw (back c) (omega (arith, small c))

pub returns-then-delta-lt0 : goal.returns-then-delta-lt0
unfolding delta_word
returns-then-delta-lt0 c = ap (λ (y : ℤ). 4294967295 - nat_abs y) (back c) ∙ sym (ap delta_word (depth c).1)

pub overflow_cast-result : goal.overflow_cast-result
overflow_cast-result c =
    let h : mag c.args.delta < 2 ^ 31 = c.ranges.delta.sfits in
    let k : (size c).0 < 2 ^ 31 = rw (size c).1 at h in
    rw (to_z-of_z c.ranges.delta, (size c).1) (tt, record { fits = omega arith })

pub returns : goal.returns
unfolding delta_word
returns c = ap nat_abs (to_z-of_z c.ranges.delta ∙ (size c).1) ∙ sym (ap delta_word (size c).1)
