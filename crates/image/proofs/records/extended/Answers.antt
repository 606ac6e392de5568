-- `image::records::extended` meets its contract: the shift is half of 2 ^ width, and what is added is 2 ^ 32 - 2 ^ width.
use Prim.Native.Nat.{ℕ, ◌+◌, ◌-◌, ◌*◌, ◌%◌, ◌^◌, ◌≤◌, ◌<◌}
use native.Mathlib.Omega.{arith}
use mathlib.Core.Path.{◌≡◌, sym}
use lib.Pow.{pow_pos, pow_mono}
use Rattle.bits.proofs.Turns.{one_shl}
use Rattle.image.proofs.RecordLaws.{pow-half, extended-low, extended-high}
use Rattle.image.proofs.records.extended.Goals as goal

-- the shift is a power of two, which is half of the next, which is at most 2 ^ 32
record Powers (w : ℕ) : Type 0 where
  shift : 1 * 2 ^ (w - 1) % 2 ^ 32 ≡ 2 ^ (w - 1)
  halves : 2 ^ w ≡ 2 ^ (w - 1) + 2 ^ (w - 1)
  some : 0 < 2 ^ (w - 1)
  most : 2 ^ w ≤ 2 ^ 32

powers : (w : ℕ) → 1 ≤ w → w ≤ 32 → Powers w
powers w h k = record { shift = one_shl (w - 1) 32 (omega arith); halves = pow-half w h; some = pow_pos (w - 1); most = pow_mono k }

pub overflow_sub-result : goal.overflow_sub-result
overflow_sub-result c = let p = powers c.args.width (omega arith) (omega arith) in omega arith

pub overflow_sub-result-else-v-half-2 : goal.overflow_sub-result-else-v-half-2
overflow_sub-result-else-v-half-2 c = let p = powers c.args.width (omega arith) (omega arith) in omega arith

pub overflow_add-result : goal.overflow_add-result
overflow_add-result c = let p = powers c.args.width (omega arith) (omega arith) in omega arith

pub returns-then-v-half : goal.returns-then-v-half
returns-then-v-half c =
    let a = c.args in
    sym (extended-low a.width a.v (rw (one_shl (a.width - 1) 32 (omega arith)) at c.if-v-half.true))

pub returns-else-v-half : goal.returns-else-v-half
returns-else-v-half c =
    let a = c.args in
    let p = powers a.width (omega arith) (omega arith) in
    let g : 2 ^ (a.width - 1) ≤ a.v = rw p.shift at c.if-v-half.false in
    omega (arith, extended-high a.width a.v g)
