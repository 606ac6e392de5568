-- `bits::digits` meets its contract: the shift of 1 is a power of two.
use Prim.Native.Nat.{ℕ, ◌/◌, ◌%◌, ◌^◌}
use native.Mathlib.Omega.{arith}
use mathlib.Core.Path.{ap}
use lib.Pow.{pow_pos}
use Rattle.bits.proofs.Turns.{one_shl}
use Rattle.bits.proofs.digits.Goals as goal

pub nonzero_rem-result : goal.nonzero_rem-result
nonzero_rem-result c = rw (one_shl c.args.n 32 (omega arith)) (pow_pos c.args.n)

pub returns : goal.returns
returns c = ap (λ (x : ℕ). c.args.v / 2 ^ c.args.r % x) (one_shl c.args.n 32 (omega arith))
