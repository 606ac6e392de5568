-- `bits::words::cut` meets its contract: what a shift to the left drops is above the bits looked for.
use Prim.Native.Nat.{◌-◌, ◌/◌, ◌^◌, ◌≤◌}
use native.Mathlib.Nat.{mod-lt, lt_of_lt_of_le}
use native.Mathlib.Omega.{arith}
use lib.Pow.{pow_pos, pow_mono}
use Rattle.bits.proofs.SixtyFour.{cut-machine}
use Rattle.bits.proofs.words.cut.Goals as goal

pub overflow_cast-result : goal.overflow_cast-result
overflow_cast-result c =
    let a = c.args in
    let n = cut-machine a.v a.used a.width (omega arith) (omega arith) (omega arith) in
    let w : a.width ≤ 32 = omega arith in
    record { fits = rw n (lt_of_lt_of_le (mod-lt (a.v / 2 ^ (64 - a.used - a.width)) (pow_pos a.width)) (pow_mono w)) }

pub returns : goal.returns
returns c = cut-machine c.args.v c.args.used c.args.width (omega arith) (omega arith) (omega arith)
