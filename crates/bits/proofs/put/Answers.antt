-- `bits::put` meets its contract: 32 bits are four bytes, at any place.
use Prim.Native.Nat.{ℕ, ◌<◌}
use native.Mathlib.Omega.{arith}
use mathlib.Core.Path.{◌≡◌, ap, ◌∙◌}
use Rattle.bits.specs.Bits.{bits}
use Rattle.bits.specs.inner.Written.{written}
use Rattle.bits.proofs.put.Goals as goal

pub put_bytes-requires : goal.put_bytes-requires
put_bytes-requires c =
    let v : c.args.value < 4294967296 = omega (arith, c.ranges.value) in
    ((omega arith, omega arith), (omega arith, v))

pub returns-then-width-eq32 : goal.returns-then-width-eq32
returns-then-width-eq32 c =
    let a = c.args in
    let w : 32 ≡ a.width = omega arith in
    c.put_bytes.ensures ∙ ap (λ (k : ℕ). written a.buf.now a.at (bits k a.value)) w

pub returns : goal.returns
returns c = c.put_by_bytes.ensures
