-- `bits::put_long` meets its contract: a number of more than 32 bits is put in two parts.
use Prim.Native.Nat.{ℕ, ◌+◌, ◌-◌, ◌/◌, ◌%◌, ◌^◌}
use native.Mathlib.Omega.{arith}
use mathlib.Core.List.{List}
use mathlib.Core.Path.{ap, ◌∙◌}
use lib.ListN.{length}
use Rattle.bits.specs.Bits.{bits}
use Rattle.bits.specs.inner.Written.{written}
use Rattle.bits.proofs.Bytes.{length-written}
use Rattle.bits.proofs.SixtyFour.{bits-low, long-written}
use Rattle.bits.proofs.put_long.Goals as goal

pub returns-then-width-le32 : goal.returns-then-width-le32
returns-then-width-le32 c =
    let a = c.args in
    c.put.ensures ∙ ap (written a.buf.now a.at) (bits-low a.width 32 a.value (omega arith))

pub put-requires-3 : goal.put-requires-3
put-requires-3 c =
    let a = c.args in
    omega (arith, ap length c.put-2.ensures ∙ length-written a.buf.now a.at (bits (a.width - 32) (a.value / 2 ^ 32)))

pub returns : goal.returns
returns c =
    let a = c.args in
    c.put-3.ensures
    ∙ ap (λ (l : List ℕ). written l (a.at + (a.width - 32)) (bits 32 (a.value % 2 ^ 32)))
    c.put-2.ensures
    ∙ long-written a.buf.now a.at a.width a.value (omega arith) (omega arith)
