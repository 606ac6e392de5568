-- `bits::put_first` meets its contract: one byte is spliced.
use Prim.Native.Nat.{ℕ}
use native.Mathlib.Omega.{arith}
use mathlib.Core.Path.{ap, ◌∙◌}
use lib.ListN.{get_or}
use Rattle.std.proofs.Common.{◌<◌, ◌^◌}
use Rattle.bits.specs.Bits.{bits}
use Rattle.bits.specs.inner.Written.{over}
use Rattle.bits.proofs.SixtyFour.{first-written}
use Rattle.bits.proofs.put_first.Goals as goal

pub returns : goal.returns
returns c =
    let a = c.args in
    let small : (j : ℕ) → get_or a.buf.now j 0 < 2 ^ 8 = λ j. grind arith in
    first-written a.buf.now a.i a.n a.value c.spliced.result (omega arith) (omega arith) (omega arith) small c.spliced.type_inv
    (c.spliced.ensures ∙ ap (λ (p : ℕ). over (bits 8 (get_or a.buf.now a.i 0)) 0 (bits a.n p)) c.digits.ensures)
