-- `bits::get` meets its contract: the field is cut out of the eight bytes from its first on, or read byte by byte near the end.
use Prim.Native.Nat.{ℕ, ◌+◌, ◌-◌, ◌*◌, ◌/◌, ◌%◌, ◌^◌}
use native.Mathlib.Omega.{arith}
use mathlib.Core.Path.{◌≡◌, ap, ◌∙◌}
use Rattle.bits.specs.Bits.{field}
use Rattle.bits.proofs.SixtyFour.{cut_at}
use Rattle.bits.proofs.get.Goals as goal

pub returns-then-i-bytes : goal.returns-then-i-bytes
returns-then-i-bytes c =
    let a = c.args in
    let p : 8 * (a.at / 8) + a.at % 8 ≡ a.at = omega arith in
    c.cut.ensures
    ∙ ap (λ (x : ℕ). x / 2 ^ (64 - a.at % 8 - a.width) % 2 ^ a.width) c.load.ensures
    ∙ cut_at a.bytes.now (8 * (a.at / 8)) (a.at % 8) a.width (omega arith) (omega arith)
    ∙ ap (λ (q : ℕ). field a.bytes.now q a.width) p
