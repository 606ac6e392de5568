-- `bits::words::load_at` meets its contract: eight bytes without their first bits, and the first bits of the ninth.
use Prim.Native.Nat.{ℕ, ◌+◌, ◌-◌, ◌*◌, ◌/◌, ◌%◌, ◌^◌}
use native.Mathlib.Omega.{arith}
use mathlib.Core.Path.{◌≡◌, refl, ap₂, ◌∙◌}
use Rattle.std.proofs.Common.{List, length, get_or, ◌≤◌, ◌<◌}
use Rattle.bits.specs.Bits.{field}
use Rattle.bits.proofs.Bytes.{field_lt}
use Rattle.bits.proofs.SixtyFour.{load-across}
use Rattle.bits.proofs.words.load_at.Goals as goal

-- the machine's sum is the field
across : (xs : List ℕ) (at first last : ℕ) → at / 8 + 9 ≤ length xs → ((i : ℕ) → get_or xs i 0 < 2 ^ 8)
    → first ≡ field xs (8 * (at / 8)) 64 → last ≡ get_or xs (at / 8 + 8) 0
    → first * 2 ^ (at % 8) % 2 ^ 64 + last / 2 ^ (8 - at % 8) ≡ field xs at 64
across xs at first last h small ef el =
    ap₂ (λ (x y : ℕ). x * 2 ^ (at % 8) % 2 ^ 64 + y / 2 ^ (8 - at % 8)) ef el ∙ load-across xs at h small

pub overflow_add-result : goal.overflow_add-result
overflow_add-result c =
    let a = c.args in
    let e = across a.bytes.now a.at c.load-first.result _ (omega arith) (λ i. (c.type_inv.bytes i).fits) c.load-first.ensures refl in
    record { fits = rw e (field_lt c.args.bytes.now c.args.at 64 (omega arith)) }

pub returns : goal.returns
returns c =
    let a = c.args in
    across a.bytes.now a.at c.load-first.result _ (omega arith) (λ i. (c.type_inv.bytes i).fits) c.load-first.ensures refl
