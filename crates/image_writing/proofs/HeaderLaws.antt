-- The header's four fields written end to end are the header.
use Prim.Native.Nat.{ℕ, ◌≤◌}
use native.Mathlib.Omega.{arith}
use mathlib.Core.List.{List, ◌++◌}
use mathlib.Core.Path.{◌≡◌, refl, ap, ◌∙◌}
use lib.ListN.{length, length-append}
use Rattle.bits.specs.Bits.{bits}
use Rattle.bits.specs.inner.Written.{written}
use Rattle.bits.proofs.Bytes.{length-written}
use Rattle.bits.proofs.Numbers.{length-bits}
use Rattle.image.specs.Image.{header_bits}
use Rattle.image.proofs.PartCalls.{put_then}

pub header-written : (xs : List ℕ) (n : ℕ) → 4 ≤ length xs → {a b c d : List ℕ}
    → a ≡ written xs 0 (bits 4 1) → b ≡ written a 4 (bits 12 32) → c ≡ written b 16 (bits 5 n) → d ≡ written c 21 (bits 11 0)
    → d ≡ written xs 0 (header_bits 1 32 n)
unfolding header_bits
header-written xs n h {a} {b} {c} {d} ea eb ec ed =
    let na : length a ≡ length xs = ap length ea ∙ length-written xs 0 (bits 4 1) in
    let nb : length b ≡ length xs = ap length eb ∙ length-written a 4 (bits 12 32) ∙ na in
    let last : List ℕ = bits 11 0 in
    let two : List ℕ = bits 5 n ++ last in
    let three : List ℕ = bits 12 32 ++ two in
    let n1 : length last ≡ 11 = length-bits 11 0 in
    let n2 : length two ≡ 16 = simp (length-append, length-bits) in
    let n3 : length three ≡ 28 = simp (length-append, length-bits) in
    let d₂ : d ≡ written b 16 two = put_then b c d 16 5 n 21 last refl ec ed (omega (arith, n1, nb)) in
    let d₃ : d ≡ written a 4 three = put_then a b d 4 12 32 16 two refl eb d₂ (omega (arith, n2, na)) in
    put_then xs a d 0 4 1 4 three refl ea d₃ (omega (arith, n3))
