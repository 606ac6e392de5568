-- Bits and their pad written from the first bit on are the bits' bytes at the front of the bytes; those behind stay.
-- Assumes that the bytes are below 256.
use Prim.Native.Nat.{ℕ, zero, suc, ◌+◌, ◌*◌, ◌/◌, ◌≤◌}
use native.Mathlib.Nat.{zero-add, suc-add}
use native.Mathlib.Omega.{arith}
use mathlib.Core.List.{List, [], ◌∷◌, ◌++◌}
use mathlib.Core.Path.{◌≡◌, sym, ap, ap₂, ◌∙◌}
use lib.ListN.{length, take, drop, length-drop}
use lib.Seq.{take-append-le, drop-append-le}
use Rattle.bits.specs.Bits.{number, unpacked, packed}
use Rattle.bits.specs.inner.Written.{over, written}
use Rattle.bits.proofs.Bytes.{unpacked-drop, packed-unpacked}
use Rattle.bits.proofs.Numbers.{Below, below-drop}
use Rattle.image.specs.Image.{padded, bytes_of}
use Rattle.image.proofs.ImageBits.{length-padded, length-bytes}

-- bytes of m bytes' bits and of those behind them
packed-append : (m k : ℕ) (a b : List ℕ) → length a ≡ 8 * m → packed (m + k) (a ++ b) ≡ packed m a ++ packed k b
unfolding packed
packed-append zero k [] b e = ap (λ (x : ℕ). packed x b) (zero-add k)
packed-append zero k (x ∷ a) b e = absurd (omega arith)
packed-append (suc m) k a b e =
    let h : 8 ≤ length a = omega arith in
    let d : length (drop 8 a) ≡ 8 * m = length-drop 8 a ∙ omega arith in
    ap (λ (x : ℕ). packed x (a ++ b)) (suc-add m k)
    ∙ ap₂ (λ (x y : List ℕ). number x ∷ packed (m + k) y) (take-append-le 8 a b h) (drop-append-le 8 a b h)
    ∙ ap (λ (x : List ℕ). number (take 8 a) ∷ x) (packed-append m k (drop 8 a) b d)

pub image-front : (l xs : List ℕ) → Below 256 xs → (length l + 7) / 8 ≤ length xs → written xs 0 (padded l) ≡ bytes_of l ++ drop (length (bytes_of l)) xs
unfolding written over bytes_of
image-front l xs b h =
    let m : ℕ = (length l + 7) / 8 in
    let e : length xs ≡ m + length (drop m xs) = omega (arith, length-drop m xs) in
    let z : 0 + length (padded l) ≡ 8 * m = omega (arith, length-padded l) in
    ap₂ (λ (x y : ℕ). packed x (padded l ++ drop y (unpacked xs))) e z
    ∙ ap (λ (y : List ℕ). packed (m + length (drop m xs)) (padded l ++ y)) (unpacked-drop m xs)
    ∙ packed-append m (length (drop m xs)) (padded l) (unpacked (drop m xs)) (length-padded l)
    ∙ ap (λ (x : List ℕ). packed m (padded l) ++ x) (packed-unpacked (drop m xs) (below-drop 256 m xs b))
    ∙ ap (λ (x : ℕ). packed m (padded l) ++ drop x xs) (sym (length-bytes l))
