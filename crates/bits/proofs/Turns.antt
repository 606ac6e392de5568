-- One turn of the loops that get and put a field: the bits of one byte.
-- The machine's shifts lose nothing here.
use Prim.Native.Nat.{ℕ, ◌+◌, ◌-◌, ◌*◌, ◌/◌, ◌%◌, ◌^◌, ◌≤◌, ◌<◌}
use native.Mathlib.Nat.{pow-zero, mod-eq_of_lt, mod-lt, div-one, add_comm, one-mul, lt_of_lt_of_le, le_of_eq}
use native.Mathlib.Omega.{arith}
use mathlib.Core.Path.{◌≡◌, refl, sym, ap, ap₂, ◌∙◌}
use mathlib.Core.List.{List, ◌++◌}
use lib.ListN.{length, take, drop, get_or, set}
use lib.Pow.{pow_pos, pow-add, shr-shr, shl_exact, pow_mono, shr_lt}
use lib.Pow
use lib.Arith.{digits_lt}
use Rattle.bits.specs.Bits.{bits, number, unpacked, packed, field}
use Rattle.bits.specs.inner.Written.{over, written}
use Rattle.bits.proofs.Bytes.{length-unpacked, packed-unpacked, unpacked-byte, unpacked-set, field-byte, field-add, field_lt}
use Rattle.bits.proofs.Numbers.{length-bits, bits-add, take-bits, drop_bits, bits-mod, bits-cong, Below}
use Rattle.bits.proofs.Overlay.{over-over, over-own, over-within}

pub one_shl : (n w : ℕ) → n < w → (1 * 2 ^ n) % 2 ^ w ≡ 2 ^ n
one_shl n w h = shl_exact 1 n w (omega arith) (omega arith) ∙ one-mul (2 ^ n)

-- a field inside the byte that holds its place
pub field-place : (xs : List ℕ) (q n : ℕ) → 0 < n → q % 8 + n ≤ 8 → q + n ≤ 8 * length xs → field xs q n ≡ get_or xs (q / 8) 0 / 2 ^ (8 - q % 8 - n) % 2 ^ n
field-place xs q n z h k =
    let e : q ≡ 8 * (q / 8) + q % 8 = omega arith in
    ap (λ (x : ℕ). field xs x n) e ∙ field-byte xs (q / 8) (q % 8) n (8 - q % 8 - n) (omega arith) (omega arith)

-- one turn of reading: n bits more
pub get-turn : (xs : List ℕ) (at done n v p : ℕ)
    → 0 < n → (at + done) % 8 + n ≤ 8 → at + done + n ≤ 8 * length xs → done + n ≤ 32
    → v ≡ field xs at done → p ≡ get_or xs ((at + done) / 8) 0 / 2 ^ (8 - (at + done) % 8 - n) % 2 ^ n
    → v * 2 ^ n % 2 ^ 32 + p ≡ field xs at (done + n)
get-turn xs at done n v p z h k w ev ep =
    let b : v < 2 ^ done = rw ev (field_lt xs at done (omega arith)) in
    ap₂ (λ (x y : ℕ). x + y)
    (shl_exact done n 32 b w ∙ ap (λ (x : ℕ). x * 2 ^ n) ev)
    (ep ∙ sym (field-place xs (at + done) n z h k))
    ∙ sym (field-add xs at done n k)

pub field_fits : (xs : List ℕ) (at w : ℕ) → at + w ≤ 8 * length xs → w ≤ 32 → field xs at w < 2 ^ 32
field_fits xs at w h k = lt_of_lt_of_le (field_lt xs at w h) (pow_mono k)

pub field-none : (xs : List ℕ) (at : ℕ) → field xs at 0 ≡ 0
unfolding field number
field-none xs at = refl

-- a byte with a part replaced: x's high bits, p, x's low bits
pub splice : (off n r x p : ℕ) → off + (n + r) ≡ 8 → p < 2 ^ n → x < 256
    → bits 8 ((x / 2 ^ (n + r) * 2 ^ n + p) * 2 ^ r + x % 2 ^ r) ≡ over (bits 8 x) off (bits n p)
unfolding over
splice off n r x p e h b =
    let hi : ℕ = x / 2 ^ (n + r) in
    let y : ℕ = (hi * 2 ^ n + p) * 2 ^ r + x % 2 ^ r in
    let lo : x % 2 ^ r < 2 ^ r = mod-lt x (pow_pos r) in
    let y₁ : y / 2 ^ r ≡ hi * 2 ^ n + p = Pow.high (hi * 2 ^ n + p) r lo in
    let y₂ : y / 2 ^ (n + r) ≡ hi = ap (λ (k : ℕ). y / 2 ^ k) (add_comm n r) ∙ sym (shr-shr y r n) ∙ ap (λ (k : ℕ). k / 2 ^ n) y₁ ∙ Pow.high hi n h in
    let s : (z : ℕ) → bits 8 z ≡ bits off (z / 2 ^ (n + r)) ++ (bits n (z / 2 ^ r) ++ bits r z) =
    λ z. ap (λ (k : ℕ). bits k z) (sym e) ∙ bits-add off (n + r) z ∙ ap (λ (t : List ℕ). bits off (z / 2 ^ (n + r)) ++ t) (bits-add n r z) in
    let t₁ : take off (bits 8 x) ≡ bits off hi = ap (λ (k : ℕ). take off (bits k x)) (sym e) ∙ take-bits off (n + r) x in
    let f : off + n + r ≡ 8 = omega arith in
    let g : off + length (bits n p) ≡ off + n = ap (λ (k : ℕ). off + k) (length-bits n p) in
    let t₂ : drop (off + length (bits n p)) (bits 8 x) ≡ bits r x =
    ap (λ (k : ℕ). drop k (bits 8 x)) g ∙ ap (λ (k : ℕ). drop (off + n) (bits k x)) (sym f) ∙ drop_bits (off + n) r x in
    let m : bits n (y / 2 ^ r) ≡ bits n p = bits-cong n (y / 2 ^ r) p (ap (λ (k : ℕ). k % 2 ^ n) y₁ ∙ Pow.low hi n h ∙ sym (mod-eq_of_lt h)) in
    let l : bits r y ≡ bits r x = bits-cong r y x (Pow.low (hi * 2 ^ n + p) r lo) in
    s y
    ∙ ap (λ (k : ℕ). bits off k ++ (bits n (y / 2 ^ r) ++ bits r y)) y₂
    ∙ ap₂ (λ (u t : List ℕ). bits off hi ++ (u ++ t)) m l
    ∙ sym (ap₂ (λ (u t : List ℕ). u ++ (bits n p ++ t)) t₁ t₂)

-- one turn of writing: n bits more
pub put-turn : (xs ys : List ℕ) (at w done n v y : ℕ)
    → 0 < n → (at + done) % 8 + n ≤ 8 → at + done + n ≤ 8 * length xs → length ys ≡ length xs → done + n ≤ w
    → unpacked ys ≡ over (unpacked xs) at (bits done (v / 2 ^ (w - done)))
    → bits 8 y ≡ over (bits 8 (get_or ys ((at + done) / 8) 0)) ((at + done) % 8) (bits n (v / 2 ^ (w - done - n) % 2 ^ n))
    → unpacked (set ys ((at + done) / 8) y) ≡ over (unpacked xs) at (bits (done + n) (v / 2 ^ (w - (done + n))))
put-turn xs ys at w done n v y z h k el kw eu ey =
    let q : ℕ = at + done in
    let i : ℕ = q / 8 in
    let off : ℕ = q % 8 in
    let r : ℕ = w - (done + n) in
    let e : 8 * i + off ≡ q = omega arith in
    let ir : i < length ys = omega arith in
    let ln : length (bits n (v / 2 ^ r)) ≡ n = length-bits n (v / 2 ^ r) in
    let ld : q ≡ at + length (bits done (v / 2 ^ (w - done))) = ap (λ (x : ℕ). at + x) (sym (length-bits done (v / 2 ^ (w - done)))) in
    let bn : bits n (v / 2 ^ (w - done - n) % 2 ^ n) ≡ bits n (v / 2 ^ r) =
    bits-mod n (v / 2 ^ (w - done - n)) ∙ ap (λ (x : ℕ). bits n (v / 2 ^ x)) (sub-add w done n) in
    let bd : bits (done + n) (v / 2 ^ r) ≡ bits done (v / 2 ^ (w - done)) ++ bits n (v / 2 ^ r) =
    bits-add done n (v / 2 ^ r) ∙ ap (λ (x : ℕ). bits done x ++ bits n (v / 2 ^ r)) (shr-shr v r n ∙ ap (λ (x : ℕ). v / 2 ^ x) (omega arith)) in
    unpacked-set ys i y ir
    ∙ ap (over (unpacked ys) (8 * i)) (ey ∙ ap₂ (λ (a b : List ℕ). over a off b) (sym (unpacked-byte ys i ir)) bn)
    ∙ over-within (unpacked ys) (8 * i) 8 off (bits n (v / 2 ^ r)) (omega (arith, length-unpacked ys)) (omega arith)
    ∙ ap₂ (λ (a : ℕ) (b : List ℕ). over b a (bits n (v / 2 ^ r))) e eu
    ∙ over-over (unpacked xs) at (bits done (v / 2 ^ (w - done))) (bits n (v / 2 ^ r)) q ld (omega (arith, length-unpacked xs))
    ∙ ap (over (unpacked xs) at) (sym bd)
  where
    sub-add : (a b c : ℕ) → a - b - c ≡ a - (b + c)
    sub-add a b c = omega arith

-- the start and the end of writing
pub put-none : (xs : List ℕ) (at w v : ℕ) → at + w ≤ 8 * length xs → unpacked xs ≡ over (unpacked xs) at (bits 0 (v / 2 ^ (w - 0)))
unfolding over bits
put-none xs at w v h = sym (over-own (unpacked xs) at 0 (omega (arith, length-unpacked xs)))

pub put_all : (xs ys : List ℕ) (at w v k : ℕ) → length ys ≡ length xs → Below 256 ys → k ≡ w
    → unpacked ys ≡ over (unpacked xs) at (bits k (v / 2 ^ (w - k))) → ys ≡ written xs at (bits w v)
unfolding written
put_all xs ys at w v k el b ek eu =
    sym (packed-unpacked ys b) ∙ ap₂ packed el (eu ∙ ap (over (unpacked xs) at) f)
  where
    f : bits k (v / 2 ^ (w - k)) ≡ bits w v
    f =
        let z : w - k ≡ 0 = omega arith in
        ap₂ (λ (a c : ℕ). bits a (v / 2 ^ c)) ek z ∙ ap (bits w) (rw pow-zero (div-one v))

-- the machine's sum for a spliced byte: nothing is shifted out
module _ (off n r x p : ℕ) (e : off + (n + r) ≡ 8) (h : p < 2 ^ n) (b : x < 2 ^ 8) where
  splice-high : x / 2 ^ (n + r) < 2 ^ off
  splice-high = shr_lt off (n + r) (rw e b)

  pub splice-first : x / 2 ^ (n + r) * 2 ^ n % 2 ^ 32 ≡ x / 2 ^ (n + r) * 2 ^ n
  splice-first = shl_exact off n 32 splice-high (omega arith)

  splice-mid : x / 2 ^ (n + r) * 2 ^ n + p < 2 ^ (off + n)
  splice-mid = rw (pow-add 2 off n) (digits_lt splice-high h)

  pub splice-fits : x / 2 ^ (n + r) * 2 ^ n % 2 ^ 32 + p < 2 ^ 32
  splice-fits =
      let w : off + n ≤ 32 = omega arith in
      rw splice-first (lt_of_lt_of_le splice-mid (pow_mono w))

  pub splice-sum : (x / 2 ^ (n + r) * 2 ^ n % 2 ^ 32 + p) * 2 ^ r % 2 ^ 32 + x % (1 * 2 ^ r % 2 ^ 32) ≡ (x / 2 ^ (n + r) * 2 ^ n + p) * 2 ^ r + x % 2 ^ r
  splice-sum =
      ap₂ (λ (a c : ℕ). (a + p) * 2 ^ r % 2 ^ 32 + x % c) splice-first (one_shl r 32 (omega arith))
      ∙ ap (λ (a : ℕ). a + x % 2 ^ r) (shl_exact (off + n) r 32 splice-mid (omega arith))

  pub splice-byte : (x / 2 ^ (n + r) * 2 ^ n % 2 ^ 32 + p) * 2 ^ r % 2 ^ 32 + x % (1 * 2 ^ r % 2 ^ 32) < 2 ^ 8
  splice-byte =
      let f : 8 ≡ off + n + r = omega arith in
      let q : 2 ^ 8 ≡ 2 ^ (off + n) * 2 ^ r = ap (λ (k : ℕ). 2 ^ k) f ∙ pow-add 2 (off + n) r in
      lt_of_lt_of_le (rw splice-sum (digits_lt splice-mid (mod-lt x (pow_pos r)))) (le_of_eq (sym q))
