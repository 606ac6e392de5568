-- Sixty-four bits at once: eight bytes loaded and stored, a field cut out of them, fields joined to them.
use Prim.Native.Nat.{ℕ, ◌+◌, ◌-◌, ◌*◌, ◌/◌, ◌%◌, ◌^◌, ◌≤◌, ◌<◌}
use native.Mathlib.Nat.{pow-zero, mod-eq_of_lt, mod-lt, div-one, add-zero, lt_of_lt_of_le}
use native.Mathlib.Omega.{arith}
use mathlib.Core.Path.{◌≡◌, refl, sym, ap, ap₂, subst, ◌∙◌}
use mathlib.Core.List.{List, ◌++◌, append_assoc, append-nil}
use lib.ListN.{length, get_or, set, length-set, drop_of_length-le}
use lib.Pow.{pow_pos, pow-add, shl_exact, shl-shr, shr-shr, shr_lt, shr_le, pow_mono, mod-pow-add, mod-mod-pow}
use lib.Pow
use lib.Arith.{digits_lt}
use Rattle.bits.specs.Bits.{bits, unpacked, field}
use Rattle.bits.specs.inner.Written.{over, written}
use Rattle.bits.proofs.Bytes.{field-byte, field-add, field_lt, written-written, put-get}
use Rattle.bits.proofs.Numbers.{add-mul-assoc, length-bits, bits-add, bits-mod, bits-cong, Below, below-bits, below_set}
use Rattle.bits.proofs.Turns.{put-turn, put-none, put_all}

-- ---- reading
-- one turn of loading: a byte more
pub load-turn : (xs : List ℕ) (i k v b : ℕ) → k < 8 → i + 8 ≤ length xs → get_or xs (i + k) 0 < 2 ^ 8
    → v ≡ field xs (8 * i) (8 * k) → b ≡ get_or xs (i + k) 0 → v * 2 ^ 8 % 2 ^ 64 + b ≡ field xs (8 * i) (8 * (k + 1))
load-turn xs i k v b h n small ev eb =
    let f : v < 2 ^ (8 * k) = rw ev (field_lt xs (8 * i) (8 * k) (omega arith)) in
    let q : 8 * (i + k) + 0 ≡ 8 * i + 8 * k = omega arith in
    let e : field xs (8 * i + 8 * k) 8 ≡ get_or xs (i + k) 0 =
    ap (λ (p : ℕ). field xs p 8) (sym q) ∙ field-byte xs (i + k) 0 8 0 (omega arith) (omega arith)
    ∙ ap (λ (x : ℕ). x % 2 ^ 8) (rw pow-zero (div-one (get_or xs (i + k) 0))) ∙ mod-eq_of_lt small in
    let w : 8 * (k + 1) ≡ 8 * k + 8 = omega arith in
    ap₂ (λ (x y : ℕ). x + y) (shl_exact (8 * k) 8 64 f (omega arith) ∙ ap (λ (x : ℕ). x * 2 ^ 8) ev) (eb ∙ sym e)
    ∙ sym (ap (field xs (8 * i)) w ∙ field-add xs (8 * i) (8 * k) 8 (omega arith))

pub load_fits : (xs : List ℕ) (i k : ℕ) → k ≤ 8 → i + 8 ≤ length xs → field xs (8 * i) (8 * k) < 2 ^ 64
load_fits xs i k h n =
    let w : 8 * k ≤ 64 = omega arith in
    lt_of_lt_of_le (field_lt xs (8 * i) (8 * k) (omega arith)) (pow_mono w)

-- the middle one of three parts of a number
cut-number : (x a f g w r : ℕ) → x ≡ a * 2 ^ (w + r) + (f * 2 ^ r + g) → g < 2 ^ r → f < 2 ^ w → x / 2 ^ r % 2 ^ w ≡ f
cut-number x a f g w r e hg hf =
    let s : x ≡ (a * 2 ^ w + f) * 2 ^ r + g =
    e ∙ ap (λ (p : ℕ). a * p + (f * 2 ^ r + g)) (pow-add 2 w r) ∙ sym (add-mul-assoc a (2 ^ w) f (2 ^ r) g) in
    ap (λ (y : ℕ). y / 2 ^ r % 2 ^ w) s ∙ ap (λ (y : ℕ). y % 2 ^ w) (Pow.high (a * 2 ^ w + f) r hg) ∙ Pow.low a w hf

-- a field out of the 64 bits from a place on
pub cut_at : (xs : List ℕ) (at u w : ℕ) → at + 64 ≤ 8 * length xs → u + w ≤ 64
    → field xs at 64 / 2 ^ (64 - u - w) % 2 ^ w ≡ field xs (at + u) w
cut_at xs at u w h n =
    let r : ℕ = 64 - u - w in
    let e : 64 ≡ u + (w + r) = omega arith in
    let s : field xs at 64 ≡ field xs at u * 2 ^ (w + r) + (field xs (at + u) w * 2 ^ r + field xs (at + u + w) r) =
    ap (field xs at) e ∙ field-add xs at u (w + r) (omega arith)
    ∙ ap (λ (y : ℕ). field xs at u * 2 ^ (w + r) + y) (field-add xs (at + u) w r (omega arith)) in
    cut-number (field xs at 64) (field xs at u) (field xs (at + u) w) (field xs (at + u + w) r) w r s
    (field_lt xs (at + u + w) r (omega arith)) (field_lt xs (at + u) w (omega arith))

-- the machine's shift to the left drops what is above 64 bits
shl-drops : (v u : ℕ) → u ≤ 64 → v * 2 ^ u % 2 ^ 64 ≡ v % 2 ^ (64 - u) * 2 ^ u
shl-drops v u h =
    let s : 64 ≡ 64 - u + u = omega arith in
    let z : v * 2 ^ u % 2 ^ u ≡ 0 = ap (λ (x : ℕ). x % 2 ^ u) (sym (add-zero (v * 2 ^ u))) ∙ Pow.low v u (pow_pos u) in
    ap (λ (k : ℕ). v * 2 ^ u % 2 ^ k) s ∙ mod-pow-add (v * 2 ^ u) (64 - u) u
    ∙ ap₂ (λ (x y : ℕ). x % 2 ^ (64 - u) * 2 ^ u + y) (shl-shr v u) z ∙ add-zero (v % 2 ^ (64 - u) * 2 ^ u)

pub cut-machine : (v u w : ℕ) → u < 64 → w ≤ 32 → u + w ≤ 64
    → v * 2 ^ u % 2 ^ 64 / 2 ^ 32 / 2 ^ (32 - w) ≡ v / 2 ^ (64 - u - w) % 2 ^ w
cut-machine v u w h n k =
    let r : ℕ = 64 - u - w in
    let x : ℕ = v % 2 ^ (64 - u) in
    let a : 32 + (32 - w) ≡ u + r = omega arith in
    let b : 64 - u ≡ w + r = omega arith in
    ap (λ (y : ℕ). y / 2 ^ 32 / 2 ^ (32 - w)) (shl-drops v u (omega arith))
    ∙ shr-shr (x * 2 ^ u) 32 (32 - w) ∙ ap (λ (y : ℕ). x * 2 ^ u / 2 ^ y) a
    ∙ sym (shr-shr (x * 2 ^ u) u r) ∙ ap (λ (y : ℕ). y / 2 ^ r) (shl-shr x u)
    ∙ ap (λ (y : ℕ). v % 2 ^ y / 2 ^ r) b ∙ Pow.field v w r

-- the 64 bits from a place on: eight bytes without their first bits, and the first bits of the ninth
pub load-across : (xs : List ℕ) (at : ℕ) → at / 8 + 9 ≤ length xs → Below 256 xs
    → field xs (8 * (at / 8)) 64 * 2 ^ (at % 8) % 2 ^ 64 + get_or xs (at / 8 + 8) 0 / 2 ^ (8 - at % 8) ≡ field xs at 64
load-across xs at h b =
    let o : ℕ = at % 8 in
    let i : ℕ = at / 8 in
    let y : ℕ = get_or xs (i + 8) 0 in
    let p : 8 * i + o ≡ at = omega arith in
    let q : 8 * (i + 8) + 0 ≡ at + (64 - o) = omega arith in
    let s : 64 ≡ o + (64 - o) = omega arith in
    let t : 64 - o + o ≡ 64 = omega arith in
    let u : o + (8 - o) ≡ 8 = omega arith in
    let top : y / 2 ^ (8 - o) < 2 ^ o = shr_lt o (8 - o) (subst (λ (k : ℕ). y < 2 ^ k) (sym u) (b (i + 8))) in
    let first : field xs (8 * i) 64 % 2 ^ (64 - o) ≡ field xs at (64 - o) =
    ap (λ (x : ℕ). x % 2 ^ (64 - o))
    (ap (field xs (8 * i)) s ∙ field-add xs (8 * i) o (64 - o) (omega arith) ∙ ap (λ (k : ℕ). field xs (8 * i) o * 2 ^ (64 - o) + field xs k (64 - o)) p)
    ∙ Pow.low (field xs (8 * i) o) (64 - o) (field_lt xs at (64 - o) (omega arith)) in
    let last : field xs (at + (64 - o)) o ≡ y / 2 ^ (8 - o) =
    ap (λ (k : ℕ). field xs k o) (sym q) ∙ field-byte xs (i + 8) 0 o (8 - o) (omega arith) (omega arith) ∙ mod-eq_of_lt top in
    ap₂ (λ (x z : ℕ). x + z) (shl-drops (field xs (8 * i) 64) o (omega arith) ∙ ap (λ (x : ℕ). x * 2 ^ o) first) (sym last)
    ∙ sym (field-add xs at (64 - o) o (omega arith)) ∙ ap (field xs at) t

-- ---- writing
over-all : (l bs : List ℕ) → length l ≡ length bs → over l 0 bs ≡ bs
unfolding over
over-all l bs e =
    let h : length l ≤ 0 + length bs = omega arith in
    ap (λ (t : List ℕ). bs ++ t) (drop_of_length-le l h) ∙ append-nil bs

-- the low bits of a number's low bits
pub bits-low : (w k v : ℕ) → w ≤ k → bits w (v % 2 ^ k) ≡ bits w v
bits-low w k v h =
    let e : k ≡ k - w + w = omega arith in
    bits-cong w (v % 2 ^ k) v (ap (λ (x : ℕ). v % 2 ^ x % 2 ^ w) e ∙ mod-mod-pow v (k - w) w)

-- one turn of storing m bytes: a byte more
pub store-turn : (xs ys : List ℕ) (i m k v y : ℕ) → k < m → i + m ≤ length xs → length ys ≡ length xs
    → unpacked ys ≡ over (unpacked xs) (8 * i) (bits (8 * k) (v / 2 ^ (8 * m - 8 * k))) → y ≡ v / 2 ^ (8 * (m - k - 1)) % 2 ^ 8
    → unpacked (set ys (i + k) y) ≡ over (unpacked xs) (8 * i) (bits (8 * (k + 1)) (v / 2 ^ (8 * m - 8 * (k + 1))))
store-turn xs ys i m k v y h n el eu ey =
    let p : ℕ = 8 * i + 8 * k in
    let x : ℕ = get_or ys (p / 8) 0 in
    let t : ℕ = v / 2 ^ (8 * m - 8 * k - 8) % 2 ^ 8 in
    let q : p / 8 ≡ i + k = omega arith in
    let z : p % 8 ≡ 0 = omega arith in
    let r : 8 * m - 8 * k - 8 ≡ 8 * (m - k - 1) = omega arith in
    let d : 8 * k + 8 ≡ 8 * (k + 1) = omega arith in
    let byte : bits 8 y ≡ over (bits 8 x) (p % 8) (bits 8 t) =
    ap (bits 8) (ey ∙ ap (λ (e : ℕ). v / 2 ^ e % 2 ^ 8) (sym r))
    ∙ sym (over-all (bits 8 x) (bits 8 t) (length-bits 8 x ∙ sym (length-bits 8 t)))
    ∙ ap (λ (o : ℕ). over (bits 8 x) o (bits 8 t)) (sym z) in
    ap (λ (e : ℕ). unpacked (set ys e y)) (sym q)
    ∙ put-turn xs ys (8 * i) (8 * m) (8 * k) 8 v y (omega arith) (omega arith) (omega arith) el (omega arith) eu byte
    ∙ ap (λ (e : ℕ). over (unpacked xs) (8 * i) (bits e (v / 2 ^ (8 * m - e)))) d

-- a byte whose first n bits are replaced
pub first-written : (xs : List ℕ) (i n v y : ℕ) → 0 < n → n ≤ 8 → i < length xs → Below 256 xs → y < 256
    → bits 8 y ≡ over (bits 8 (get_or xs i 0)) 0 (bits n (v / 2 ^ 0 % 2 ^ n)) → set xs i y ≡ written xs (8 * i) (bits n v)
first-written xs i n v y p l h b small e =
    let q : (8 * i + 0) / 8 ≡ i = omega arith in
    let z : (8 * i + 0) % 8 ≡ 0 = omega arith in
    let r : n - 0 - n ≡ 0 = omega arith in
    let byte : bits 8 y ≡ over (bits 8 (get_or xs ((8 * i + 0) / 8) 0)) ((8 * i + 0) % 8) (bits n (v / 2 ^ (n - 0 - n) % 2 ^ n)) =
    e ∙ ap₂ (λ (a o : ℕ). over (bits 8 (get_or xs a 0)) o (bits n (v / 2 ^ 0 % 2 ^ n))) (sym q) (sym z)
    ∙ ap (λ (k : ℕ). over (bits 8 (get_or xs ((8 * i + 0) / 8) 0)) ((8 * i + 0) % 8) (bits n (v / 2 ^ k % 2 ^ n))) (sym r) in
    put_all xs (set xs i y) (8 * i) n v (0 + n) (length-set xs i y) (below_set 256 xs i y small b) (omega arith)
    (ap (λ (a : ℕ). unpacked (set xs a y)) (sym q)
    ∙ put-turn xs xs (8 * i) n 0 n v y p (omega arith) (omega arith) refl (omega arith) (put-none xs (8 * i) n v (omega arith)) byte)

-- bits joined are those of one number
pub joins : (c w held v : ℕ) → bits c held ++ bits w v ≡ bits (c + w) (held * 2 ^ w + v % 2 ^ w)
joins c w held v =
    let x : ℕ = held * 2 ^ w + v % 2 ^ w in
    let l : v % 2 ^ w < 2 ^ w = mod-lt v (pow_pos w) in
    sym
    (bits-add c w x
    ∙ ap₂ (λ (a : ℕ) (t : List ℕ). bits c a ++ t) (Pow.high held w l) (bits-cong w x v (Pow.low held w l)))

-- bits that fill a word, and the rest of them
pub fills : (c w r held v : ℕ) → c + w ≡ 64 + r → r ≤ w
    → bits c held ++ bits w v ≡ bits 64 (held * 2 ^ (w - r) + v / 2 ^ r % 2 ^ (w - r)) ++ bits r (v % 2 ^ r)
fills c w r held v e h =
    let s : w ≡ w - r + r = omega arith in
    let n : c + (w - r) ≡ 64 = omega arith in
    let x : ℕ = held * 2 ^ (w - r) + v / 2 ^ r % 2 ^ (w - r) in
    ap (λ (k : ℕ). bits c held ++ bits k v) s
    ∙ ap (λ (t : List ℕ). bits c held ++ t) (bits-add (w - r) r v)
    ∙ sym (append_assoc (bits c held) (bits (w - r) (v / 2 ^ r)) (bits r v))
    ∙ ap₂ (λ (a b : List ℕ). a ++ b) (joins c (w - r) held (v / 2 ^ r) ∙ ap (λ (k : ℕ). bits k x) n) (sym (bits-mod r v))

-- m bytes' bits at a place inside a byte: the byte's bits before the place are written where they stand
pub bytes-written : (xs : List ℕ) (at m v : ℕ) → Below 256 xs → 0 < m → at + 8 * m ≤ 8 * length xs → v < 2 ^ (8 * m)
    → written (written xs (8 * (at / 8)) (bits (8 * m) (get_or xs (at / 8) 0 / 2 ^ (8 - at % 8) * 2 ^ (8 * m - at % 8) + v / 2 ^ (at % 8))))
    (at + (8 * m - at % 8)) (bits (at % 8) (v % 2 ^ 8))
    ≡ written xs at (bits (8 * m) v)
bytes-written xs at m v b pos h small =
    let o : ℕ = at % 8 in
    let i : ℕ = at / 8 in
    let z : ℕ = 8 * m - o in
    let x : ℕ = get_or xs i 0 / 2 ^ (8 - o) in
    let y : List ℕ = bits z (v / 2 ^ o) in
    let p : 8 * i + o ≡ at = omega arith in
    let q : 8 * i + 0 ≡ 8 * i = omega arith in
    let s : 8 * m ≡ z + o = omega arith in
    let t : 8 * m ≡ o + z = omega arith in
    let l : v / 2 ^ o < 2 ^ z = shr_lt z o (subst (λ (k : ℕ). v < 2 ^ k) s small) in
    let own : written xs (8 * i) (bits o x) ≡ xs =
    ap (written xs (8 * i)) (sym (bits-mod o x) ∙ ap (bits o) (sym (field-byte xs i 0 o (8 - o) (omega arith) (omega arith)) ∙ ap (λ (k : ℕ). field xs k o) q))
    ∙ put-get xs (8 * i) o b (omega arith) in
    let first : bits (8 * m) (x * 2 ^ z + v / 2 ^ o) ≡ bits o x ++ y =
    ap (λ (k : ℕ). bits (8 * m) (x * 2 ^ z + k)) (sym (mod-eq_of_lt l)) ∙ ap (λ (k : ℕ). bits k (x * 2 ^ z + v / 2 ^ o % 2 ^ z)) t
    ∙ sym (joins o z x (v / 2 ^ o)) in
    let start : written xs (8 * i) (bits (8 * m) (x * 2 ^ z + v / 2 ^ o)) ≡ written xs at y =
    ap (written xs (8 * i)) first
    ∙ sym (written-written xs (8 * i) (bits o x) y (8 * i + o) (below-bits o x) (ap (λ (k : ℕ). 8 * i + k) (sym (length-bits o x)))
    (omega (arith, length-bits z (v / 2 ^ o))))
    ∙ ap₂ (λ (l : List ℕ) (k : ℕ). written l k y) own p in
    ap₂ (λ (l e : List ℕ). written l (at + z) e) start (bits-low o 8 v (omega arith))
    ∙ written-written xs at y (bits o v) (at + z) (below-bits z (v / 2 ^ o)) (ap (λ (k : ℕ). at + k) (sym (length-bits z (v / 2 ^ o))))
    (omega (arith, length-bits o v))
    ∙ ap (written xs at) (sym (bits-add z o v) ∙ ap (λ (k : ℕ). bits k v) (sym s))

-- the machine's sum for these bytes: nothing is shifted out
module _ (x v o m : ℕ) (l : 0 < o) (h : o < 8) (pos : 0 < m) (few : m ≤ 8) (b : x < 2 ^ 8) (small : v < 2 ^ (8 * m)) where
  byte_high : x / 2 ^ (8 - o) < 2 ^ o
  byte_high =
      let s : 8 ≡ o + (8 - o) = omega arith in
      shr_lt o (8 - o) (subst (λ (k : ℕ). x < 2 ^ k) s b)

  pub bytes-machine : x / 2 ^ (8 - o) * 2 ^ (8 * m - o) % 2 ^ 64 + v / 2 ^ o ≡ x / 2 ^ (8 - o) * 2 ^ (8 * m - o) + v / 2 ^ o
  bytes-machine = ap (λ (k : ℕ). k + v / 2 ^ o) (shl_exact o (8 * m - o) 64 byte_high (omega arith))

  pub bytes_fit : x / 2 ^ (8 - o) * 2 ^ (8 * m - o) % 2 ^ 64 + v / 2 ^ o < 2 ^ 64
  bytes_fit =
      let s : 8 * m ≡ 8 * m - o + o = omega arith in
      let t : o + (8 * m - o) ≤ 64 = omega arith in
      let low : v / 2 ^ o < 2 ^ (8 * m - o) = shr_lt (8 * m - o) o (subst (λ (k : ℕ). v < 2 ^ k) s small) in
      rw bytes-machine
      (lt_of_lt_of_le (digits_lt byte_high low) (subst (λ (k : ℕ). k ≤ 2 ^ 64) (pow-add 2 o (8 * m - o)) (pow_mono t)))

pub byte-high-fits : (x k : ℕ) → x < 2 ^ 8 → x / 2 ^ k < 2 ^ 64
byte-high-fits x k b = omega (arith, shr_le x k)

-- a number of more than 32 bits in two parts
pub long-written : (xs : List ℕ) (at w v : ℕ) → 32 < w → at + w ≤ 8 * length xs
    → written (written xs at (bits (w - 32) (v / 2 ^ 32))) (at + (w - 32)) (bits 32 (v % 2 ^ 32)) ≡ written xs at (bits w v)
long-written xs at w v l h =
    let s : w - 32 + 32 ≡ w = omega arith in
    written-written xs at (bits (w - 32) (v / 2 ^ 32)) (bits 32 (v % 2 ^ 32)) (at + (w - 32)) (below-bits (w - 32) (v / 2 ^ 32))
    (ap (λ (k : ℕ). at + k) (sym (length-bits (w - 32) (v / 2 ^ 32)))) (omega (arith, length-bits 32 (v % 2 ^ 32)))
    ∙ ap (λ (t : List ℕ). written xs at (bits (w - 32) (v / 2 ^ 32) ++ t)) (bits-mod 32 v)
    ∙ ap (written xs at) (sym (bits-add (w - 32) 32 v) ∙ ap (λ (k : ℕ). bits k v) s)
