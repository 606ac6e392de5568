-- Bits and the numbers that they spell, over every width; lists below a bound (bits below 2, bytes below 256).
use Prim.Native.Nat.{ℕ, zero, suc, ◌+◌, ◌*◌, ◌/◌, ◌%◌, ◌^◌, ◌<◌}
use native.Mathlib.Nat.{pow-zero, mod-mod, mod-eq_of_lt, mod-lt, add_assoc, add-mul, mul_assoc, zero-add, suc-add, mod-one, add_comm}
use native.Mathlib.Numerals.{one-add}
use native.Mathlib.Omega.{arith}
use mathlib.Core.Path.{◌≡◌, refl, sym, ap, ap₂, ◌∙◌}
use mathlib.Core.List.{List, [], ◌∷◌, ◌++◌}
use lib.ListN.{length, take, drop, get_or, set, replicate, length-append}
use lib.Seq.{take_at, drop_at, get_or-drop}
use lib.Pow.{pow-add, mod-pow-add, mod-mod-pow, shr-shr}
use lib.Pow
use lib.Arith.{digits_lt}
use Rattle.bits.specs.Bits.{bits, number}

pub length-bits : (w v : ℕ) → length (bits w v) ≡ w
unfolding bits
length-bits zero v = refl
length-bits (suc w) v = ap suc (length-bits w v)

-- a wide number's bits are its high part's and then its low part's
pub bits-add : (j k v : ℕ) → bits (j + k) v ≡ bits j (v / 2 ^ k) ++ bits k v
unfolding bits
bits-add zero k v = rw zero-add refl
bits-add (suc j) k v = rw suc-add (ap₂ (λ (b : ℕ) (l : List ℕ). b ∷ l) (ap (λ (x : ℕ). x % 2) e) (bits-add j k v))
  where
    e : v / 2 ^ (j + k) ≡ v / 2 ^ k / 2 ^ j
    e = sym (shr-shr v k j ∙ ap (λ (x : ℕ). v / 2 ^ x) (add_comm k j))

pub take-bits : (j k v : ℕ) → take j (bits (j + k) v) ≡ bits j (v / 2 ^ k)
take-bits j k v = rw bits-add (take_at (bits j (v / 2 ^ k)) (bits k v) j (length-bits j (v / 2 ^ k)))

pub drop_bits : (j k v : ℕ) → drop j (bits (j + k) v) ≡ bits k v
drop_bits j k v = rw bits-add (drop_at (bits j (v / 2 ^ k)) (bits k v) j (length-bits j (v / 2 ^ k)))

pub number-bits : (w v : ℕ) → number (bits w v) ≡ v % 2 ^ w
unfolding bits number
number-bits zero v = sym (rw pow-zero (mod-one v))
number-bits (suc w) v =
    ap₂ (λ (x y : ℕ). v / 2 ^ w % 2 * 2 ^ x + y) (length-bits w v) (number-bits w v)
    ∙ sym (ap (λ (x : ℕ). v % 2 ^ x) (sym (one-add w)) ∙ mod-pow-add v 1 w)

pub add-mul-assoc : (x p q r t : ℕ) → (x * p + q) * r + t ≡ x * (p * r) + (q * r + t)
add-mul-assoc x p q r t = ap (λ (y : ℕ). y + t) (add-mul (x * p) q r ∙ ap (λ (y : ℕ). y + q * r) (mul_assoc x p r)) ∙ add_assoc (x * (p * r)) (q * r) t

pub number_append : (a b : List ℕ) → number (a ++ b) ≡ number a * 2 ^ length b + number b
unfolding number
number_append [] b = omega arith
number_append (x ∷ a) b =
    ap₂ (λ (y z : ℕ). x * y + z) (ap (λ (n : ℕ). 2 ^ n) (length-append a b) ∙ pow-add 2 (length a) (length b)) (number_append a b)
    ∙ sym (add-mul-assoc x (2 ^ length a) (number a) (2 ^ length b) (number b))

-- only the low w bits of a number count
pub bits-mod : (w v : ℕ) → bits w (v % 2 ^ w) ≡ bits w v
unfolding bits
bits-mod zero v = refl
bits-mod (suc w) v =
    ap₂ (λ (b : ℕ) (l : List ℕ). b ∷ l)
    (ap (λ (x : ℕ). v % 2 ^ x / 2 ^ w % 2) (sym (one-add w)) ∙ ap (λ (x : ℕ). x % 2) (Pow.field v 1 w) ∙ mod-mod (v / 2 ^ w) 2)
    (sym (bits-mod w (v % 2 ^ suc w))
    ∙ ap (bits w) (ap (λ (x : ℕ). v % 2 ^ x % 2 ^ w) (sym (one-add w)) ∙ mod-mod-pow v 1 w)
    ∙ bits-mod w v)

pub bits-cong : (w u v : ℕ) → u % 2 ^ w ≡ v % 2 ^ w → bits w u ≡ bits w v
bits-cong w u v e = sym (bits-mod w u) ∙ ap (bits w) e ∙ bits-mod w v

-- ---- lists whose elements are all below m: bits at 2, bytes at 256
abbrev pub Below : ℕ → List ℕ → Type 0
Below m l = (i : ℕ) → get_or l i 0 < m

pub below-nil : (m : ℕ) → 0 < m → Below m []
below-nil m h i = h

pub below-cons : (m x : ℕ) (l : List ℕ) → x < m → Below m l → Below m (x ∷ l)
below-cons m x l h t zero = h
below-cons m x l h t (suc i) = t i

pub below-append : (m : ℕ) (a b : List ℕ) → Below m a → Below m b → Below m (a ++ b)
below-append m [] b ha hb = hb
below-append m (x ∷ a) b ha hb = below-cons m x (a ++ b) (ha 0) (below-append m a b (λ i. ha (suc i)) hb)

pub below-take : (m n : ℕ) (l : List ℕ) → 0 < m → Below m l → Below m (take n l)
below-take m zero l h b = below-nil m h
below-take m (suc n) [] h b = b
below-take m (suc n) (x ∷ l) h b = below-cons m x (take n l) (b 0) (below-take m n l h (λ i. b (suc i)))

pub below-drop : (m n : ℕ) (l : List ℕ) → Below m l → Below m (drop n l)
below-drop m n l b i = rw get_or-drop (b (n + i))

pub below-zeros : (m k : ℕ) → 0 < m → Below m (replicate k 0)
below-zeros m zero h = below-nil m h
below-zeros m (suc k) h = below-cons m 0 (replicate k 0) h (below-zeros m k h)

pub below-bits : (w v : ℕ) → Below 2 (bits w v)
unfolding bits
below-bits zero v = below-nil 2 (omega arith)
below-bits (suc w) v = below-cons 2 (v / 2 ^ w % 2) (bits w v) (mod-lt (v / 2 ^ w) (omega arith)) (below-bits w v)

pub number_lt : (l : List ℕ) → Below 2 l → number l < 2 ^ length l
unfolding number
number_lt [] b = omega arith
number_lt (x ∷ l) b = rw (← one-add (length l), pow-add 2 1 (length l)) (digits_lt (b 0) (number_lt l (λ i. b (suc i))))

-- the bits of the number that bits spell are those bits
pub bits-number : (l : List ℕ) → Below 2 l → bits (length l) (number l) ≡ l
unfolding bits number
bits-number [] b = refl
bits-number (x ∷ l) b =
    let h : number l < 2 ^ length l = number_lt l (λ i. b (suc i)) in
    ap₂ (λ (y : ℕ) (t : List ℕ). y ∷ t)
    (ap (λ (y : ℕ). y % 2) (Pow.high x (length l) h) ∙ mod-eq_of_lt (b 0))
    (bits-cong (length l) (x * 2 ^ length l + number l) (number l) (Pow.low x (length l) h ∙ sym (mod-eq_of_lt h))
    ∙ bits-number l (λ i. b (suc i)))

pub below_set : (m : ℕ) (l : List ℕ) (i y : ℕ) → y < m → Below m l → Below m (set l i y)
below_set m [] i y h b = b
below_set m (x ∷ l) zero y h b = below-cons m y l h (λ j. b (suc j))
below_set m (x ∷ l) (suc i) y h b = below-cons m x (set l i y) (b 0) (below_set m l i y h (λ j. b (suc j)))
