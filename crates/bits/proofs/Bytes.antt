-- The bits of bytes, fields in them, and the bytes after a write at any bit place.
-- The central law: the bits after a write are the bits before it with the new ones over them (`unpacked-written`).
use Prim.Native.Nat.{ℕ, zero, suc, ◌+◌, ◌*◌, ◌/◌, ◌%◌, ◌^◌, ◌≤◌, ◌<◌}
use native.Mathlib.Nat.{mod-eq_of_lt}
use native.Mathlib.Omega.{arith}
use mathlib.Core.Path.{◌≡◌, refl, sym, ap, ap₂, ◌∙◌}
use mathlib.Core.List.{List, [], ◌∷◌, ◌++◌, append_assoc}
use lib.ListN.{length, take, drop, get_or, set, length-append, length-take, length-drop, take-append-drop}
use lib.Seq.{take-append-le, drop-append-le, take-append-add, drop-append-add, take_at, drop_at, take-add, drop-drop, drop-cons, set_split, drop-nil, take-nil}
use Rattle.bits.specs.Bits.{bits, number, unpacked, packed, field}
use Rattle.bits.specs.inner.Written.{over, written}
use Rattle.bits.proofs.Numbers.{Below, below-nil, below-append, below-take, below-drop, below-bits}
use Rattle.bits.proofs.Numbers.{length-bits, take-bits, drop_bits, number-bits, number_append, number_lt, bits-number}
use Rattle.bits.proofs.Overlay.{length_over, over-tail, over-before, over-after, over-over, over-own, below-over}

pub below-unpacked : (xs : List ℕ) → Below 2 (unpacked xs)
unfolding unpacked
below-unpacked [] = below-nil 2 (omega arith)
below-unpacked (x ∷ xs) = below-append 2 (bits 8 x) (unpacked xs) (below-bits 8 x) (below-unpacked xs)

-- ---- the bits of bytes
pub length-unpacked : (xs : List ℕ) → length (unpacked xs) ≡ 8 * length xs
unfolding unpacked
length-unpacked [] = refl
length-unpacked (x ∷ xs) = omega (arith, length-append (bits 8 x) (unpacked xs), length-bits 8 x, length-unpacked xs)

pub unpacked-append : (a b : List ℕ) → unpacked (a ++ b) ≡ unpacked a ++ unpacked b
unfolding unpacked
unpacked-append [] b = refl
unpacked-append (x ∷ a) b = rw (unpacked-append a b, append_assoc)

pub unpacked-drop : (i : ℕ) (xs : List ℕ) → drop (8 * i) (unpacked xs) ≡ unpacked (drop i xs)
unfolding unpacked
unpacked-drop zero xs = refl
unpacked-drop (suc i) [] = drop-nil (8 * suc i)
unpacked-drop (suc i) (x ∷ xs) =
    let e : 8 * suc i ≡ length (bits 8 x) + 8 * i = omega (arith, length-bits 8 x) in
    ap (λ (n : ℕ). drop n (bits 8 x ++ unpacked xs)) e
    ∙ drop-append-add (bits 8 x) (unpacked xs) (8 * i)
    ∙ unpacked-drop i xs

pub unpacked-take : (i : ℕ) (xs : List ℕ) → take (8 * i) (unpacked xs) ≡ unpacked (take i xs)
unfolding unpacked
unpacked-take zero xs = refl
unpacked-take (suc i) [] = take-nil (8 * suc i)
unpacked-take (suc i) (x ∷ xs) =
    let e : 8 * suc i ≡ length (bits 8 x) + 8 * i = omega (arith, length-bits 8 x) in
    ap (λ (n : ℕ). take n (bits 8 x ++ unpacked xs)) e
    ∙ take-append-add (bits 8 x) (unpacked xs) (8 * i)
    ∙ ap (λ (l : List ℕ). bits 8 x ++ l) (unpacked-take i xs)

pub packed-unpacked : (xs : List ℕ) → Below 256 xs → packed (length xs) (unpacked xs) ≡ xs
unfolding unpacked packed
packed-unpacked [] b = refl
packed-unpacked (x ∷ xs) b =
    ap₂ (λ (y : ℕ) (t : List ℕ). y ∷ t)
    (ap number (take_at (bits 8 x) (unpacked xs) 8 (length-bits 8 x)) ∙ number-bits 8 x ∙ mod-eq_of_lt (b 0))
    (ap (packed (length xs)) (drop_at (bits 8 x) (unpacked xs) 8 (length-bits 8 x)) ∙ packed-unpacked xs (λ i. b (suc i)))

pub unpacked-packed : (n : ℕ) (l : List ℕ) → length l ≡ 8 * n → Below 2 l → unpacked (packed n l) ≡ l
unfolding unpacked packed
unpacked-packed zero [] e b = refl
unpacked-packed zero (x ∷ l) e b = absurd (omega arith)
unpacked-packed (suc n) l e b =
    let h : length (take 8 l) ≡ 8 = simp length-take (omega arith) in
    let d : length (drop 8 l) ≡ 8 * n = simp length-drop (omega arith) in
    ap₂ (λ (y t : List ℕ). y ++ t)
    (ap (λ (w : ℕ). bits w (number (take 8 l))) (sym h) ∙ bits-number (take 8 l) (below-take 2 8 l (omega arith) b))
    (unpacked-packed n (drop 8 l) d (below-drop 2 8 l b))
    ∙ take-append-drop 8 l

-- ---- one byte of the bytes
pub unpacked-at : (xs : List ℕ) (i : ℕ) → i < length xs → drop (8 * i) (unpacked xs) ≡ bits 8 (get_or xs i 0) ++ unpacked (drop (suc i) xs)
unfolding unpacked
unpacked-at xs i h = unpacked-drop i xs ∙ ap unpacked (drop-cons xs i 0 h)

pub unpacked-byte : (xs : List ℕ) (i : ℕ) → i < length xs → take 8 (drop (8 * i) (unpacked xs)) ≡ bits 8 (get_or xs i 0)
unpacked-byte xs i h = ap (take 8) (unpacked-at xs i h) ∙ take_at (bits 8 (get_or xs i 0)) (unpacked (drop (suc i) xs)) 8 (length-bits 8 (get_or xs i 0))

pub unpacked-set : (xs : List ℕ) (i y : ℕ) → i < length xs → unpacked (set xs i y) ≡ over (unpacked xs) (8 * i) (bits 8 y)
unfolding unpacked over
unpacked-set xs i y h =
    let e : 8 * suc i ≡ 8 * i + length (bits 8 y) = omega (arith, length-bits 8 y) in
    ap unpacked (set_split xs i y h)
    ∙ unpacked-append (take i xs) (y ∷ drop (suc i) xs)
    ∙ ap₂ (λ (a b : List ℕ). a ++ (bits 8 y ++ b)) (sym (unpacked-take i xs)) (sym (unpacked-drop (suc i) xs) ∙ ap (λ (n : ℕ). drop n (unpacked xs)) e)

-- the part of a byte, and the byte with a part replaced
pub byte-part : (off n r x : ℕ) → off + (n + r) ≡ 8 → take n (drop off (bits 8 x)) ≡ bits n (x / 2 ^ r)
byte-part off n r x e = ap (λ (k : ℕ). take n (drop off (bits k x))) (sym e) ∙ ap (take n) (drop_bits off (n + r) x) ∙ take-bits n r x

-- a field inside one byte
pub field-byte : (xs : List ℕ) (i off n r : ℕ) → i < length xs → off + (n + r) ≡ 8 → field xs (8 * i + off) n ≡ get_or xs i 0 / 2 ^ r % 2 ^ n
unfolding field
field-byte xs i off n r h e =
    let x : ℕ = get_or xs i 0 in
    let rest : List ℕ = unpacked (drop (suc i) xs) in
    let d : off ≤ length (bits 8 x) = omega (arith, length-bits 8 x) in
    let t : n ≤ length (drop off (bits 8 x)) = simp length-drop (omega (arith, length-bits 8 x)) in
    ap number
    (ap (take n) (sym (drop-drop off (8 * i) (unpacked xs)) ∙ ap (drop off) (unpacked-at xs i h) ∙ drop-append-le off (bits 8 x) rest d)
    ∙ take-append-le n (drop off (bits 8 x)) rest t ∙ byte-part off n r x e)
    ∙ number-bits n (x / 2 ^ r)

-- a field is its first part and then its second
pub field-add : (xs : List ℕ) (at j k : ℕ) → at + j + k ≤ 8 * length xs → field xs at (j + k) ≡ field xs at j * 2 ^ k + field xs (at + j) k
unfolding field
field-add xs at j k h =
    let l : List ℕ = unpacked xs in
    let e : length (take k (drop j (drop at l))) ≡ k = simp (length-take, length-drop) (omega (arith, length-unpacked xs)) in
    ap number (take-add j k (drop at l))
    ∙ number_append (take j (drop at l)) (take k (drop j (drop at l)))
    ∙ ap₂ (λ (x : ℕ) (t : List ℕ). number (take j (drop at l)) * 2 ^ x + number (take k t)) e (drop-drop j at l)

pub field_lt : (xs : List ℕ) (at w : ℕ) → at + w ≤ 8 * length xs → field xs at w < 2 ^ w
unfolding field
field_lt xs at w h =
    let l : List ℕ = take w (drop at (unpacked xs)) in
    let e : length l ≡ w = simp (length-take, length-drop) (omega (arith, length-unpacked xs)) in
    rw e at (number_lt l (below-take 2 w (drop at (unpacked xs)) (omega arith) (below-drop 2 at (unpacked xs) (below-unpacked xs))))

-- ---- the bytes after a write
-- THE CENTRAL LEMMA: the bits of bytes after a write are the bits before it with the new ones over them.
-- Lengths, reads of what was written and of what was not, and writes end to end follow from it by laws of lists
pub unpacked-written : (xs : List ℕ) (at : ℕ) (bs : List ℕ) → Below 2 bs → at + length bs ≤ 8 * length xs
    → unpacked (written xs at bs) ≡ over (unpacked xs) at bs
unfolding written
unpacked-written xs at bs b h =
    let e : at + length bs ≤ length (unpacked xs) = omega (arith, length-unpacked xs) in
    unpacked-packed (length xs) (over (unpacked xs) at bs) (length_over (unpacked xs) at bs e ∙ length-unpacked xs)
    (below-over (unpacked xs) at bs (below-unpacked xs) b)

pub length-packed : (n : ℕ) (l : List ℕ) → length (packed n l) ≡ n
unfolding packed
length-packed zero l = refl
length-packed (suc n) l = ap suc (length-packed n (drop 8 l))

pub length-written : (xs : List ℕ) (at : ℕ) (bs : List ℕ) → length (written xs at bs) ≡ length xs
unfolding written
length-written xs at bs = length-packed (length xs) (over (unpacked xs) at bs)

-- two writes end to end are one
pub written-written : (xs : List ℕ) (at : ℕ) (bs cs : List ℕ) (n : ℕ) → Below 2 bs → n ≡ at + length bs → n + length cs ≤ 8 * length xs
    → written (written xs at bs) n cs ≡ written xs at (bs ++ cs)
unfolding written
written-written xs at bs cs n b e h =
    ap₂ packed (length-written xs at bs)
    (ap (λ (l : List ℕ). over l n cs) (unpacked-written xs at bs b (omega arith))
    ∙ over-over (unpacked xs) at bs cs n e (omega (arith, length-unpacked xs)))

pub written_none : (xs : List ℕ) (at : ℕ) → Below 256 xs → at ≤ 8 * length xs → written xs at [] ≡ xs
unfolding written
written_none xs at b h = ap (packed (length xs)) (over-own (unpacked xs) at 0 (omega (arith, length-unpacked xs))) ∙ packed-unpacked xs b

-- the bits from a place on, after a write there
pub written-tail : (xs : List ℕ) (at : ℕ) (bs : List ℕ) → Below 2 bs → at + length bs ≤ 8 * length xs
    → drop at (unpacked (written xs at bs)) ≡ bs ++ drop (at + length bs) (unpacked xs)
written-tail xs at bs b h = ap (drop at) (unpacked-written xs at bs b h) ∙ over-tail (unpacked xs) at bs (omega (arith, length-unpacked xs))

-- a part written where it stands changes nothing
pub written-own : (xs : List ℕ) (at w : ℕ) → Below 256 xs → at + w ≤ 8 * length xs → written xs at (take w (drop at (unpacked xs))) ≡ xs
unfolding written
written-own xs at w b h = ap (packed (length xs)) (over-own (unpacked xs) at w (omega (arith, length-unpacked xs))) ∙ packed-unpacked xs b

-- ---- one field
pub get-put : (xs : List ℕ) (at w v : ℕ) → at + w ≤ 8 * length xs → field (written xs at (bits w v)) at w ≡ v % 2 ^ w
unfolding field
get-put xs at w v h =
    let e : at + length (bits w v) ≤ 8 * length xs = omega (arith, length-bits w v) in
    ap number
    (ap (take w) (written-tail xs at (bits w v) (below-bits w v) e)
    ∙ take_at (bits w v) (drop (at + length (bits w v)) (unpacked xs)) w (length-bits w v))
    ∙ number-bits w v

pub put-before : (xs : List ℕ) (at w v a u : ℕ) → at + w ≤ 8 * length xs → a + u ≤ at → field (written xs at (bits w v)) a u ≡ field xs a u
unfolding field
put-before xs at w v a u h k =
    ap number
    (ap (λ (t : List ℕ). take u (drop a t)) (unpacked-written xs at (bits w v) (below-bits w v) (omega (arith, length-bits w v)))
    ∙ over-before (unpacked xs) at (bits w v) a u k (omega (arith, length-unpacked xs, length-bits w v)))

pub put-after : (xs : List ℕ) (at w v a u : ℕ) → at + w ≤ 8 * length xs → at + w ≤ a → field (written xs at (bits w v)) a u ≡ field xs a u
unfolding field
put-after xs at w v a u h k =
    ap number
    (ap (λ (t : List ℕ). take u (drop a t)) (unpacked-written xs at (bits w v) (below-bits w v) (omega (arith, length-bits w v)))
    ∙ over-after (unpacked xs) at (bits w v) a u (omega (arith, length-bits w v)) (omega (arith, length-unpacked xs)))

pub put-get : (xs : List ℕ) (at w : ℕ) → Below 256 xs → at + w ≤ 8 * length xs → written xs at (bits w (field xs at w)) ≡ xs
unfolding field
put-get xs at w b h =
    let t : List ℕ = take w (drop at (unpacked xs)) in
    let e : length t ≡ w = simp (length-take, length-drop) (omega (arith, length-unpacked xs)) in
    let o : bits w (number t) ≡ t =
    ap (λ (n : ℕ). bits n (number t)) (sym e)
    ∙ bits-number t (below-take 2 w (drop at (unpacked xs)) (omega arith) (below-drop 2 at (unpacked xs) (below-unpacked xs))) in
    ap (written xs at) o ∙ written-own xs at w b h
