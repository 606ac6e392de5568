-- Laws of fields end to end, over every list of widths.
use Prim.Native.Nat.{ℕ, zero, suc, ◌+◌, ◌*◌, ◌^◌, ◌≤◌, ◌<◌}
use native.Mathlib.Nat.{add-zero, mod-eq_of_lt}
use native.Mathlib.Numerals.{add-one}
use native.Mathlib.Omega.{arith}
use mathlib.Core.Path.{◌≡◌, refl, sym, ap, ap₂, ◌∙◌}
use mathlib.Core.List.{List, [], ◌∷◌, ◌++◌, append_assoc, append-nil}
use lib.ListN.{length, take, drop, get_or, set, length-append, length-take, length-drop, take-append-drop}
use lib.Seq.{take_at, drop_at, take-suc, drop-cons, drop-drop, take-add, set_at}
use Rattle.bits.specs.Bits.{bits, number, unpacked, field, total, spread, gathered}
use Rattle.bits.specs.inner.Written.{written}
use Rattle.bits.proofs.Bytes.{below-unpacked, length-unpacked, written-tail, written-own}
use Rattle.bits.proofs.Numbers.{Below, below-nil, below-append, below-bits, below-take, below-drop, length-bits, number-bits, bits-number}

pub total-append : (a b : List ℕ) → total (a ++ b) ≡ total a + total b
unfolding total
total-append [] b = omega arith
total-append (w ∷ a) b = omega (arith, total-append a b)

pub spread-append : (a b c d : List ℕ) → length a ≡ length c → spread (a ++ b) (c ++ d) ≡ spread a c ++ spread b d
unfolding spread
spread-append [] b [] d e = refl
spread-append [] b (v ∷ c) d e = absurd (omega arith)
spread-append (w ∷ a) b [] d e = absurd (omega arith)
spread-append (w ∷ a) b (v ∷ c) d e =
    ap (λ (t : List ℕ). bits w v ++ t) (spread-append a b c d (omega arith))
    ∙ sym (append_assoc (bits w v) (spread a c) (spread b d))

pub length-spread : (ws vs : List ℕ) → length ws ≡ length vs → length (spread ws vs) ≡ total ws
unfolding spread total
length-spread [] vs e = refl
length-spread (w ∷ ws) [] e = absurd (omega arith)
length-spread (w ∷ ws) (v ∷ vs) e = length-append (bits w v) (spread ws vs) ∙ ap₂ (λ (x y : ℕ). x + y) (length-bits w v) (length-spread ws vs (omega arith))

pub below-spread : (ws vs : List ℕ) → Below 2 (spread ws vs)
unfolding spread
below-spread [] vs = below-nil 2 (omega arith)
below-spread (w ∷ ws) [] = below-nil 2 (omega arith)
below-spread (w ∷ ws) (v ∷ vs) = below-append 2 (bits w v) (spread ws vs) (below-bits w v) (below-spread ws vs)

pub gathered-append : (a b bs : List ℕ) → gathered (a ++ b) bs ≡ gathered a bs ++ gathered b (drop (total a) bs)
unfolding gathered total
gathered-append [] b bs = refl
gathered-append (w ∷ a) b bs =
    ap (λ (t : List ℕ). number (take w bs) ∷ t)
    (gathered-append a b (drop w bs) ∙ ap (λ (t : List ℕ). gathered a (drop w bs) ++ gathered b t) (drop-drop (total a) w bs))

pub length-gathered : (ws bs : List ℕ) → length (gathered ws bs) ≡ length ws
unfolding gathered
length-gathered [] bs = refl
length-gathered (w ∷ ws) bs = ap suc (length-gathered ws (drop w bs))

-- each value fits its width
unfoldable pub Fitting : List ℕ → List ℕ → Type 0
Fitting [] vs = Unit
Fitting (w ∷ ws) [] = Unit
Fitting (w ∷ ws) (v ∷ vs) = (v < 2 ^ w) × Fitting ws vs

pub fitting-append : (ws us vs xs : List ℕ) → length ws ≡ length vs → Fitting ws vs → Fitting us xs → Fitting (ws ++ us) (vs ++ xs)
unfolding Fitting
fitting-append [] us [] xs e f g = g
fitting-append [] us (v ∷ vs) xs e f g = absurd (omega arith)
fitting-append (w ∷ ws) us [] xs e f g = absurd (omega arith)
fitting-append (w ∷ ws) us (v ∷ vs) xs e f g = (f.0, fitting-append ws us vs xs (omega arith) f.1 g)

-- what was spread is gathered again, whatever stands behind it
pub gathered-spread : (ws vs rest : List ℕ) → length ws ≡ length vs → Fitting ws vs → gathered ws (spread ws vs ++ rest) ≡ vs
unfolding gathered spread Fitting
gathered-spread [] [] rest e f = refl
gathered-spread [] (v ∷ vs) rest e f = absurd (omega arith)
gathered-spread (w ∷ ws) [] rest e f = absurd (omega arith)
gathered-spread (w ∷ ws) (v ∷ vs) rest e f =
    let b : List ℕ = spread ws vs ++ rest in
    let s : (bits w v ++ spread ws vs) ++ rest ≡ bits w v ++ b = append_assoc (bits w v) (spread ws vs) rest in
    ap₂ (λ (x : ℕ) (t : List ℕ). x ∷ t)
    (ap (λ (t : List ℕ). number (take w t)) s ∙ ap number (take_at (bits w v) b w (length-bits w v)) ∙ number-bits w v ∙ mod-eq_of_lt f.0)
    (ap (λ (t : List ℕ). gathered ws (drop w t)) s ∙ ap (gathered ws) (drop_at (bits w v) b w (length-bits w v))
    ∙ gathered-spread ws vs rest (omega arith) f.1)

-- what was gathered is spread again
pub spread-gathered : (ws bs : List ℕ) → Below 2 bs → total ws ≤ length bs → spread ws (gathered ws bs) ≡ take (total ws) bs
unfolding gathered spread total
spread-gathered [] bs b h = refl
spread-gathered (w ∷ ws) bs b h =
    let e : length (take w bs) ≡ w = simp length-take (omega arith) in
    ap₂ (λ (x y : List ℕ). x ++ y)
    (ap (λ (n : ℕ). bits n (number (take w bs))) (sym e) ∙ bits-number (take w bs) (below-take 2 w bs (omega arith) b))
    (spread-gathered ws (drop w bs) (below-drop 2 w bs b) (simp length-drop (omega arith)))
    ∙ sym (take-add w (total ws) bs)

-- ---- THE ROUND TRIPS of a record, at any bit place and over any list of widths
pub put-then-get : (xs : List ℕ) (at : ℕ) (ws vs : List ℕ) → length ws ≡ length vs → Fitting ws vs → at + total ws ≤ 8 * length xs
    → gathered ws (drop at (unpacked (written xs at (spread ws vs)))) ≡ vs
put-then-get xs at ws vs e f h =
    ap (gathered ws) (written-tail xs at (spread ws vs) (below-spread ws vs) (omega (arith, length-spread ws vs e)))
    ∙ gathered-spread ws vs (drop (at + length (spread ws vs)) (unpacked xs)) e f

pub get-then-put : (xs : List ℕ) (at : ℕ) (ws : List ℕ) → Below 256 xs → at + total ws ≤ 8 * length xs
    → written xs at (spread ws (gathered ws (drop at (unpacked xs)))) ≡ xs
get-then-put xs at ws b h =
    let e : total ws ≤ length (drop at (unpacked xs)) = simp length-drop (omega (arith, length-unpacked xs)) in
    ap (written xs at) (spread-gathered ws (drop at (unpacked xs)) (below-drop 2 at (unpacked xs) (below-unpacked xs)) e)
    ∙ written-own xs at (total ws) b h

-- ---- one field more: what a loop over the widths adds in a turn
pub total-more : (ws : List ℕ) (k : ℕ) → k < length ws → total (take (k + 1) ws) ≡ total (take k ws) + get_or ws k 0
unfolding total
total-more ws k h =
    ap (λ (n : ℕ). total (take n ws)) (add-one k) ∙ ap total (take-suc ws k 0 h) ∙ total-append (take k ws) (get_or ws k 0 ∷ [])
    ∙ ap (λ (x : ℕ). total (take k ws) + x) (add-zero (get_or ws k 0))

pub spread-more : (ws vs : List ℕ) (k : ℕ) → k < length ws → length ws ≡ length vs
    → spread (take (k + 1) ws) (take (k + 1) vs) ≡ spread (take k ws) (take k vs) ++ bits (get_or ws k 0) (get_or vs k 0)
unfolding spread
spread-more ws vs k h e =
    let a : length (take k ws) ≡ length (take k vs) = simp length-take (omega arith) in
    ap (λ (n : ℕ). spread (take n ws) (take n vs)) (add-one k)
    ∙ ap₂ spread (take-suc ws k 0 h) (take-suc vs k 0 (omega arith))
    ∙ spread-append (take k ws) (get_or ws k 0 ∷ []) (take k vs) (get_or vs k 0 ∷ []) a
    ∙ ap (λ (t : List ℕ). spread (take k ws) (take k vs) ++ t) (append-nil (bits (get_or ws k 0) (get_or vs k 0)))

pub gathered-more : (ws bs : List ℕ) (k : ℕ) → k < length ws
    → gathered (take (k + 1) ws) bs ≡ gathered (take k ws) bs ++ (number (take (get_or ws k 0) (drop (total (take k ws)) bs)) ∷ [])
unfolding gathered
gathered-more ws bs k h =
    ap (λ (n : ℕ). gathered (take n ws) bs) (add-one k)
    ∙ ap (λ (t : List ℕ). gathered t bs) (take-suc ws k 0 h)
    ∙ gathered-append (take k ws) (get_or ws k 0 ∷ []) bs

-- ---- the place of a field: what stands there of fields that are put, and what is got from there
pub spread_at : (ws vs : List ℕ) (k : ℕ) → k < length ws → length ws ≡ length vs
    → take (get_or ws k 0) (drop (total (take k ws)) (spread ws vs)) ≡ bits (get_or ws k 0) (get_or vs k 0)
unfolding spread total
spread_at [] vs k h e = absurd (omega arith)
spread_at (w ∷ ws) [] k h e = absurd (omega arith)
spread_at (w ∷ ws) (v ∷ vs) zero h e = take_at (bits w v) (spread ws vs) w (length-bits w v)
spread_at (w ∷ ws) (v ∷ vs) (suc k) h e =
    let t : ℕ = total (take k ws) in
    ap (take (get_or ws k 0)) (sym (drop-drop t w (bits w v ++ spread ws vs)) ∙ ap (drop t) (drop_at (bits w v) (spread ws vs) w (length-bits w v)))
    ∙ spread_at ws vs k (omega arith) (omega arith)

pub gathered-at : (ws bs : List ℕ) (k : ℕ) → k < length ws → get_or (gathered ws bs) k 0 ≡ number (take (get_or ws k 0) (drop (total (take k ws)) bs))
unfolding gathered total
gathered-at [] bs k h = absurd (omega arith)
gathered-at (w ∷ ws) bs zero h = refl
gathered-at (w ∷ ws) bs (suc k) h =
    gathered-at ws (drop w bs) k (omega arith)
    ∙ ap (λ (l : List ℕ). number (take (get_or ws k 0) l)) (drop-drop (total (take k ws)) w bs)

-- fields follow one another without a gap, inside the record
pub total-take-le : (ws : List ℕ) (k : ℕ) → total (take k ws) ≤ total ws
total-take-le ws k = omega (arith, total-append (take k ws) (drop k ws), ap total (take-append-drop k ws))

pub total-in : (ws : List ℕ) (k : ℕ) → k < length ws → total (take k ws) + get_or ws k 0 ≤ total ws
total-in ws k h = omega (arith, total-more ws k h, total-take-le ws (k + 1))

pub get-more : (xs : List ℕ) (at : ℕ) (ws vs us : List ℕ) (k : ℕ) → k < length ws → length ws ≡ length vs
    → us ≡ gathered (take k ws) (drop at (unpacked xs)) ++ drop k vs
    → set us k (field xs (at + total (take k ws)) (get_or ws k 0)) ≡ gathered (take (k + 1) ws) (drop at (unpacked xs)) ++ drop (k + 1) vs
unfolding field
get-more xs at ws vs us k h e eu =
    let bs : List ℕ = drop at (unpacked xs) in
    let g : List ℕ = gathered (take k ws) bs in
    let v : ℕ = number (take (get_or ws k 0) (drop (total (take k ws)) bs)) in
    let n : length g ≡ k = length-gathered (take k ws) bs ∙ simp length-take (omega arith) in
    ap₂ (λ (t : List ℕ) (x : List ℕ). set t k (number (take (get_or ws k 0) x)))
    (eu ∙ ap (λ (t : List ℕ). g ++ t) (drop-cons vs k 0 (omega arith)))
    (sym (drop-drop (total (take k ws)) at (unpacked xs)))
    ∙ set_at g (get_or vs k 0) (drop (suc k) vs) v k n
    ∙ sym (append_assoc g (v ∷ []) (drop (suc k) vs))
    ∙ sym (ap₂ (λ (a b : List ℕ). a ++ b) (gathered-more ws bs k h) (ap (λ (m : ℕ). drop m vs) (add-one k)))
