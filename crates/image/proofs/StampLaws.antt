-- A message's record is a height's and then a stamp: what putting and getting seven words, and then the eighth, comes to.
-- Over a depth's width d.
use Prim.Native.Nat.{ℕ, ◌+◌, ◌*◌, ◌^◌, ◌≤◌, ◌<◌}
use native.Mathlib.Nat.{le_of_eq}
use native.Mathlib.Decide.{dec_lt}
use native.Mathlib.Omega.{arith}
use mathlib.Core.Logic.{◌⊎◌, inl, inr, ⊎_elim}
use mathlib.Core.Path.{◌≡◌, sym, ap, ap₂, ◌∙◌}
use mathlib.Core.List.{List, [], ◌∷◌, ◌++◌, append-nil}
use lib.ListN.{length, take, drop, get_or, set, length-set, length-append, length-drop, length-take, drop_of_length-le}
use lib.Seq.{take_all, drop-cons, drop-drop, set_at, set-append_left, get_or-take, take-append_seam}
use Rattle.bits.specs.Bits.{bits, number, unpacked, field, spread, gathered}
use Rattle.bits.specs.inner.Written.{written, RoomFor}
use Rattle.bits.proofs.Bytes.{written-written}
use Rattle.bits.proofs.Fields.{below-spread, length-spread, length-gathered, spread-more, gathered-more}
use Rattle.bits.proofs.Numbers.{length-bits}
use Rattle.image.specs.Widths.{widths_of, field_place, extended_of, record_bits, record_of, height_width}
use Rattle.image.proofs.FieldPlaces.{height-place, message-place, message-wider}
use Rattle.image.proofs.RecordLaws.{length-widths, depth-width, room}

-- ---- room

seven-or-eight : (n : ℕ) → 7 ≤ n → n ≤ 8 → (n ≡ 7) ⊎ (n ≡ 8)
seven-or-eight n a b = go (dec_lt n 8)
  where
    go : Dec (n < 8) → (n ≡ 7) ⊎ (n ≡ 8)
    go (yes l) = inl (omega arith)
    go (no g) = inr (omega arith)

record-total : (d n : ℕ) → 7 ≤ n → n ≤ 8 → height_width d ≤ field_place d n
record-total d n a b =
    ⊎_elim (λ e. rw e (omega (arith, height-place d))) (λ e. rw e (omega (arith, message-place d, message-wider d))) (seven-or-eight n a b)

pub height-room : (xs : List ℕ) (at d n : ℕ) → 7 ≤ n → n ≤ 8 → RoomFor xs at (take n (widths_of d)) → RoomFor xs at (take 7 (widths_of d))
unfolding field_place
height-room xs at d n a b r =
    let h : d ≤ 32 = omega (arith, depth-width d n (omega arith), r.narrow 3) in
    let t = record-total d n a b in
    room xs at d 7 (height_width d) h (height-place d) (omega (arith, r.small)) (omega (arith, r.inside))

-- a message's stamp stands behind its height
pub stamp-room : (xs : List ℕ) (at d n : ℕ) → n ≡ 8 → RoomFor xs at (take n (widths_of d))
    → (at + height_width d < 2 ^ 32) × (at + height_width d + 32 ≤ 8 * length xs)
unfolding field_place
stamp-room xs at d n e r =
    let t : field_place d n ≡ height_width d + 32 = rw e (message-place d ∙ message-wider d) in
    (omega (arith, r.small), omega (arith, r.inside))

-- and is as wide as the last field
pub stamp-wide : (d : ℕ) (w : List ℕ) → w ≡ widths_of d → get_or w 7 0 ≡ 32
stamp-wide d w e = ap (λ (l : List ℕ). get_or l 7 0) e

-- ---- putting

length-seven : (d : ℕ) (ws : List ℕ) → 7 ≤ length ws → length (spread (take 7 (widths_of d)) (take 7 ws)) ≡ height_width d
unfolding field_place
length-seven d ws h =
    let e : length (take 7 (widths_of d)) ≡ length (take 7 ws) = length-widths d 7 (omega arith) ∙ sym (simp length-take (omega arith)) in
    length-spread (take 7 (widths_of d)) (take 7 ws) e ∙ height-place d

pub height-put : (xs : List ℕ) (at d : ℕ) (ws : List ℕ) → length ws ≡ 7
    → written xs at (spread (take 7 (widths_of d)) (take 7 ws)) ≡ written xs at (record_bits d ws)
unfolding record_bits
height-put xs at d ws e = rw e (ap (λ (l : List ℕ). written xs at (spread (take 7 (widths_of d)) l)) (take_all 7 ws (omega arith)))

pub message-put : (xs : List ℕ) (at d : ℕ) (ws : List ℕ) → length ws ≡ 8 → at + height_width d + 32 ≤ 8 * length xs
    → written (written xs at (spread (take 7 (widths_of d)) (take 7 ws))) (at + height_width d) (bits 32 (get_or ws 7 0)) ≡ written xs at (record_bits d ws)
unfolding record_bits
message-put xs at d ws e h =
    let l : length (widths_of d) ≡ length ws = sym e in
    let n : length (spread (take 7 (widths_of d)) (take 7 ws)) ≡ height_width d = length-seven d ws (omega arith) in
    let all : spread (take 8 (widths_of d)) (take 8 ws) ≡ spread (take (length ws) (widths_of d)) ws =
    ap₂ (λ (k : ℕ) (t : List ℕ). spread (take k (widths_of d)) t) (sym e) (take_all 8 ws (omega arith)) in
    written-written xs at (spread (take 7 (widths_of d)) (take 7 ws)) (bits 32 (get_or ws 7 0)) (at + height_width d) (below-spread (take 7 (widths_of d)) (take 7 ws))
    (omega arith) (omega (arith, length-bits 32 (get_or ws 7 0)))
    ∙ ap (written xs at) (sym (spread-more (widths_of d) ws 7 (omega arith) l) ∙ all)

-- ---- getting

get-front : (g t : List ℕ) (i : ℕ) → i < length g → get_or (g ++ t) i 0 ≡ get_or g i 0
get-front g t i h = sym (get_or-take (length g) (g ++ t) i 0 h) ∙ ap (λ (l : List ℕ). get_or l i 0) (take-append_seam g t)

pub seven-got : (d : ℕ) (bs : List ℕ) → length (gathered (take 7 (widths_of d)) bs) ≡ 7
seven-got d bs = length-gathered (take 7 (widths_of d)) bs ∙ length-widths d 7 (omega arith)

-- seven words changed leave as many as there were
pub length-kept : (g ws : List ℕ) (x : ℕ) → length g ≡ 7 → 7 ≤ length ws → length (set (g ++ drop 7 ws) 3 x) ≡ length ws
length-kept g ws x e h = length-set (g ++ drop 7 ws) 3 x ∙ length-append g (drop 7 ws) ∙ omega (arith, length-drop 7 ws)

pub depth-got : (d : ℕ) (bs ws : List ℕ) → get_or (gathered (take 7 (widths_of d)) bs ++ drop 7 ws) 3 0 ≡ get_or (gathered (take 7 (widths_of d)) bs) 3 0
depth-got d bs ws = get-front (gathered (take 7 (widths_of d)) bs) (drop 7 ws) 3 (omega (arith, seven-got d bs))

pub height-got : (d : ℕ) (bs ws : List ℕ) → length ws ≡ 7
    → set (gathered (take 7 (widths_of d)) bs ++ drop 7 ws) 3 (extended_of d (get_or (gathered (take 7 (widths_of d)) bs) 3 0)) ≡ record_of d (length ws) bs
unfolding record_of
height-got d bs ws e =
    let g : List ℕ = gathered (take 7 (widths_of d)) bs in
    let none : drop 7 ws ≡ [] = drop_of_length-le ws (le_of_eq e) in
    rw e (ap (λ (l : List ℕ). set l 3 (extended_of d (get_or g 3 0))) (ap (λ (t : List ℕ). g ++ t) none ∙ append-nil g))

pub message-got : (d : ℕ) (bs ws : List ℕ) (y : ℕ) → length ws ≡ 8 → y ≡ number (take 32 (drop (height_width d) bs))
    → set (set (gathered (take 7 (widths_of d)) bs ++ drop 7 ws) 3 (extended_of d (get_or (gathered (take 7 (widths_of d)) bs) 3 0))) 7 y
    ≡ record_of d (length ws) bs
unfolding record_of field_place
message-got d bs ws y e ey =
    let g : List ℕ = gathered (take 7 (widths_of d)) bs in
    let x : ℕ = extended_of d (get_or g 3 0) in
    let n : length g ≡ 7 = seven-got d bs in
    let m : length (set g 3 x) ≡ 7 = length-set g 3 x ∙ n in
    let last : drop 7 ws ≡ get_or ws 7 0 ∷ [] = drop-cons ws 7 0 (omega arith) ∙ ap (λ (t : List ℕ). get_or ws 7 0 ∷ t) (drop_of_length-le ws (le_of_eq e)) in
    let all : gathered (take 8 (widths_of d)) bs ≡ g ++ (y ∷ []) =
    gathered-more (widths_of d) bs 7 (omega arith)
    ∙ ap (λ (k : ℕ). g ++ (number (take 32 (drop k bs)) ∷ [])) (height-place d) ∙ ap (λ (k : ℕ). g ++ (k ∷ [])) (sym ey) in
    ap (λ (t : List ℕ). set (set (g ++ t) 3 x) 7 y) last
    ∙ ap (λ (t : List ℕ). set t 7 y) (set-append_left g (get_or ws 7 0 ∷ []) 3 x (omega arith))
    ∙ set_at (set g 3 x) (get_or ws 7 0) [] y 7 m
    ∙ sym (set-append_left g (y ∷ []) 3 x (omega arith))
    ∙ ap (λ (k : ℕ). set (g ++ (y ∷ [])) 3 (extended_of d k)) (sym (get-front g (y ∷ []) 3 (omega arith)))
    ∙ sym (ap (λ (l : List ℕ). set l 3 (extended_of d (get_or l 3 0))) (ap (λ (k : ℕ). gathered (take k (widths_of d)) bs) e ∙ all))

pub stamp-field : (xs : List ℕ) (at d : ℕ) → field xs (at + height_width d) 32 ≡ number (take 32 (drop (height_width d) (drop at (unpacked xs))))
unfolding field
stamp-field xs at d = ap (λ (l : List ℕ). number (take 32 l)) (sym (drop-drop (height_width d) at (unpacked xs)))
