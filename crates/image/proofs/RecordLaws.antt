-- The words of a height or a message and their bits: lengths, room, what was put is got, what was got is put. Over a depth's width d, 1 to 32.
-- Assumes of words that are got back that each fits its field, the depth with its sign (`FitsFields`).
use Prim.Native.Nat.{ℕ, zero, suc, ◌+◌, ◌-◌, ◌*◌, ◌%◌, ◌^◌, ◌≤◌, ◌<◌}
use native.Mathlib.Nat.{mod-eq_of_lt, add-mul-mod_self_right, two-pow-succ, mod-mod}
use native.Mathlib.Decide.{dec_lt}
use native.Mathlib.Omega.{arith}
use mathlib.Core.Path.{◌≡◌, refl, sym, ap, ◌∙◌}
use mathlib.Core.Logic.{◌⊎◌, ⊎_elim}
use mathlib.Core.List.{List, [], ◌∷◌, ◌++◌}
use borrow.Author.Tests.{lt-ltb, le-ltb}
use lib.ListN.{length, take, drop, get_or, set, length-take, length-set}
use lib.Seq.{set-set, set-get_or, get_or-set_same, get_or-take}
use lib.Pow.{pow_pos, pow_mono, high_ones}
use Rattle.bits.specs.Bits.{bits, spread, gathered}
use Rattle.bits.specs.inner.Written.{RoomFor}
use Rattle.bits.proofs.Fields.{Fitting, spread-gathered, gathered-spread, length-gathered, length-spread, below-spread}
use Rattle.bits.proofs.Numbers.{Below, bits-cong, below-nil, below-cons, below-take, below-drop}
use Rattle.image.specs.Places.{field_in}
use Rattle.image.specs.Widths.{widths_of, field_place, extended_of, record_bits, record_of, height_width, message_width}
use Rattle.image.proofs.FieldInLaws.{field-in-lt}
use Rattle.image.proofs.FieldPlaces.{height-place, message-place}

-- a word that w bits in two's complement hold
abbrev pub Holds : ℕ → ℕ → Type 0
Holds w x = (x < 2 ^ (w - 1)) ⊎ ((2 ^ 32 - 2 ^ (w - 1) ≤ x) × (x < 2 ^ 32))

-- ---- a depth and its sign

pub pow-half : (w : ℕ) → 1 ≤ w → 2 ^ w ≡ 2 ^ (w - 1) + 2 ^ (w - 1)
pow-half w h =
    let e : w ≡ suc (w - 1) = omega arith in
    ap (λ (k : ℕ). 2 ^ k) e ∙ two-pow-succ (w - 1)

pub extended-low : (w v : ℕ) → v < 2 ^ (w - 1) → extended_of w v ≡ v
unfolding extended_of
extended-low w v h = rw (lt-ltb v (2 ^ (w - 1)) h)

pub extended-high : (w v : ℕ) → 2 ^ (w - 1) ≤ v → extended_of w v ≡ v + (2 ^ 32 - 2 ^ w)
unfolding extended_of
extended-high w v h = rw (le-ltb v (2 ^ (w - 1)) h)

-- the low bits of an extended number are the number
pub extended-mod : (w v : ℕ) → 1 ≤ w → w ≤ 32 → v < 2 ^ w → extended_of w v % 2 ^ w ≡ v
extended-mod w v h k b = go (dec_lt v (2 ^ (w - 1)))
  where
    ones : 2 ^ 32 - 2 ^ w ≡ (2 ^ (32 - w) - 1) * 2 ^ w
    ones =
        let e : 32 ≡ 32 - w + w = omega arith in
        ap (λ (x : ℕ). 2 ^ x - 2 ^ w) e ∙ high_ones (32 - w) w

    go : Dec (v < 2 ^ (w - 1)) → extended_of w v % 2 ^ w ≡ v
    go (yes l) = ap (λ (x : ℕ). x % 2 ^ w) (extended-low w v l) ∙ mod-eq_of_lt b
    go (no g) =
        ap (λ (x : ℕ). x % 2 ^ w) (extended-high w v (omega arith) ∙ ap (λ (x : ℕ). v + x) ones)
        ∙ add-mul-mod_self_right v (2 ^ (32 - w) - 1) (2 ^ w)
        ∙ mod-eq_of_lt b

-- a word that w bits hold is the extension of its low w bits
pub extended-of-mod : (w x : ℕ) → 1 ≤ w → w ≤ 32 → Holds w x → extended_of w (x % 2 ^ w) ≡ x
extended-of-mod w x h k r = ⊎_elim
    (λ l.
    let b : x < 2 ^ w = omega (arith, pow-half w h) in
    ap (extended_of w) (mod-eq_of_lt b) ∙ extended-low w x l)
    (λ g.
    let p : 2 ^ w ≤ 2 ^ 32 = pow_mono k in
    let q : 2 ^ w ≡ 2 ^ (w - 1) + 2 ^ (w - 1) = pow-half w h in
    let y : ℕ = x - (2 ^ 32 - 2 ^ w) in
    let a : 2 ^ (w - 1) ≤ y = omega arith in
    let b : y < 2 ^ w = omega (arith, pow_pos w) in
    let e : x ≡ y + (2 ^ 32 - 2 ^ w) = omega arith in
    let z : x ≡ extended_of w y = e ∙ sym (extended-high w y a) in
    ap (λ (t : ℕ). extended_of w (t % 2 ^ w)) z ∙ ap (extended_of w) (extended-mod w y h k b) ∙ sym z)
    r

-- ---- the widths

pub length-widths : (d k : ℕ) → k ≤ 8 → length (take k (widths_of d)) ≡ k
length-widths d k h = simp length-take (omega arith)

pub depth-width : (d k : ℕ) → 4 ≤ k → get_or (take k (widths_of d)) 3 0 ≡ d
depth-width d k h = get_or-take k (widths_of d) 3 0 h

-- no field is wider than a word
pub widths-narrow : (d k : ℕ) → d ≤ 32 → Below 33 (take k (widths_of d))
widths-narrow d k h =
    let t : ℕ → List ℕ = λ i. drop i (widths_of d) in
    let c : (x i : ℕ) → x < 33 → Below 33 (t i) → Below 33 (x ∷ t i) = λ x i. below-cons 33 x (t i) in
    below-take 33 k (widths_of d) (omega arith)
    (c 32 1 (omega arith) (c 5 2 (omega arith) (c 1 3 (omega arith) (c d 4 (omega arith)
    (c 32 5 (omega arith) (c 5 6 (omega arith) (c 5 7 (omega arith) (c 32 8 (omega arith) (below-nil 33 (omega arith))))))))))

-- a record of m words, which take w bits, has room where w bits stand inside the bytes
pub room : (xs : List ℕ) (at d m w : ℕ) → d ≤ 32 → field_place d m ≡ w → at + w < 2 ^ 32 → at + w ≤ 8 * length xs
    → RoomFor xs at (take m (widths_of d))
unfolding field_place
room xs at d m w h e s i = record {
  narrow = λ k. omega (arith, widths-narrow d m h k);
  small = omega arith;
  inside = omega arith;
}

-- ---- the words and their fields

-- a value may be replaced by one with the same low bits
pub spread-set : (ws vs : List ℕ) (i y : ℕ) → y % 2 ^ get_or ws i 0 ≡ get_or vs i 0 % 2 ^ get_or ws i 0 → spread ws (set vs i y) ≡ spread ws vs
unfolding spread
spread-set [] vs i y e = refl
spread-set (w ∷ ws) [] i y e = refl
spread-set (w ∷ ws) (v ∷ vs) zero y e = ap (λ (t : List ℕ). t ++ spread ws vs) (bits-cong w y v e)
spread-set (w ∷ ws) (v ∷ vs) (suc i) y e = ap (λ (t : List ℕ). bits w v ++ t) (spread-set ws vs i y e)

-- words that a record of depth width d holds: all but the depth fit their widths, and d bits hold the depth
pub record FitsFields (d : ℕ) (vs : List ℕ) : Type 0 where
  pub count : length vs ≤ 8
  pub has : 4 ≤ length vs
  pub others : Fitting (take (length vs) (widths_of d)) (set vs 3 (get_or vs 3 0 % 2 ^ d))
  pub depth : Holds d (get_or vs 3 0)

-- each word that is got fits its width
pub gathered-lt : (ws bs : List ℕ) → Below 2 bs → (i : ℕ) → i < length ws → get_or (gathered ws bs) i 0 < 2 ^ get_or ws i 0
unfolding gathered field_in
gathered-lt [] bs b i h = absurd (omega arith)
gathered-lt (w ∷ ws) bs b zero h = field-in-lt bs 0 w b
gathered-lt (w ∷ ws) bs b (suc i) h = gathered-lt ws (drop w bs) (below-drop 2 w bs b) i (omega arith)

-- and so the depth
pub depth-lt : (d k : ℕ) → 4 ≤ k → k ≤ 8 → (bs : List ℕ) → Below 2 bs → get_or (gathered (take k (widths_of d)) bs) 3 0 < 2 ^ d
depth-lt d k four eight bs b = rw (depth-width d k four) at (gathered-lt (take k (widths_of d)) bs b 3 (omega (arith, length-widths d k eight)))

pub length-record : (d k : ℕ) → k ≤ 8 → (bs : List ℕ) → length (record_of d k bs) ≡ k
unfolding record_of
length-record d k h bs =
    let g : List ℕ = gathered (take k (widths_of d)) bs in
    length-set g 3 (extended_of d (get_or g 3 0)) ∙ length-gathered (take k (widths_of d)) bs ∙ length-widths d k h

pub length-record-bits : (d k : ℕ) → k ≤ 8 → (us : List ℕ) → length us ≡ k → length (record_bits d us) ≡ field_place d k
unfolding record_bits field_place
length-record-bits d k h us q =
    length-spread (take (length us) (widths_of d)) us (rw q (length-widths d k h)) ∙ ap (field_place d) q

pub length-height : (d : ℕ) (ws : List ℕ) → length ws ≡ 7 → length (record_bits d ws) ≡ height_width d
length-height d ws e = length-record-bits d 7 (omega arith) ws e ∙ height-place d

pub length-message : (d : ℕ) (ws : List ℕ) → length ws ≡ 8 → length (record_bits d ws) ≡ message_width d
length-message d ws e = length-record-bits d 8 (omega arith) ws e ∙ message-place d

pub below-record : (d : ℕ) (us : List ℕ) → Below 2 (record_bits d us)
unfolding record_bits
below-record d us = below-spread (take (length us) (widths_of d)) us

-- ---- the round trips of n words

module _ (d n : ℕ) (h : 1 ≤ d) (k : d ≤ 32) (four : 4 ≤ n) (eight : n ≤ 8) where
  -- what was put is got
  pub record-of-bits : (vs rest : List ℕ) → length vs ≡ n → FitsFields d vs → record_of d n (record_bits d vs ++ rest) ≡ vs
  unfolding record_of record_bits
  record-of-bits vs rest e s =
      let ws : List ℕ = take n (widths_of d) in
      let v : ℕ = get_or vs 3 0 in
      let us : List ℕ = set vs 3 (v % 2 ^ d) in
      let f : spread (take (length vs) (widths_of d)) vs ≡ spread ws us =
      ap (λ (m : ℕ). spread (take m (widths_of d)) vs) e
      ∙ sym (spread-set ws vs 3 (v % 2 ^ d) (rw (depth-width d n four) (mod-mod v (2 ^ d)))) in
      let g : gathered ws (spread (take (length vs) (widths_of d)) vs ++ rest) ≡ us =
      ap (λ (t : List ℕ). gathered ws (t ++ rest)) f
      ∙ gathered-spread ws us rest (length-widths d n eight ∙ sym (length-set vs 3 (v % 2 ^ d) ∙ e)) (rw e at s.others) in
      let r : get_or us 3 0 ≡ v % 2 ^ d = get_or-set_same vs 3 (v % 2 ^ d) 0 (omega arith) in
      ap (λ (t : List ℕ). set t 3 (extended_of d (get_or t 3 0))) g
      ∙ ap (λ (x : ℕ). set us 3 (extended_of d x)) r
      ∙ set-set vs 3 (v % 2 ^ d) (extended_of d (v % 2 ^ d))
      ∙ ap (set vs 3) (extended-of-mod d v h k s.depth)
      ∙ set-get_or vs 3 0

  -- what was got is put
  pub bits-of-record : (bs : List ℕ) → Below 2 bs → field_place d n ≤ length bs → record_bits d (record_of d n bs) ≡ take (field_place d n) bs
  unfolding record_bits record_of field_place
  bits-of-record bs b r =
      let ws : List ℕ = take n (widths_of d) in
      let g : List ℕ = gathered ws bs in
      let x : get_or g 3 0 < 2 ^ d = depth-lt d n four eight bs b in
      ap (λ (m : ℕ). spread (take m (widths_of d)) (set g 3 (extended_of d (get_or g 3 0)))) (length-record d n eight bs)
      ∙ spread-set ws g 3 (extended_of d (get_or g 3 0)) (rw (depth-width d n four) (extended-mod d (get_or g 3 0) h k x ∙ sym (mod-eq_of_lt x)))
      ∙ spread-gathered ws bs b r
