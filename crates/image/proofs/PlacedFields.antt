-- Packing puts each field of a height or a message at its place, and reading finds it there (document 02 [4]). Over a depth's width d.
-- The places are those of FieldPlaces, counted from where the height or the message starts.
use Prim.Native.Nat.{ℕ, ◌+◌, ◌≤◌, ◌<◌}
use native.Mathlib.Omega.{arith}
use mathlib.Core.Bool.{cond}
use mathlib.Core.Logic.{⊎_elim}
use mathlib.Core.Path.{◌≡◌, sym, ap, ap₂, ◌∙◌}
use mathlib.Core.List.{List}
use borrow.Author.Tests.{ne_eqb}
use lib.Dec.{eqb}
use lib.ListN.{length, take, drop, get_or, set}
use lib.Seq.{drop-drop, take-take, get_or-take, get_or-set_same, get_or-set_other}
use Rattle.basics.proofs.Tests.{equal?}
use Rattle.bits.specs.Bits.{bits, number, total, spread, gathered}
use Rattle.bits.proofs.Fields.{spread_at, gathered-at, length-gathered}
use Rattle.tables.specs.Tables.{message_size}
use Rattle.image.specs.Places.{field_in}
use Rattle.image.specs.Widths.{widths_of, field_place, extended_of, record_bits, record_of}
use Rattle.image.proofs.FieldPlaces.{field_width}
use Rattle.image.proofs.RecordLaws.{length-widths}

-- word k of a record whose field k holds x: the depth, word 3, has its sign
abbrev pub word_of : ℕ → ℕ → ℕ → ℕ
word_of d k x = cond (eqb k 3) (extended_of d x) x

-- the first m widths have field k at the same place, as wide
place_of : (d m k : ℕ) → k < m → total (take k (take m (widths_of d))) ≡ field_place d k
unfolding field_place
place_of d m k h = ap total (take-take k m (widths_of d) (omega arith))

width_of : (d m k : ℕ) → k < m → get_or (take m (widths_of d)) k 0 ≡ field_width d k
width_of d m k h = get_or-take m (widths_of d) k 0 h

-- THEOREM: the bits that packing puts at field k's place are those of word k
pub put-there : (d : ℕ) (ws : List ℕ) (k : ℕ) → length ws ≤ message_size → k < length ws
    → take (field_width d k) (drop (field_place d k) (record_bits d ws)) ≡ bits (field_width d k) (get_or ws k 0)
unfolding record_bits
put-there d ws k few h =
    let l : List ℕ = take (length ws) (widths_of d) in
    let n : length l ≡ length ws = length-widths d (length ws) few in
    ap₂ (λ (w p : ℕ). take w (drop p (spread l ws))) (sym (width_of d (length ws) k h)) (sym (place_of d (length ws) k h))
    ∙ spread_at l ws k (omega (arith, n)) n
    ∙ ap (λ (w : ℕ). bits w (get_or ws k 0)) (width_of d (length ws) k h)

-- THEOREM: word k is read from field k's place
pub got-there : (d m k : ℕ) (bs : List ℕ) → m ≤ message_size → k < m
    → get_or (record_of d m bs) k 0 ≡ word_of d k (field_in bs (field_place d k) (field_width d k))
unfolding record_of field_in
got-there d m k bs few h = ⊎_elim there other (equal? k 3)
  where
    g : List ℕ
    g = gathered (take m (widths_of d)) bs

    n : length g ≡ m
    n = length-gathered (take m (widths_of d)) bs ∙ length-widths d m few

    found : get_or g k 0 ≡ field_in bs (field_place d k) (field_width d k)
    found =
        gathered-at (take m (widths_of d)) bs k (omega (arith, length-widths d m few))
        ∙ ap₂ (field_in bs) (place_of d m k h) (width_of d m k h)

    there : k ≡ 3 → get_or (set g 3 (extended_of d (get_or g 3 0))) k 0 ≡ word_of d k (field_in bs (field_place d k) (field_width d k))
    there e = rw e (get_or-set_same g 3 (extended_of d (get_or g 3 0)) 0 (omega (arith, n, h, e)) ∙ ap (extended_of d) (rw e at found))

    other : (k ≡ 3 → ⊥) → get_or (set g 3 (extended_of d (get_or g 3 0))) k 0 ≡ word_of d k (field_in bs (field_place d k) (field_width d k))
    other e = rw (ne_eqb k 3 e) (get_or-set_other g 3 k (extended_of d (get_or g 3 0)) 0 e ∙ found)

-- the same of a record that starts at a place p of bits l
pub got-behind : (d m k : ℕ) (l : List ℕ) (p : ℕ) → m ≤ message_size → k < m
    → get_or (record_of d m (drop p l)) k 0 ≡ word_of d k (field_in l (p + field_place d k) (field_width d k))
unfolding field_in
got-behind d m k l p few h =
    got-there d m k (drop p l) few h ∙ ap (λ (t : List ℕ). word_of d k (number (take (field_width d k) t))) (drop-drop (field_place d k) p l)
