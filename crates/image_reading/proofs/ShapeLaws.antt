-- The tables of an image's records: every word is of 32 bits.
-- Assumes that its bits are 0 or 1 and a depth's width is at most 32.
use Prim.Native.Nat.{ℕ, zero, suc, ◌+◌, ◌-◌, ◌*◌, ◌^◌, ◌≤◌, ◌<◌}
use native.Mathlib.Decide.{dec_lt}
use native.Mathlib.Nat.{lt_of_lt_of_le}
use native.Mathlib.Omega.{arith}
use mathlib.Core.Bool.{Bool, true, false, cond}
use mathlib.Core.List.{List, [], ◌∷◌}
use mathlib.Core.Path.{sym, subst}
use lib.Dec.{eqb}
use lib.ListN.{length, take, drop, replicate}
use lib.Pow.{pow_mono}
use Rattle.basics.proofs.AllOf.{AllOf, none, more}
use Rattle.bits.specs.Bits.{gathered}
use Rattle.bits.proofs.Numbers.{Below, below-nil, below-cons, below-append, below-drop, below-zeros, below_set}
use Rattle.image.specs.Places.{field_in, height_from, messages_of, channel_from, channel_place, node_place, records_in, tables_in}
use Rattle.image.specs.Widths.{widths_of, extended_of, record_of, height_width, message_width}
use Rattle.image.proofs.ChannelLaws.{length-messages-of}
use Rattle.image.proofs.FieldInLaws.{field-in-lt}
use Rattle.image.proofs.RecordLaws.{extended-low, extended-high, widths-narrow, gathered-lt, depth-lt}
use Rattle.image.proofs.RowsMore.{below_rows}
use Rattle.lent.proofs.SoundTables.{Words}
use Rattle.tables.specs.Records.{row_words, slot_words, cell_words, tables_from}
use Rattle.tables.specs.Rows.{rows}

-- a depth of d bits, with its sign
extended_lt : (d x : ℕ) → d ≤ 32 → x < 2 ^ d → extended_of d x < 4294967296
extended_lt d x narrow h = go (dec_lt x (2 ^ (d - 1)))
  where
    go : Dec (x < 2 ^ (d - 1)) → extended_of d x < 4294967296
    go (yes l) = rw (extended-low d x l) (lt_of_lt_of_le h (pow_mono narrow))
    go (no g) = let p : 2 ^ d ≤ 4294967296 = pow_mono narrow in rw (extended-high d x (omega arith)) (omega arith)

-- fields of at most 32 bits
below-gathered : (ws bs : List ℕ) → Below 33 ws → Below 2 bs → Below 4294967296 (gathered ws bs)
unfolding gathered
below-gathered [] bs narrow b = below-nil 4294967296 (omega arith)
below-gathered (w ∷ ws) bs narrow b =
    let at : w ≤ 32 = omega (arith, narrow 0) in
    below-cons 4294967296 _ (gathered ws (drop w bs))
    (lt_of_lt_of_le (gathered-lt (w ∷ ws) bs b 0 (omega arith)) (pow_mono at))
    (below-gathered ws (drop w bs) (λ i. narrow (suc i)) (below-drop 2 w bs b))

-- a height or a message
module _ (d k : ℕ) (least : 4 ≤ k) (most : k ≤ 8) (narrow : d ≤ 32) (bs : List ℕ) (b : Below 2 bs) where
  below-record : Below 4294967296 (record_of d k bs)
  unfolding record_of
  below-record =
      below_set 4294967296 (gathered (take k (widths_of d)) bs) 3 _ (extended_lt d _ narrow (depth-lt d k least most bs b))
      (below-gathered (take k (widths_of d)) bs (widths-narrow d k narrow) b)

-- messages in their slots, then zero words
abbrev AllBelow : List (List ℕ) → Type 0
AllBelow ms = AllOf (Below 4294967296) ms

messages-below : (d c : ℕ) (t : List ℕ) → d ≤ 32 → Below 2 t → AllBelow (messages_of d c t)
unfolding messages_of
messages-below d zero t narrow b = none
messages-below d (suc c) t narrow b =
    more (below-record d 8 (omega arith) (omega arith) narrow t b)
    (messages-below d c (drop (message_width d) t) narrow (below-drop 2 (message_width d) t b))

below-slots : (k : ℕ) (ms : List (List ℕ)) → AllBelow ms → Below 4294967296 (slot_words k ms)
unfolding slot_words
below-slots zero ms h = below-nil 4294967296 (omega arith)
below-slots (suc k) [] h = below-append 4294967296 (replicate 8 0) (slot_words k []) (below-zeros 4294967296 8 (omega arith)) (below-slots k [] none)
below-slots (suc k) (m ∷ ms) (more a h) = below-append 4294967296 m (slot_words k ms) a (below-slots k ms h)

below-cell : (ms : List (List ℕ)) → length ms < 16 → AllBelow ms → Below 4294967296 (cell_words ms)
unfolding cell_words
below-cell ms few h = below-cons 4294967296 (length ms) (slot_words 8 ms) (omega arith) (below-slots 8 ms h)

-- rows and cells
module _ (h d n : ℕ) (l : List ℕ) (b : Below 2 l) (narrow : d ≤ 32) where
  field_below : (q w : ℕ) → w ≤ 32 → field_in l q w < 4294967296
  field_below q w k = lt_of_lt_of_le (field-in-lt l q w b) (pow_mono k)

  height-below : (q v : ℕ) → Below 4294967296 (height_from d l q v)
  unfolding height_from
  height-below q v =
      let at : ℕ = q + 64 + (v - 1) * height_width d in
      below-record d 7 (omega arith) (omega arith) narrow (drop at l) (below-drop 2 at l b)

  row_below : (u : ℕ) → Below 4294967296 (row_words n (records_in h d n l) u)
  unfolding row_words records_in
  row_below u =
      let q : ℕ = node_place h d n u in
      let t : List ℕ = rows n (height_from d l q) in
      let neighbors : ℕ = field_in l (q + 32) 16 in
      let forming : ℕ = field_in l (q + 48) 16 in
      below-cons 4294967296 (field_in l q 32) (neighbors ∷ forming ∷ t) (field_below q 32 (omega arith))
      (below-cons 4294967296 neighbors (forming ∷ t) (field_below (q + 32) 16 (omega arith))
      (below-cons 4294967296 forming t (field_below (q + 48) 16 (omega arith))
      (below_rows 4294967296 n (height_from d l q) (omega arith) (height-below q))))

  cell_below : (u v : ℕ) → Below 4294967296 (cell_words ((records_in h d n l).channel u v))
  unfolding records_in channel_from
  cell_below u v = go (eqb u v)
    where
      q : ℕ
      q = channel_place h d n l u v

      ms : List (List ℕ)
      ms = messages_of d (field_in l q 4) (drop (q + 4) l)

      few : length ms < 16
      few = subst (λ (x : ℕ). x < 16) (sym (length-messages-of d (field_in l q 4) (drop (q + 4) l))) (field-in-lt l q 4 b)

      go : (x : Bool) → Below 4294967296 (cell_words (cond x [] ms))
      go true = below-cell [] (omega arith) none
      go false = below-cell ms few (messages-below d (field_in l q 4) (drop (q + 4) l) narrow (below-drop 2 (q + 4) l b))

pub records-words : (h d n : ℕ) (l : List ℕ) → Below 2 l → d ≤ 32 → Words (tables_in h d n l)
unfolding tables_in tables_from
records-words h d n l b narrow = record {
  nodes = below_rows 4294967296 n (row_words n (records_in h d n l)) (omega arith) (row_below h d n l b narrow);
  channels =
      below_rows 4294967296 n (λ u. rows n (λ v. cell_words ((records_in h d n l).channel u v))) (omega arith)
      (λ u. below_rows 4294967296 n (λ v. cell_words ((records_in h d n l).channel u v)) (omega arith) (cell_below h d n l b narrow u));
}
