-- Rows and cells of words have the bits of an image's records, with their lengths; the rows and cells read are those of the records read.
use Prim.Native.Nat.{ℕ, zero, suc, ◌+◌, ◌-◌, ◌*◌, ◌≤◌, ◌<◌}
use native.Mathlib.Nat.{zero-mul, suc-mul, mul_comm}
use native.Mathlib.Omega.{arith}
use mathlib.Core.Bool.{Bool, true, false, cond}
use mathlib.Core.List.{List, [], ◌∷◌, ◌++◌, append_assoc}
use mathlib.Core.Path.{◌≡◌, refl, sym, ap, ap₂, ◌∙◌}
use lib.Dec.{eqb}
use lib.ListN.{length, drop, replicate, length-append, length-drop, replicate-append-replicate}
use lib.Seq.{drop-drop}
use Rattle.basics.proofs.AllOf.{none, more}
use Rattle.bits.specs.Bits.{bits}
use Rattle.bits.proofs.Numbers.{Below, below-append, below-bits, length-bits}
use Rattle.tables.specs.Cell.{count}
use Rattle.tables.specs.Records.{Records, row_words, slot_words, cell_words}
use Rattle.tables.specs.Row.{clock_in, neighbors_in, forming_in}
use Rattle.tables.specs.Rows.{rows, row_at}
use Rattle.tables.specs.Tables.{width}
use Rattle.tables.proofs.RecordsLaws.{Eights, Shaped, length-cell}
use Rattle.tables.proofs.RowsLaws.{row_fits, part_length}
use Rattle.tables.proofs.RowsMore.{rows_more, rows_same, length-rows, row_first, row_next, rows_at}
use Rattle.image.specs.Image.{node_bits, message_bits}
use Rattle.image.specs.Places.{field_in, node_place, height_from, messages_of, channel_from, channel_place, records_in, heights_from}
use Rattle.image.specs.inner.Parts.{records_from, records_bits, row_bits, cell_bits, row_from, cell_from}
use Rattle.image.specs.Widths.{field_place, record_bits, record_of, height_width, message_width, node_width}
use Rattle.image.proofs.FieldPlaces.{height-place, message-place}
use Rattle.image.proofs.RecordLaws.{length-record, below-record, length-record-bits}
use Rattle.image.proofs.RowsMore.{below_rows}

-- ---- n records of m words each, end to end

-- the words of one
pub length-row-at : (w n i : ℕ) (ws : List ℕ) → n * w ≤ length ws → i < n → length (row_at w i ws) ≡ w
unfolding row_at
length-row-at w n i ws h l = part_length (i * w) w ws (omega (arith, row_fits w i n l))

-- their bits
pub below-records-bits : (d m n : ℕ) (ws : List ℕ) → Below 2 (records_bits d m n ws)
unfolding records_bits
below-records-bits d m n ws = below_rows 2 n (λ v. record_bits d (row_at m (v - 1) ws)) (omega arith) (λ v. below-record d (row_at m (v - 1) ws))

pub length-records-bits : (d m n : ℕ) (ws : List ℕ) → m ≤ 8 → n * m ≤ length ws → length (records_bits d m n ws) ≡ n * field_place d m
unfolding records_bits
length-records-bits d m n ws h k = length-rows n (field_place d m) (λ v. record_bits d (row_at m (v - 1) ws))
    (λ i l. let z : suc i - 1 ≡ i = omega arith in rw z (length-record-bits d m h (row_at m i ws) (length-row-at m n i ws k l)))

pub records-bits-more : (d m n : ℕ) (ws : List ℕ) → records_bits d m (suc n) ws ≡ records_bits d m n ws ++ record_bits d (row_at m n ws)
unfolding records_bits
records-bits-more d m n ws =
    let z : suc n - 1 ≡ n = omega arith in
    rows_more n (λ v. record_bits d (row_at m (v - 1) ws)) ∙ ap (λ (i : ℕ). records_bits d m n ws ++ record_bits d (row_at m i ws)) z

-- ---- the bits of a row

-- a row of records has the bits of its node's record
pub row-bits : (d n : ℕ) (r : Records) (u : ℕ) → ((i : ℕ) → i < n → length (r.height u (suc i)) ≡ 7)
    → row_bits d n (row_words n r u) ≡ node_bits d n r u
unfolding row_bits row_words node_bits records_bits
row-bits d n r u h =
    ap (λ (t : List ℕ). bits 32 (r.clock u) ++ (bits 16 (r.neighbors u) ++ (bits 16 (r.forming u) ++ t)))
    (rows_same n (λ v. record_bits d (row_at 7 (v - 1) (rows n (r.height u)))) (λ v. record_bits d (r.height u v))
    (λ i l. let z : suc i - 1 ≡ i = omega arith in ap (record_bits d) (rw z (rows_at 7 n (r.height u) h i l))))

pub length-heights-bits : (d n : ℕ) (ws : List ℕ) → n * 7 ≤ length ws → length (records_bits d 7 n ws) ≡ n * height_width d
length-heights-bits d n ws h = length-records-bits d 7 n ws (omega arith) h ∙ ap (λ (w : ℕ). n * w) (height-place d)

pub length-row-bits : (d n : ℕ) (row : List ℕ) → length row ≡ width n → length (row_bits d n row) ≡ node_width d n
unfolding row_bits node_width
length-row-bits d n row h =
    let e : length (records_bits d 7 n (drop 3 row)) ≡ n * height_width d =
    length-heights-bits d n (drop 3 row) (simp length-drop (omega arith)) in
    simp (length-append, length-bits) (omega (arith, e, mul_comm n (height_width d)))

pub below-row-bits : (d n : ℕ) (row : List ℕ) → Below 2 (row_bits d n row)
unfolding row_bits
below-row-bits d n row =
    below-append 2 (bits 32 (clock_in row)) _ (below-bits 32 (clock_in row))
    (below-append 2 (bits 16 (neighbors_in row)) _ (below-bits 16 (neighbors_in row))
    (below-append 2 (bits 16 (forming_in row)) _ (below-bits 16 (forming_in row)) (below-records-bits d 7 n (drop 3 row))))

-- ---- the bits of a cell

-- the first messages of k slots are the messages
slots-bits : (d k : ℕ) (ms : List (List ℕ)) → length ms ≤ k → Eights ms
    → rows (length ms) (λ v. record_bits d (row_at 8 (v - 1) (slot_words k ms))) ≡ message_bits d ms
unfolding rows message_bits slot_words
slots-bits d k [] h e = refl
slots-bits d zero (m ∷ ms) h e = absurd (omega arith)
slots-bits d (suc k) (m ∷ ms) h (more a e) =
    ap₂ (λ (a b : List ℕ). record_bits d a ++ b) (row_first 8 m (slot_words k ms) a)
    (rows_same (length ms) (λ v. record_bits d (row_at 8 (suc v - 1) (m ++ slot_words k ms))) (λ v. record_bits d (row_at 8 (v - 1) (slot_words k ms)))
    (λ i l.
    let y : suc (suc i) - 1 ≡ suc i = omega arith in
    let z : suc i - 1 ≡ i = omega arith in
    ap (record_bits d) (rw (y, z) (row_next 8 i m (slot_words k ms) a)))
    ∙ slots-bits d k ms (omega arith) e)

-- a cell of messages has the bits of its channel's record
pub cell-bits : (d : ℕ) (ms : List (List ℕ)) → length ms ≤ 8 → Eights ms → cell_bits d (cell_words ms) ≡ bits 4 (length ms) ++ message_bits d ms
unfolding cell_bits cell_words records_bits
cell-bits d ms h e = ap (λ (t : List ℕ). bits 4 (length ms) ++ t) (slots-bits d 8 ms h e)

pub length-messages-bits : (d c : ℕ) (ws : List ℕ) → c * 8 ≤ length ws → length (records_bits d 8 c ws) ≡ c * message_width d
length-messages-bits d c ws h = length-records-bits d 8 c ws (omega arith) h ∙ ap (λ (w : ℕ). c * w) (message-place d)

pub length-cell-bits : (d : ℕ) (cell : List ℕ) → length cell ≡ 65 → count cell ≤ 8 → length (cell_bits d cell) ≡ 4 + count cell * message_width d
unfolding cell_bits
length-cell-bits d cell h k =
    length-append (bits 4 (count cell)) (records_bits d 8 (count cell) (drop 1 cell))
    ∙ ap₂ (λ (a b : ℕ). a + b) (length-bits 4 (count cell)) (length-messages-bits d (count cell) (drop 1 cell) (simp length-drop (omega arith)))

pub below-cell-bits : (d : ℕ) (cell : List ℕ) → Below 2 (cell_bits d cell)
unfolding cell_bits
below-cell-bits d cell =
    below-append 2 (bits 4 (count cell)) (records_bits d 8 (count cell) (drop 1 cell)) (below-bits 4 (count cell))
    (below-records-bits d 8 (count cell) (drop 1 cell))

-- ---- the words that are read

pub length-records-from : (d m w n : ℕ) (l : List ℕ) (at : ℕ) → m ≤ 8 → length (records_from d m w n l at) ≡ n * m
unfolding records_from
length-records-from d m w n l at h =
    length-rows n m (λ v. record_of d m (drop (at + (v - 1) * w) l)) (λ i _. length-record d m h (drop (at + (suc i - 1) * w) l))

pub records-from-more : (d m w n : ℕ) (l : List ℕ) (at : ℕ) → records_from d m w (suc n) l at ≡ records_from d m w n l at ++ record_of d m (drop (at + n * w) l)
unfolding records_from
records-from-more d m w n l at =
    let z : suc n - 1 ≡ n = omega arith in
    rows_more n (λ v. record_of d m (drop (at + (v - 1) * w) l))
    ∙ ap (λ (i : ℕ). records_from d m w n l at ++ record_of d m (drop (at + i * w) l)) z

-- the row and the cell at their places are those of the records read
pub row_read : (h d n : ℕ) (l : List ℕ) (u : ℕ) → row_from d n l (node_place h d n u) ≡ row_words n (records_in h d n l) u
unfolding row_from row_words records_in heights_from height_from
row_read h d n l u = refl

pub length-row-from : (d n : ℕ) (l : List ℕ) (at : ℕ) → length (row_from d n l at) ≡ width n
unfolding row_from heights_from height_from records_from
length-row-from d n l at = omega (arith, length-records-from d 7 (height_width d) n l (at + 64) (omega arith))

-- each message has eight words
pub messages-wide : (d c : ℕ) (l : List ℕ) → Eights (messages_of d c l)
unfolding messages_of
messages-wide d zero l = none
messages-wide d (suc c) l = more (length-record d 8 (omega arith) l) (messages-wide d c (drop (message_width d) l))

pub channel-eights : (d : ℕ) (l : List ℕ) (x : Bool) (q : ℕ) → Eights (cond x [] (channel_from d l q))
unfolding channel_from
channel-eights d l true q = none
channel-eights d l false q = messages-wide d (field_in l q 4) (drop (q + 4) l)

pub length-cell-from : (d : ℕ) (l : List ℕ) (at : ℕ) → length (cell_from d l at) ≡ 65
unfolding cell_from
length-cell-from d l at = length-cell (channel_from d l at) (channel-eights d l false at)

-- the records read have the shape
pub records-shaped : (h d n : ℕ) (l : List ℕ) → Shaped n (records_in h d n l)
unfolding records_in height_from
records-shaped h d n l = record {
  heights = λ i j a b. length-record d 7 (omega arith) _;
  messages = λ i j a b. channel-eights d l (eqb (suc i) (suc j)) (channel_place h d n l (suc i) (suc j));
}

-- no message: zero words
slots-none : (k : ℕ) → slot_words k [] ≡ replicate (k * 8) 0
unfolding slot_words
slots-none zero = refl
slots-none (suc k) =
    let e : 8 + k * 8 ≡ suc k * 8 = omega arith in
    ap (λ (t : List ℕ). replicate 8 0 ++ t) (slots-none k)
    ∙ replicate-append-replicate {A = ℕ} 8 (k * 8) 0 ∙ ap (λ (n : ℕ). replicate {A = ℕ} n 0) e

next_place : (at w i : ℕ) → at + w + (suc i - 1) * w ≡ at + (suc (suc i) - 1) * w
next_place at w i =
    let y : suc i - 1 ≡ i = omega arith in
    let z : suc (suc i) - 1 ≡ suc i = omega arith in
    rw (y, z) (omega (arith, suc-mul i w))

-- c messages of k slots, then zero words
pub slots-run : (d k c : ℕ) (l : List ℕ) (at : ℕ) → c ≤ k
    → slot_words k (messages_of d c (drop at l)) ≡ records_from d 8 (message_width d) c l at ++ replicate ((k - c) * 8) 0
unfolding slot_words messages_of records_from rows
slots-run d k zero l at h = let z : k ≡ k - 0 = omega arith in slots-none k ∙ ap (λ (n : ℕ). replicate {A = ℕ} (n * 8) 0) z
slots-run d zero (suc c) l at h = absurd (omega arith)
slots-run d (suc k) (suc c) l at h =
    let W : ℕ = message_width d in
    let f : ℕ → List ℕ = λ v. record_of d 8 (drop (at + (v - 1) * W) l) in
    let z : at ≡ at + (1 - 1) * W = omega (arith, zero-mul W) in
    let q : (k - c) * 8 ≡ (suc k - suc c) * 8 = omega arith in
    ap₂ (λ (a b : List ℕ). record_of d 8 a ++ slot_words k (messages_of d c b)) (ap (λ (x : ℕ). drop x l) z) (drop-drop W at l)
    ∙ ap (λ (t : List ℕ). f 1 ++ t)
    (slots-run d k c l (at + W) (omega arith)
    ∙ ap₂ (λ (a : List ℕ) (n : ℕ). a ++ replicate n 0)
    (rows_same c (λ v. record_of d 8 (drop (at + W + (v - 1) * W) l)) (λ v. f (suc v))
    (λ i _. ap (λ (x : ℕ). record_of d 8 (drop x l)) (next_place at W i)))
    q)
    ∙ sym (append_assoc (f 1) (rows c (λ v. f (suc v))) (replicate ((suc k - suc c) * 8) 0))
