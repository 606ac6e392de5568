-- The bits of both tables' words are those of the network that the tables hold (`words-bits`), with the header too (`whole-bits`):
-- so the words make the image (`image-words`). Assumes that the tables fit: their network gives their words back.
use Prim.Native.Nat.{ℕ, suc, ◌<◌, ◌≤◌}
use native.Mathlib.Omega.{arith}
use mathlib.Core.Bool.{cond}
use mathlib.Core.List.{List, [], ◌++◌, map}
use mathlib.Core.Path.{◌≡◌, sym, ap, ap₂, ◌∙◌}
use lib.Dec.{eqb}
use lib.ListN.{length, length-map}
use Rattle.bits.specs.Bits.{bits}
use Rattle.image.specs.Image.{header_bits, node_bits, message_bits, channel_bits, channels_bits, network_bits, bytes_of, image_of, image}
use Rattle.image.specs.inner.Parts.{row_bits, cell_bits}
use Rattle.image.proofs.PartLaws.{row-bits, cell-bits}
use Rattle.protocol.specs.Network.{Node, Message}
use Rattle.tables.specs.Cell.{count, queue, message_words}
use Rattle.tables.specs.Load.{load}
use Rattle.tables.specs.Records.{Records, records_of}
use Rattle.tables.specs.Rows.{rows}
use Rattle.tables.specs.Tables.{Tables, node_of, channel_of}
use Rattle.tables.specs.inner.Fit.{TablesFit}
use Rattle.tables.proofs.Back.{node-of, cell-of}
use Rattle.tables.proofs.CellLaws.{messages-length}
use Rattle.tables.proofs.RecordsLaws.{words-length, message-words}
use Rattle.tables.proofs.RowsMore.{rows_same}
use Rattle.tables.proofs.TablesLaws.{tables-back, load-channel}
use Rattle.image_writing.specs.inner.Words.{nodes_bits, cell_bits_at, cells_from_bits, cells_bits, words_bits}

-- ---- node by node and channel by channel

queue-length : (cell : List ℕ) → length (queue cell) ≡ count cell
unfolding queue
queue-length cell = messages-length (count cell) cell 1

module _ (d n : ℕ) (t : Tables) (fit : TablesFit n t) where
  node-bits : (u : ℕ) → Node n u → row_bits d n (node_of n u t.nodes) ≡ node_bits d n (records_of n (load n t)) u
  node-bits u a =
      ap (λ (s : Tables). row_bits d n (node_of n u s.nodes)) (sym (tables-back n t fit))
      ∙ ap (row_bits d n) (node-of n (load n t) u a)
      ∙ row-bits d n (records_of n (load n t)) u (λ i l. unfold records_of in words-length ((load n t).height u (suc i)))

  few-messages : (u v : ℕ) → Node n u → Node n v → length ((load n t).channel u v) ≤ 8
  few-messages u v a b = rw (load-channel n t u a v b, queue-length (channel_of n u v t.channels)) (fit.cells u v a b).few

  cell_at : (u v : ℕ) → Node n u → Node n v
      → cell_bits d (channel_of n u v t.channels)
      ≡ bits 4 (length ((records_of n (load n t)).channel u v)) ++ message_bits d ((records_of n (load n t)).channel u v)
  unfolding records_of
  cell_at u v a b =
      let ms : List Message = (load n t).channel u v in
      let few : length (map message_words ms) ≤ 8 = rw (length-map ms message_words) (few-messages u v a b) in
      ap (λ (s : Tables). cell_bits d (channel_of n u v s.channels)) (sym (tables-back n t fit))
      ∙ ap (cell_bits d) (cell-of n (load n t) u v a b)
      ∙ cell-bits d (map message_words ms) few (message-words ms)

  channel-bits : (u v : ℕ) → Node n u → Node n v → cell_bits_at d n t.channels u v ≡ channel_bits d (records_of n (load n t)) u v
  unfolding cell_bits_at channel_bits
  channel-bits u v a b = ap (λ (l : List ℕ). cond (eqb u v) [] l) (cell_at u v a b)

  node : (i : ℕ) → i < n → Node n (suc i)
  node i l = record { low = omega arith; high = l }

  nodes-bits : nodes_bits d n t.nodes ≡ rows n (node_bits d n (records_of n (load n t)))
  unfolding nodes_bits
  nodes-bits =
      rows_same n (λ u. row_bits d n (node_of n u t.nodes)) (node_bits d n (records_of n (load n t))) (λ i l. node-bits (suc i) (node i l))

  channels-bits : cells_bits d n t.channels ≡ rows n (channels_bits d n (records_of n (load n t)))
  unfolding cells_bits cells_from_bits channels_bits
  channels-bits =
      let r : Records = records_of n (load n t) in
      rows_same n (λ u. rows n (cell_bits_at d n t.channels u)) (λ u. rows n (channel_bits d r u))
      (λ i l. rows_same n (cell_bits_at d n t.channels (suc i)) (channel_bits d r (suc i)) (λ j m. channel-bits (suc i) (suc j) (node i l) (node j m)))

-- ---- the whole

pub words-bits : (d n : ℕ) (t : Tables) → TablesFit n t
    → nodes_bits d n t.nodes ++ cells_bits d n t.channels ≡ network_bits d n (records_of n (load n t))
unfolding network_bits
words-bits d n t fit = ap₂ (λ (a b : List ℕ). a ++ b) (nodes-bits d n t fit) (channels-bits d n t fit)

pub whole-bits : (version h d n : ℕ) (t : Tables) → TablesFit n t
    → words_bits version h d n t ≡ header_bits version h n ++ network_bits d n (records_of n (load n t))
unfolding words_bits
whole-bits version h d n t fit = ap (λ (l : List ℕ). header_bits version h n ++ l) (words-bits d n t fit)

-- document 01's image, from the words
pub image-words : (n : ℕ) (t : Tables) → TablesFit n t → image n (load n t) ≡ bytes_of (words_bits 1 32 16 n t)
unfolding image image_of
image-words n t fit = ap bytes_of (sym (whole-bits 1 32 16 n t fit))
