-- What stands at which bit place of an image's bits l: document 01, "The plot image". Over header length h and depth width d.
-- Node k starts at h + (k − 1) node_width; a channel starts where the one before it ends.
use Rattle.std.specs.Prelude.{ℕ, zero, suc, ◌+◌, ◌-◌, ◌*◌, cond, List, [], ◌∷◌, eqb, take, drop}
use Rattle.bits.specs.Bits.{number}
use Rattle.tables.specs.Records.{Records, tables_from}
use Rattle.tables.specs.Rows.{rows}
use Rattle.height.specs.Words.{height_size}
use Rattle.tables.specs.Tables.{Tables, message_size}
use Rattle.image.specs.Widths.{record_of, node_head, height_width, message_width, node_width}

-- the number of w bits at a place
unfoldable pub field_in : List ℕ → ℕ → ℕ → ℕ
field_in l at w = number (take w (drop at l))

-- where node u's record starts
unfoldable pub node_place : ℕ → ℕ → ℕ → ℕ → ℕ
node_place h d n u = h + (u - 1) * node_width d n

-- the height of node v in a node's record at a place
unfoldable pub height_from : ℕ → List ℕ → ℕ → ℕ → List ℕ
height_from d l at v = record_of d height_size (drop (at + node_head + (v - 1) * height_width d) l)

-- the n heights of a node's record at a place
unfoldable pub heights_from : ℕ → ℕ → List ℕ → ℕ → List ℕ
heights_from d n l at = rows n (height_from d l at)

-- c messages
unfoldable pub messages_of : ℕ → ℕ → List ℕ → List (List ℕ)
messages_of d zero l = []
messages_of d (suc c) l = record_of d message_size l ∷ messages_of d c (drop (message_width d) l)

-- the channel at a place: its count says how many messages follow
unfoldable pub channel_from : ℕ → List ℕ → ℕ → List (List ℕ)
channel_from d l at = messages_of d (field_in l at 4) (drop (at + 4) l)

-- ---- the walk over the channels

-- a place after k steps
unfoldable pub walked : (ℕ → ℕ → ℕ) → ℕ → ℕ → ℕ
walked next zero q = q
walked next (suc k) q = next (suc k) (walked next k q)

-- behind channel u to v, which starts at q
unfoldable pub channel_next : ℕ → List ℕ → ℕ → ℕ → ℕ → ℕ
channel_next d l u v q = cond (eqb u v) q (q + 4 + field_in l q 4 * message_width d)

-- behind the channels from u, which start at q
unfoldable pub channels_next : ℕ → ℕ → List ℕ → ℕ → ℕ → ℕ
channels_next d n l u q = walked (channel_next d l u) n q

-- where the channels start, those from u, and channel u to v
unfoldable pub channels_place : ℕ → ℕ → ℕ → ℕ
channels_place h d n = h + n * node_width d n

unfoldable pub channels_from_place : ℕ → ℕ → ℕ → List ℕ → ℕ → ℕ
channels_from_place h d n l u = walked (channels_next d n l) (u - 1) (channels_place h d n)

unfoldable pub channel_place : ℕ → ℕ → ℕ → List ℕ → ℕ → ℕ → ℕ
channel_place h d n l u v = walked (channel_next d l u) (v - 1) (channels_from_place h d n l u)

-- ---- all that is read; no channel leads from a node to itself

unfoldable pub records_in : ℕ → ℕ → ℕ → List ℕ → Records
records_in h d n l = record {
  clock = λ u. field_in l (node_place h d n u) 32;
  neighbors = λ u. field_in l (node_place h d n u + 32) 16;
  forming = λ u. field_in l (node_place h d n u + 48) 16;
  height = λ u v. height_from d l (node_place h d n u) v;
  channel = λ u v. cond (eqb u v) [] (channel_from d l (channel_place h d n l u v));
}

unfoldable pub tables_in : ℕ → ℕ → ℕ → List ℕ → Tables
tables_in h d n l = tables_from n (records_in h d n l)
