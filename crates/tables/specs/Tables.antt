-- The two lent tables: n rows, a node each, and n times n cells, a channel each.
-- The cells from a node to itself are unused.
use Rattle.std.specs.Prelude.{ℕ, ◌+◌, ◌-◌, ◌*◌, Bool, ◌&&◌, List, eqb, leb, length}
use Rattle.height.specs.Words.{height_size}
use Rattle.protocol.specs.Network.{capacity}
use Rattle.tables.specs.Rows.{row_at}

pub record Tables : Type 0 where
  pub nodes : List ℕ
  pub channels : List ℕ

abbrev pub tables : List ℕ → List ℕ → Tables
tables ns cs = record { nodes = ns; channels = cs }

-- words of a row before its heights: clock, linked set, forming set
abbrev pub row_head : ℕ
row_head = 3

-- words of a message: its height and its timestamp
abbrev pub message_size : ℕ
message_size = height_size + 1

-- words of a node's row of n heights
abbrev pub width : ℕ → ℕ
width n = row_head + height_size * n

-- words of a channel's cell: the count, then a slot for each message
abbrev pub cell_width : ℕ
cell_width = 1 + capacity * message_size

-- refusal 1: n outside 1 to 16, or a table not of the length for n
unfoldable pub sized : ℕ → Tables → Bool
sized n t =
    leb n 16 && (leb 1 n && eqb (length t.nodes) (n * width n) && eqb (length t.channels) (n * n * cell_width))

-- node u's row
abbrev pub node_of : ℕ → ℕ → List ℕ → List ℕ
node_of n u ns = row_at (width n) (u - 1) ns

-- the cell of channel u to v
abbrev pub pair_of : ℕ → ℕ → ℕ → ℕ
pair_of n u v = (u - 1) * n + (v - 1)

abbrev pub channel_of : ℕ → ℕ → ℕ → List ℕ → List ℕ
channel_of n u v cs = row_at cell_width (pair_of n u v) cs
