-- The bits of both lent tables' words, rows first, then the cells of all channels, u ascending, then v ascending.
-- Of tables that fit, these are the bits of the network that they hold (proofs/WordsLaws.antt).
use Rattle.std.specs.Prelude.{ℕ, ◌≤◌, cond, List, [], ◌++◌, eqb}
use Rattle.image.specs.Image.{header_bits}
use Rattle.image.specs.inner.Parts.{row_bits, cell_bits}
use Rattle.protocol.specs.Network.{Node, capacity}
use Rattle.tables.specs.Cell.{count}
use Rattle.tables.specs.Rows.{rows}
use Rattle.tables.specs.Tables.{Tables, node_of, channel_of}

unfoldable pub nodes_bits : ℕ → ℕ → List ℕ → List ℕ
nodes_bits d n ns = rows n (λ u. row_bits d n (node_of n u ns))

-- the cell of channel u to v; the one from a node to itself is not in an image
unfoldable pub cell_bits_at : ℕ → ℕ → List ℕ → ℕ → ℕ → List ℕ
cell_bits_at d n cs u v = cond (eqb u v) [] (cell_bits d (channel_of n u v cs))

unfoldable pub cells_from_bits : ℕ → ℕ → List ℕ → ℕ → List ℕ
cells_from_bits d n cs u = rows n (cell_bits_at d n cs u)

unfoldable pub cells_bits : ℕ → ℕ → List ℕ → List ℕ
cells_bits d n cs = rows n (cells_from_bits d n cs)

-- all bits but the pad
unfoldable pub words_bits : ℕ → ℕ → ℕ → ℕ → Tables → List ℕ
words_bits version h d n t = header_bits version h n ++ (nodes_bits d n t.nodes ++ cells_bits d n t.channels)

-- no channel holds more messages than its capacity
pub record Counts (n : ℕ) (cs : List ℕ) : Type 0 where
  pub few : (u v : ℕ) → Node n u → Node n v → count (channel_of n u v cs) ≤ capacity
