-- The layout of both lent tables. Records: of each node its clock, both sets and n heights of seven words; of each channel its messages
-- of eight. A row: clock, N, F, the heights. A cell: the count, then eight slots, the messages first, the others zero.
use Rattle.std.specs.Prelude.{ℕ, zero, suc, List, [], ◌∷◌, ◌++◌, map, length, replicate}
use Rattle.height.specs.Words.{height_words}
use Rattle.nodeset.specs.NodeSet.{set_of}
use Rattle.protocol.specs.Network.{Network, capacity}
use Rattle.tables.specs.Cell.{message_words}
use Rattle.tables.specs.Rows.{rows}
use Rattle.tables.specs.Tables.{Tables, tables, message_size}

pub record Records : Type 0 where
  pub clock : ℕ → ℕ
  pub neighbors : ℕ → ℕ
  pub forming : ℕ → ℕ
  pub height : ℕ → ℕ → List ℕ
  pub channel : ℕ → ℕ → List (List ℕ)

unfoldable pub records_of : ℕ → Network → Records
records_of n p = record {
  clock = p.clock;
  neighbors = λ u. set_of n (p.neighbors u);
  forming = λ u. set_of n (p.forming u);
  height = λ u v. height_words (p.height u v);
  channel = λ u v. map message_words (p.channel u v);
}

unfoldable pub row_words : ℕ → Records → ℕ → List ℕ
row_words n r u = r.clock u ∷ r.neighbors u ∷ r.forming u ∷ rows n (r.height u)

-- k slots
unfoldable pub slot_words : ℕ → List (List ℕ) → List ℕ
slot_words zero ms = []
slot_words (suc k) [] = replicate message_size 0 ++ slot_words k []
slot_words (suc k) (m ∷ ms) = m ++ slot_words k ms

unfoldable pub cell_words : List (List ℕ) → List ℕ
cell_words ms = length ms ∷ slot_words capacity ms

unfoldable pub tables_from : ℕ → Records → Tables
tables_from n r = tables (rows n (row_words n r)) (rows n (λ u. rows n (λ v. cell_words (r.channel u v))))
