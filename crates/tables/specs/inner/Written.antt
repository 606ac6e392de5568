-- What the operations on a cell, a row and a table leave.
use Rattle.std.specs.Prelude.{ℕ, ◌+◌, ◌-◌, zero, suc, ◌*◌, List, ◌∷◌, ◌++◌, set, drop, replicate, take}
use Rattle.height.specs.declared.Height.{Height}
use Rattle.height.specs.inner.Stored.{stored_at}
use Rattle.tables.specs.Cell.{count, slot}
use Rattle.height.specs.Words.{height_size}
use Rattle.tables.specs.Tables.{message_size, cell_width, row_head, width, pair_of}

-- one more message, h at the clock t
unfoldable pub appended : List ℕ → Height → ℕ → List ℕ
appended cell h t = set (set (stored_at cell (slot (count cell)) h) (slot (count cell) + height_size) t) 0 (count cell + 1)

-- without the first message: the others move up one slot, and the slot that is free is zero
unfoldable pub taken : List ℕ → List ℕ
taken cell = (count cell - 1) ∷ (drop (slot 1) cell ++ replicate message_size 0)

-- without messages
abbrev pub emptied : List ℕ
emptied = replicate cell_width 0

-- the row with this height of node v
unfoldable pub put_height : List ℕ → ℕ → Height → List ℕ
put_height row zero h = row
put_height row (suc k) h = stored_at row (row_head + k * height_size) h

-- the row with this clock and these sets
unfoldable pub with_head : List ℕ → ℕ → ℕ → ℕ → List ℕ
with_head row clock N F = set (set (set row 0 clock) 1 N) 2 F

-- the words with r in place of k words from index a on; of row i of width w; of a node's row; of a channel's cell
abbrev pub put_part : ℕ → ℕ → List ℕ → List ℕ → List ℕ
put_part a k r xs = take a xs ++ (r ++ drop k (drop a xs))

unfoldable pub put_row : ℕ → ℕ → List ℕ → List ℕ → List ℕ
put_row w i r xs = put_part (i * w) w r xs

abbrev pub put_node : ℕ → ℕ → List ℕ → List ℕ → List ℕ
put_node n u row ns = put_row (width n) (u - 1) row ns

abbrev pub put_channel : ℕ → ℕ → ℕ → List ℕ → List ℕ → List ℕ
put_channel n u v cell cs = put_row cell_width (pair_of n u v) cell cs
