-- A node's row: clock, linked set N, forming set F, then the heights of nodes 1 to n, its own and its views.
use Rattle.std.specs.Prelude.{ℕ, zero, suc, ◌+◌, ◌*◌, List, get_or}
use Rattle.height.specs.Height.{zero_height}
use Rattle.height.specs.Words.{height_at, height_size}
use Rattle.height.specs.declared.Height.{Height}
use Rattle.tables.specs.Tables.{row_head}

abbrev pub clock_in : List ℕ → ℕ
clock_in row = get_or row 0 0

abbrev pub neighbors_in : List ℕ → ℕ
neighbors_in row = get_or row 1 0

abbrev pub forming_in : List ℕ → ℕ
forming_in row = get_or row 2 0

-- the height of node v as the row holds it; there is no node 0
unfoldable pub height_in : List ℕ → ℕ → Height
height_in row zero = zero_height
height_in row (suc k) = height_at row (row_head + k * height_size)
