-- How many words and bytes a caller lends for n nodes; 0 for n outside 1 to 16.
-- Tables and row as `tables` has them; the bytes are those of the image in which every channel holds 8 messages.
use Rattle.std.specs.Prelude.{ℕ, ◌+◌, ◌-◌, ◌*◌, ◌/◌, Bool, cond, ◌&&◌, leb}
use Rattle.image.specs.Widths.{header_length, depth_width, message_width, node_width}
use Rattle.protocol.specs.Network.{capacity}
use Rattle.height.specs.Words.{height_size}
use Rattle.tables.specs.Tables.{width, cell_width}

abbrev pub is_size : ℕ → Bool
is_size n = leb 1 n && leb n 16

unfoldable pub nodes_length : ℕ → ℕ
nodes_length n = cond (is_size n) (n * width n) 0

unfoldable pub channels_length : ℕ → ℕ
channels_length n = cond (is_size n) (n * n * cell_width) 0

unfoldable pub row_length : ℕ → ℕ
row_length n = cond (is_size n) (n * height_size) 0

-- header, n nodes, n (n - 1) channels of a count and 8 messages
unfoldable pub image_length : ℕ → ℕ
image_length n = cond (is_size n) ((header_length + n * node_width depth_width n + n * (n - 1) * (4 + capacity * message_width depth_width)) / 8) 0
