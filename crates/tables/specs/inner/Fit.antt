-- Tables whose words their network gives back (`tables_of n (load n t) ≡ t`): what the soundness check leaves to rely on.
-- Sets within n, at most 8 messages, unused slots zero; a depth's word is any of 32 bits.
use Rattle.std.specs.Prelude.{ℕ, ◌+◌, ◌*◌, ◌^◌, ◌<◌, ◌≤◌, List, ◌≡◌, get_or, length}
use Rattle.protocol.specs.Network.{Node, capacity}
use Rattle.tables.specs.Cell.{count}
use Rattle.tables.specs.Row.{neighbors_in, forming_in}
use Rattle.height.specs.Words.{height_size}
use Rattle.tables.specs.Tables.{Tables, row_head, message_size, width, cell_width, node_of, channel_of}

-- `sized` as facts
pub record Sized (n : ℕ) (t : Tables) : Type 0 where
  pub low : 1 ≤ n
  pub few : n ≤ 16
  pub nodes : length t.nodes ≡ n * width n
  pub channels : length t.channels ≡ n * n * cell_width

-- a row that its numbers give back
pub record RowFits (n : ℕ) (row : List ℕ) : Type 0 where
  pub wide : length row ≡ width n
  pub neighbors-lt : neighbors_in row < 2 ^ n
  pub forming-lt : forming_in row < 2 ^ n
  pub deltas : (k : ℕ) → k < n → get_or row (row_head + k * height_size + 3) 0 < 4294967296

-- a cell that its messages give back
pub record CellFits (cell : List ℕ) : Type 0 where
  pub wide : length cell ≡ cell_width
  pub few : count cell ≤ capacity
  pub deltas : (k : ℕ) → k < capacity → get_or cell (1 + (k * message_size + 3)) 0 < 4294967296
  pub unused : (j : ℕ) → count cell * message_size ≤ j → j < capacity * message_size → get_or cell (1 + j) 0 ≡ 0

pub record TablesFit (n : ℕ) (t : Tables) : Type 0 where
  pub size : Sized n t
  pub rows : (u : ℕ) → Node n u → RowFits n (node_of n u t.nodes)
  pub cells : (u v : ℕ) → Node n u → Node n v → CellFits (channel_of n u v t.channels)
