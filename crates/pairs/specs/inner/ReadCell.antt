-- A cell that was filled from an image: at most 8 messages, and zero words after them.
use Rattle.std.specs.Prelude.{ℕ, ◌≤◌, true, List, ◌≡◌, drop}
use Rattle.protocol.specs.Network.{capacity}
use Rattle.tables.specs.Cell.{count, slot, all_zero}

pub record ReadCell (cell : List ℕ) : Type 0 where
  pub few : count cell ≤ capacity
  pub rest : all_zero (drop (slot (count cell)) cell) ≡ true
