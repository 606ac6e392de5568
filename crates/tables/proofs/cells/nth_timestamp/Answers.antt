-- `tables::cells::nth_timestamp` meets its contract: message k's timestamp is the last of its eight words.
use Rattle.tables.specs.Cell.{message_at}
use Rattle.tables.proofs.cells.nth_timestamp.Goals as goal

pub returns : goal.returns
unfolding message_at
returns c = rw c.slot_start-at.ensures
