-- `tables::cells::nth_height` meets its contract: message k's height stands from where its slot starts.
use Rattle.tables.specs.Cell.{message_at}
use Rattle.tables.proofs.cells.nth_height.Goals as goal

pub returns : goal.returns
unfolding message_at
returns c = rw (← c.slot_start.ensures) c.load_height.ensures
