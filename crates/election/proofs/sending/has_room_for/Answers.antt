-- `election::sending::has_room_for` meets its contract: the set, the cell and its count are those of `room_for`.
use Rattle.election.specs.inner.Cells.{room_for}
use Rattle.election.proofs.sending.has_room_for.Goals as goal

pub returns : goal.returns
unfolding room_for
returns c = rw (c.contains.ensures, c.waiting.ensures, c.channel-cell.ensures.0)
