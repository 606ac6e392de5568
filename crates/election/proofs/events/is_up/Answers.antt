-- `election::events::is_up` meets its contract: a node is in one of two sets.
use Rattle.election.proofs.events.is_up.Goals as goal

pub returns : goal.returns
returns c = rw (c.contains-2.ensures, c.contains.ensures)
