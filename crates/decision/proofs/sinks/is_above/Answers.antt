-- `decision::sinks::is_above` meets its contract: the two comparisons are those of `above`.
use Rattle.decision.proofs.sinks.is_above.Goals as goal

pub returns : goal.returns
returns c = rw (c.pair_same.ensures, c.height_before.ensures)
