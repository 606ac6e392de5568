-- The measure of `histories::paths::replay` is the number of events.
use Rattle.histories.proofs.paths.+replay.Given as goal

abbrev pub decreases-replay : goal.decreases-replay
decreases-replay l = l.path.events
