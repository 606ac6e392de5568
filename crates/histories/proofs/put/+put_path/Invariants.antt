-- The measure of `histories::put::put_path` is the number of events.
use Rattle.histories.proofs.put.+put_path.Given as goal

abbrev pub decreases-put_path : goal.decreases-put_path
decreases-put_path l = l.path.events
