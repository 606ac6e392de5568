-- `decision::outcome::started` meets its contract: u's own pair is kept.
use mathlib.Core.Path.{◌∙◌}
use Rattle.decision.proofs.outcome.started.Goals as goal

pub returns : goal.returns
returns c =
    let own = c.of-own.ensures in
    (c.height_with.ensures ∙ rw own.0, rw c.height_with.ensures own.1)
