-- `decision::outcome::reflected` meets its contract: v's level is the view's, and u's own pair is kept.
use mathlib.Core.Path.{◌∙◌}
use Rattle.basics.proofs.FunctionsLaws.{update-at}
use Rattle.decision.proofs.outcome.reflected.Goals as goal

pub returns : goal.returns
returns c =
    let own = c.of-own.ensures in
    (c.height_with.ensures ∙ rw (own.0, update-at), rw c.height_with.ensures own.1)
