-- `election::events::are_named` meets its contract: the tests are those of `misnamed`.
use mathlib.Core.Path.{refl}
use Rattle.election.proofs.events.are_named.Goals as goal

pub returns : goal.returns
returns c = refl
