-- `election::events::no_view` meets its contract.
use mathlib.Core.Path.{refl}
use native.Mathlib.Omega.{arith}
use Rattle.height.specs.inner.Stored.{Negated}
use Rattle.election.proofs.events.no_view.Goals as goal

pub returns : goal.returns
unfolding Negated
returns c = (refl, omega arith)
