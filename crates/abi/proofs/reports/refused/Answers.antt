-- `abi::reports::refused` meets its contract: the empty set has no ones.
use mathlib.Core.Path.{refl}
use lib.Count.{ones}
use Rattle.abi.proofs.reports.refused.Goals as goal

pub returns : goal.returns
unfolding ones
returns c = (refl, refl)
