-- `groups::walks::ups` meets its contract: blank words, filled.
use mathlib.Core.Path.{refl}
use Rattle.groups.proofs.walks.ups.Goals as goal

pub fill_ups-requires : goal.fill_ups-requires
fill_ups-requires c = refl
