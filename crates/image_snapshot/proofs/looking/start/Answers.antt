-- `image_snapshot::looking::start` meets its contract: with n at most 16 the sum fits.
use native.Mathlib.Omega.{arith}
use mathlib.Core.Path.{refl}
use Rattle.image.specs.Places.{node_place}
use Rattle.image_snapshot.proofs.LookLaws.{before_small}
use Rattle.image_snapshot.proofs.looking.start.Goals as goal

pub overflow_mul-result : goal.overflow_mul-result
overflow_mul-result c = rw c.node.ensures (omega (arith, before_small _ _ c.requires.1 c.requires.2.low c.requires.2.high))

pub overflow_add-result : goal.overflow_add-result
overflow_add-result c = rw c.node.ensures (omega (arith, c.requires.0, before_small _ _ c.requires.1 c.requires.2.low c.requires.2.high))

pub returns : goal.returns
unfolding node_place
returns c =
    rw c.node.ensures (refl, omega (arith, c.requires.0, before_small _ _ c.requires.1 c.requires.2.low c.requires.2.high))
