-- `holds::delta_holds` meets its contract: the tests on the bits are those on the number.
use mir.Facts.{to_z-of_z}
use Rattle.protocol.specs.Holds.{delta_holds}
use Rattle.holds.proofs.delta_holds.Goals as goal

pub returns : goal.returns
unfolding delta_holds
returns c = rw (to_z-of_z c.ranges.d)
