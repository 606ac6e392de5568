-- `image_reading::walking::walk_channels` meets its contract: the laws of `Walking` (Steps.antt), the channels from one node at most 16 * 1156 bits.
use Rattle.bits.specs.Bits.{unpacked}
use Rattle.image_reading.specs.Walk.{channels_from_walk}
use Rattle.image_reading.proofs.Steps.{Walking}
use Rattle.image_reading.proofs.walking.walk_channels.Given as goal

abbrev pub invariant-loop-u : goal.invariant-loop-u
invariant-loop-u l = Walking (channels_from_walk l.depth l.n (unpacked l.bytes)) 18496 l.n l.at l.u l.place
