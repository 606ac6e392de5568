-- `image_reading::walking::walk_channels_from` meets its contract: the laws of `Walking` (Steps.antt), a step at most 1156 bits far.
use Rattle.bits.specs.Bits.{unpacked}
use Rattle.image_reading.specs.Walk.{channel_step}
use Rattle.image_reading.proofs.Steps.{Walking}
use Rattle.image_reading.proofs.walking.walk_channels_from.Given as goal

abbrev pub invariant-loop-v : goal.invariant-loop-v
invariant-loop-v l = Walking (channel_step l.depth (unpacked l.bytes) l.u) 1156 l.n l.at l.v l.place
