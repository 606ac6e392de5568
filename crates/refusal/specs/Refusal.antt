-- The returned numbers (document 01; document 02, [2] for 16 and 17, [3] for 18, [6] for 19): each reason's number and, for 2 and 18, the pair at fault.
-- The only place that gives a reason its number.
-- `why_of` is injective (proofs/RefusalLaws.antt), so a promise about the numbers is one about the reason.
use Rattle.std.specs.Prelude.{ℕ}
use Rattle.refusal.specs.declared.Refusal.TheVariants.{ChannelFull, TooShort, BadHeader, BadEnd, NotPlace, NoRoom, Malformed, NotSketch, BadLink, Untimely, TooLarge}
use Rattle.refusal.specs.declared.Refusal.TheVariants.{Sizes, Fault, NodeNumber, AlreadyUp, AlreadyDown, NoMessage, ClockEnd, DeltaEnd}
use Rattle.refusal.specs.declared.Refusal.{Refusal}
use Rattle.refusal.specs.declared.Why.{Why}

-- a number with a pair; 0 0 0: not refused
abbrev pub why : ℕ → ℕ → ℕ → Why
why k u v = record { number = k; u = u; v = v }

abbrev pub why_of : Refusal → Why
why_of Sizes = why 1 0 0
why_of (Fault u v) = why 2 u v
why_of NodeNumber = why 3 0 0
why_of AlreadyUp = why 4 0 0
why_of AlreadyDown = why 5 0 0
why_of NoMessage = why 6 0 0
why_of ClockEnd = why 7 0 0
why_of DeltaEnd = why 8 0 0
why_of ChannelFull = why 9 0 0
why_of TooShort = why 10 0 0
why_of BadHeader = why 11 0 0
why_of BadEnd = why 12 0 0
why_of NotPlace = why 13 0 0
why_of NoRoom = why 14 0 0
why_of Malformed = why 15 0 0
why_of NotSketch = why 16 0 0
why_of BadLink = why 17 0 0
why_of (Untimely u v) = why 18 u v
why_of TooLarge = why 19 0 0
