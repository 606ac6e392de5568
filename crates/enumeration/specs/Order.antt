-- The order of events and of histories: document 02, [6].
use Rattle.std.specs.Prelude.{ℕ, Bool, List, [], ◌∷◌, ◌++◌, ℤ, pos}
use Rattle.commands.specs.Commands.{Line}
use Rattle.height.specs.Order.{before}
use Rattle.protocol.specs.Step.{Event, up, down, receive}

-- an event as a bench line has it: U, D or M in ASCII and its numbers; of a receipt the sender, then the receiver
abbrev pub line_of : Event → Line
line_of (up u v) = record { letter = 85; first = u; second = v }
line_of (down u v) = record { letter = 68; first = u; second = v }
line_of (receive v u) = record { letter = 77; first = v; second = u }

-- U before D before M
abbrev pub kind_of : Event → ℕ
kind_of (up u v) = 0
kind_of (down u v) = 1
kind_of (receive v u) = 2

-- then by the first number of the line, then by the second
abbrev pub event_key : Event → List ℤ
event_key e = pos (kind_of e) ∷ pos (line_of e).first ∷ pos (line_of e).second ∷ []

-- dictionary order of histories of one length: the first event that differs decides
unfoldable pub history_key : List Event → List ℤ
history_key [] = []
history_key (e ∷ es) = event_key e ++ history_key es

unfoldable pub earlier : List Event → List Event → Bool
earlier g h = before (history_key g) (history_key h)
