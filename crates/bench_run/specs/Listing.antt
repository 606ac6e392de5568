-- The bench listing: document 01, "The bench program", from the bytes of the input to the bytes of the output.
-- Lines and commands are those of `commands`; what an event answers and leaves is the meaning of `protocol`.
use Rattle.std.specs.Prelude.{ℕ, suc, cond, List, [], ◌∷◌, ◌++◌, eqb, leb, length}
use Rattle.std.specs.Int.Count.{ones}
use Rattle.basics.specs.Functions.{after_all}
use Rattle.commands.specs.Commands.{SaidCommand, lines_of, command_of, head_of}
use Rattle.protocol.specs.Answer.{Said, said_refused}
use Rattle.protocol.specs.Network.{Network, fresh, own}
use Rattle.protocol.specs.Refusal.{answer, next}
use Rattle.protocol.specs.Step.{Event, up, down, receive}
use Rattle.text.specs.Text.{decimal, in_turn}

-- ---- fixed lines

-- "event code rule sent"
abbrev pub event_head : List ℕ
event_head = 101 ∷ 118 ∷ 101 ∷ 110 ∷ 116 ∷ 32 ∷ 99 ∷ 111 ∷ 100 ∷ 101 ∷ 32 ∷ 114 ∷ 117 ∷ 108 ∷ 101 ∷ 32 ∷ 115 ∷ 101 ∷ 110 ∷ 116 ∷ 10 ∷ []

-- "station leader clock"
abbrev pub station_head : List ℕ
station_head = 115 ∷ 116 ∷ 97 ∷ 116 ∷ 105 ∷ 111 ∷ 110 ∷ 32 ∷ 108 ∷ 101 ∷ 97 ∷ 100 ∷ 101 ∷ 114 ∷ 32 ∷ 99 ∷ 108 ∷ 111 ∷ 99 ∷ 107 ∷ 10 ∷ []

-- "bad plot"
abbrev pub bad_plot : List ℕ
bad_plot = 98 ∷ 97 ∷ 100 ∷ 32 ∷ 112 ∷ 108 ∷ 111 ∷ 116 ∷ 10 ∷ []

-- ---- event lines: number, returned number, rule or -, messages sent

unfoldable pub event_line : ℕ → ℕ → ℕ → ℕ → List ℕ
event_line k code letter sent = decimal k ++ (32 ∷ (decimal code ++ (32 ∷ letter ∷ 32 ∷ (decimal sent ++ (10 ∷ [])))))

unfoldable pub said_line : ℕ → Said → List ℕ
said_line k s = event_line k s.why.number s.value.rule (ones s.value.sent_to)

-- the event that a line's letter and numbers name: U, D, or M (M u v is a receipt at v from u; a line that names an event has no other letter:
-- `commands`, proofs/Said.antt)
abbrev pub event_named : SaidCommand → Event
event_named c =
    cond (eqb c.value.letter 85) (up c.value.first c.value.second)
    (cond (eqb c.value.letter 68) (down c.value.first c.value.second) (receive c.value.first c.value.second))

-- `act` on the event that a line names, `other` for a malformed one
unfoldable pub by_event : {A : Type 0} → (Event → A) → A → SaidCommand → A
by_event act other c = cond (eqb c.why.number 0) (act (event_named c)) other

-- what a command prints, as line k, and the network after it; a malformed line prints its number and does nothing
unfoldable pub command_line : ℕ → Network → ℕ → SaidCommand → List ℕ
command_line n p k c = by_event (λ e. said_line k (answer n p e)) (said_line k (said_refused c.why)) c

unfoldable pub after_command : ℕ → Network → SaidCommand → Network
after_command n p c = by_event (next n p) p c

unfoldable pub event_lines : ℕ → Network → ℕ → List (List ℕ) → List ℕ
event_lines n p k [] = []
event_lines n p k (l ∷ ls) = command_line n p k (command_of l) ++ event_lines n (after_command n p (command_of l)) (suc k) ls

abbrev pub after_lines : ℕ → Network → List (List ℕ) → Network
after_lines n p ls = after_all (λ q l. after_command n q (command_of l)) p ls

-- ---- station lines: number, its own height's leader, its clock

unfoldable pub station_line : ℕ → ℕ → ℕ → List ℕ
station_line u leader clock = decimal u ++ (32 ∷ (decimal leader ++ (32 ∷ (decimal clock ++ (10 ∷ [])))))

unfoldable pub station_lines : ℕ → Network → List ℕ
station_lines n p = in_turn n (λ u. station_line u (own p u).pair.lid (p.clock u))

-- ---- the whole output

unfoldable pub plot_listing : ℕ → List (List ℕ) → List ℕ
plot_listing n ls = event_head ++ (event_lines n fresh 1 ls ++ (station_head ++ station_lines n (after_lines n fresh ls)))

-- by the first line: "N n", else only "bad plot"
unfoldable pub headed : List (List ℕ) → List ℕ
headed [] = bad_plot
headed (l ∷ ls) = cond (eqb (head_of l) 0) bad_plot (plot_listing (head_of l) ls)

-- input of at most 65,536 bytes, else only "bad plot"
unfoldable pub listing : List ℕ → List ℕ
listing input = cond (leb (length input) 65536) (headed (lines_of input)) bad_plot
