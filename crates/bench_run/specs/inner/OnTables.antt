-- The same listing with the events carried out on lent tables, as the code has it; proofs/Listings.antt shows that it is the same.
-- Definitions for the proof: nothing here has to be believed.
use Rattle.std.specs.Prelude.{ℕ, suc, List, [], ◌∷◌, ◌++◌}
use Rattle.basics.specs.Functions.{after_all}
use Rattle.commands.specs.Commands.{SaidCommand, command_of}
use Rattle.election.specs.StepOn.{step_on}
use Rattle.protocol.specs.Answer.{said_refused}
use Rattle.tables.specs.Load.{clock_at, heights_at}
use Rattle.tables.specs.Tables.{Tables}
use Rattle.text.specs.Text.{in_turn}
use Rattle.bench_run.specs.Listing.{said_line, by_event, station_line}

unfoldable pub command_line_on : ℕ → Tables → ℕ → SaidCommand → List ℕ
command_line_on n t k c = by_event (λ e. said_line k (step_on n e t).said) (said_line k (said_refused c.why)) c

unfoldable pub after_command_on : ℕ → Tables → SaidCommand → Tables
after_command_on n t c = by_event (λ e. (step_on n e t).after) t c

unfoldable pub event_lines_on : ℕ → Tables → ℕ → List (List ℕ) → List ℕ
event_lines_on n t k [] = []
event_lines_on n t k (l ∷ ls) = command_line_on n t k (command_of l) ++ event_lines_on n (after_command_on n t (command_of l)) (suc k) ls

abbrev pub after_lines_on : ℕ → Tables → List (List ℕ) → Tables
after_lines_on n t ls = after_all (λ u l. after_command_on n u (command_of l)) t ls

unfoldable pub station_line_on : ℕ → Tables → ℕ → List ℕ
station_line_on n t u = station_line u (heights_at n t u u).pair.lid (clock_at n t u)

unfoldable pub station_lines_on : ℕ → Tables → List ℕ
station_lines_on n t = in_turn n (station_line_on n t)
