-- A history on the bench: document 02, [6] asks for accepted events alone, so every line of the listing has the code 0.
use Rattle.std.specs.Prelude.{ℕ, suc, List, [], ◌∷◌, ◌++◌, ◌≡◌}
use Rattle.std.specs.Int.Count.{ones}
use Rattle.basics.specs.Functions.{after_all, say_all}
use Rattle.bench_run.specs.Listing.{event_head, station_head, event_line, station_lines, listing}
use Rattle.enumeration.specs.Texts.{input_text}
use Rattle.protocol.specs.Answer.{Said}
use Rattle.protocol.specs.Network.{fresh}
use Rattle.protocol.specs.Refusal.{answer, next}
use Rattle.protocol.specs.Step.{Event}

-- event lines from number k on, each with the code 0, and with rule and messages sent as answered
unfoldable pub zero_lines : ℕ → List Said → List ℕ
zero_lines k [] = []
zero_lines k (s ∷ ss) = event_line k 0 s.value.rule (ones s.value.sent_to) ++ zero_lines (suc k) ss

-- the listing of a history's text: every code is 0, and the stations are those of the network that the history leads to
abbrev pub Benched : ℕ → List Event → Type 0
Benched n es =
    listing (input_text n es)
    ≡ event_head ++ (zero_lines 1 (say_all (next n) (answer n) fresh es) ++ (station_head ++ station_lines n (after_all (next n) fresh es)))
