-- The same texts as the code makes them: candidates by a code from 0 to 26, a path of events as one number in base 27.
use Rattle.std.specs.Prelude.{ℕ, zero, suc, ◌+◌, ◌-◌, ◌/◌, ◌%◌, ◌^◌, ◌≤◌, ◌<◌, cond, List, [], ◌∷◌, ◌++◌, map, ◌≡◌, ltb, length}
use Rattle.calls.specs.History.{grown}
use Rattle.enumeration.specs.Histories.{begun_with, begun, histories}
use Rattle.enumeration.specs.Texts.{event_text, lines_text, input_text}
use Rattle.protocol.specs.Network.{Network}
use Rattle.protocol.specs.Step.{Event, up, down, receive}
use Rattle.tables.specs.Load.{tables_of}
use Rattle.tables.specs.Tables.{Tables}

-- kind c / 9, nodes 1 to 3; where n is below 3, a node above n is refused
unfoldable pub event_at : ℕ → Event
event_at c =
    cond (ltb c 9) (up (c / 3 % 3 + 1) (c % 3 + 1)) (cond (ltb c 18) (down (c / 3 % 3 + 1) (c % 3 + 1)) (receive (c / 3 % 3 + 1) (c % 3 + 1)))

-- the last event is the lowest digit
unfoldable pub path_events : ℕ → ℕ → List Event
path_events zero x = []
path_events (suc d) x = path_events d (x / 27) ++ (event_at (x % 27) ∷ [])

-- the network that a path leads to
unfoldable pub reached_by : ℕ → ℕ → ℕ → Network
reached_by n d x = (grown n (path_events d x)).network

-- the event lines of a path
unfoldable pub path_text : ℕ → ℕ → List ℕ
path_text d x = lines_text (map event_text (path_events d x))

-- the histories, each behind the events es, as texts
unfoldable pub behind_text : ℕ → List Event → List (List Event) → List ℕ
behind_text n es [] = []
behind_text n es (h ∷ hs) = input_text n (es ++ h) ++ behind_text n es hs

-- behind a path: all histories with so many events more
unfoldable pub text_from : ℕ → ℕ → ℕ → ℕ → List ℕ
text_from n left d x = behind_text n (path_events d x) (histories n left (reached_by n d x))

-- those that go on with candidate c
unfoldable pub branch_text : ℕ → ℕ → ℕ → ℕ → ℕ → List ℕ
branch_text n left d x c = behind_text n (path_events d x) (begun_with (histories n left) n (reached_by n d x) (event_at c))

-- m candidates from c on
unfoldable pub codes_from : ℕ → ℕ → List Event
codes_from zero c = []
codes_from (suc m) c = event_at c ∷ codes_from m (suc c)

unfoldable pub turns_text : ℕ → ℕ → ℕ → ℕ → ℕ → List ℕ
turns_text n left d x c = behind_text n (path_events d x) (begun (histories n left) n (reached_by n d x) (codes_from (27 - c) c))

-- ---- what the walk relies on: tables t hold what the path reaches, and the text from `at` on has room in 2^30 bytes

pub record Exploring (n left d x : ℕ) (t : Tables) (at : ℕ) : Type 0 where
  pub low : 1 ≤ n
  pub few : n ≤ 3
  pub short : left + d ≤ 5
  pub path : x < 27 ^ d
  pub start : t ≡ tables_of n (reached_by n d x)
  pub room : at + length (text_from n left d x) < 2 ^ 30

pub record Branching (n left d x c : ℕ) (t : Tables) (at : ℕ) : Type 0 where
  pub low : 1 ≤ n
  pub few : n ≤ 3
  pub short : left + d < 5
  pub path : x < 27 ^ d
  pub code : c < 27
  pub start : t ≡ tables_of n (reached_by n d x)
  pub room : at + length (branch_text n left d x c) < 2 ^ 30
