-- Causal clocks: document 02, [5], and source 001, section 2.3. By the history alone: which event sent the message that a receipt takes, what is claimed of
-- the clocks of both, and which event happens before which.
use Rattle.std.specs.Prelude.{ℕ, ◌<◌, cond, [], ◌∷◌, ◌++◌, ◌≡◌, drop}
use Rattle.protocol.specs.Step.{receive, home, is_down}
use Rattle.calls.specs.History.{Entry, History, is_sending, received_since}

-- ---- who sent which message

-- the entries that sent on channel u to v since its last down, oldest first
abbrev pub sendings : History → ℕ → ℕ → History
sendings [] u v = []
sendings (e ∷ h) u v = cond (is_down e.event u v) [] (cond (is_sending e u v) (sendings h u v ++ (e ∷ [])) (sendings h u v))

-- first in, first out: those whose messages wait on it, oldest first
abbrev pub unheard : History → ℕ → ℕ → History
unheard h u v = drop (received_since h u v) (sendings h u v)

-- ---- the claim

-- the first message that waits on channel v to u by the history h: an entry of h sent it, and its clock is smaller than c
pub record SentBefore (h : History) (v u c : ℕ) : Type 0 where
  pub sending : Entry
  pub others : History
  pub first : unheard h v u ≡ sending ∷ others
  pub smaller : sending.clock < c

-- e, straight behind the history h: its clock exceeds those of h's entries at its node and, of a receipt, that of the entry that sent the message
pub record Later (h : History) (e : Entry) : Type 0 where
  pub own : (newer older : History) (x : Entry) → h ≡ newer ++ (x ∷ older) → home x.event ≡ home e.event → x.clock < e.clock
  pub received : (v u : ℕ) → e.event ≡ receive v u → SentBefore h v u e.clock

-- every entry
abbrev pub Causal : History → Type 0
Causal h = (newer older : History) (e : Entry) → h ≡ newer ++ (e ∷ older) → Later older e

-- ---- happens-before

-- at one node, the older before the newer; a sending before the receipt of its message; and so on in a row
pub data HappensBefore (h : History) : Entry → Entry → Type 0 where
  at_one_node : {x y : Entry} (newer between older : History) → h ≡ newer ++ (y ∷ (between ++ (x ∷ older))) → home x.event ≡ home y.event
      → HappensBefore h x y
  sent_to_received : {x y : Entry} (newer older others : History) (v u : ℕ) → h ≡ newer ++ (y ∷ older) → y.event ≡ receive v u
      → unheard older v u ≡ x ∷ others → HappensBefore h x y
  in_a_row : {x y z : Entry} → HappensBefore h x y → HappensBefore h y z → HappensBefore h x z
