-- What holds of every network grown from the fresh one by a list of events, refused ones among them, for every n (so for 1 to 16).
-- The statements are records, below; Runs.antt adds saves and restores, Locality.antt says what an event can touch.
use Prim.Native.Nat.{ℕ}
use mathlib.Core.Bool.{true, false}
use mathlib.Core.List.{List, [], ◌∷◌}
use mathlib.Core.Path.{◌≡◌, refl}
use Rattle.basics.specs.Functions.{after_all}
use Rattle.protocol.specs.Holds.{sound}
use Rattle.protocol.specs.Network.{Node, Network, own, restrict}
use Rattle.protocol.specs.Refusal.{next}
use Rattle.protocol.specs.Sink.{sink}
use Rattle.protocol.specs.Step.{Event}
use Rattle.protocol.specs.Times.{timely}
use Rattle.protocol.proofs.Holding.{sound-holds, timely-holds}
use Rattle.protocol.proofs.Restrict.{restrict-is}
use Rattle.calls.specs.Component.{Quiescent, OneLeader}
use Rattle.calls.specs.History.{State, up_in, waiting, Told, advance, grown}
use Rattle.calls.proofs.Good.{Good, good-grown}
use Rattle.calls.proofs.Leaders.{quiet-leader}

-- 1. it breaks no rule of "What a station holds", holds nothing beyond node n, its times make sense, and no node is a sink
pub record Steady (n : ℕ) (p : Network) : Type 0 where
  pub breaks-no-rule : sound n p ≡ true
  pub nothing-beyond : restrict n p ≡ p
  pub times-make-sense : timely n p ≡ true
  pub no-sink : (u : ℕ) → sink n (p.neighbors u) (p.height u) u ≡ false

-- 2. up and messages waiting by the history are what it holds: History.antt, `Told`

-- 3. quiet by the history: every node's component has exactly one leader, a member, with a falling path to it
abbrev pub Led : ℕ → State → Type 0
Led n s =
    Quiescent n (up_in s.history) (waiting s.history) → (u : ℕ) → Node n u → OneLeader n (up_in s.history) (own s.network) u

-- ---- the theorems

pub good-steady : (n : ℕ) (s : State) → Good n s → Steady n s.network
good-steady n s g = record {
  breaks-no-rule = sound-holds n s.network g.fits;
  nothing-beyond = restrict-is n s.network g.fits;
  times-make-sense = timely-holds n s.network g.timed;
  no-sink = λ u. (g.inv.nodes u).awake;
}

pub grown-steady : (n : ℕ) (es : List Event) → Steady n (grown n es).network
grown-steady n es = good-steady n (grown n es) (good-grown n es)

pub grown-told : (n : ℕ) (es : List Event) → Told (grown n es).history (grown n es).network
grown-told n es = (good-grown n es).told

pub grown-led : (n : ℕ) (es : List Event) → Led n (grown n es)
grown-led n es = quiet-leader n (grown n es) (good-grown n es)

-- the network of a grown state is the one that the events leave, one after the other
pub advanced-network : (n : ℕ) (s : State) (es : List Event) → (after_all (advance n) s es).network ≡ after_all (next n) s.network es
unfolding advance
advanced-network n s [] = refl
advanced-network n s (e ∷ es) = advanced-network n (advance n s e) es
