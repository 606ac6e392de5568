-- What is decided of an event by reading alone, and the row that is then written. The meaning is `local` and `returned` of protocol.
use Rattle.std.specs.Prelude.{ℕ, ◌<◌, ◌^◌, ◌≤◌, false, List, ◌≡◌, Result, Ok, Err}
use Rattle.decision.specs.inner.After.{seen}
use Rattle.decision.specs.declared.Decision.{Decision}
use Rattle.decision.specs.inner.Bounds.{AdoptsNode}
use Rattle.height.specs.Clock.{last_time}
use Rattle.height.specs.inner.Stored.{Negated}
use Rattle.height.specs.declared.Height.{Height}
use Rattle.nodeset.specs.NodeSet.{member}
use Rattle.protocol.specs.Answer.{said_refused}
use Rattle.protocol.specs.Network.{Node}
use Rattle.protocol.specs.Refusal.{unfit}
use Rattle.protocol.specs.Step.{Event, up, down, receive, Local, local, carried}
use Rattle.refusal.specs.Outcome.{outcome}
use Rattle.refusal.specs.Refusal.{why_of}
use Rattle.tables.specs.Load.{load}
use Rattle.tables.specs.inner.Written.{put_height, with_head}
use Rattle.tables.specs.Tables.{Tables, node_of, channel_of}
use Rattle.tables.specs.inner.Fit.{TablesFit}
use Rattle.election.specs.StepOn.{step_at}
use Rattle.refusal.specs.declared.Refusal.{Refusal}
use Rattle.election.specs.declared.Kind.TheVariants.{Raised, Dropped, Received}
use Rattle.election.specs.declared.Kind.{Kind}

-- the event of this kind at u with v
abbrev pub event_of : Kind → ℕ → ℕ → Event
event_of Raised u v = up u v
event_of Dropped u v = down u v
event_of Received u v = receive v u

-- two different nodes of sound tables
pub record Between (n : ℕ) (t : Tables) (u v : ℕ) : Type 0 where
  pub fit : TablesFit n t
  pub node : Node n u
  pub other : Node n v
  pub differ : u ≡ v → ⊥

-- what the event leaves at u, as it was decided
abbrev pub local_of : ℕ → Tables → ℕ → ℕ → Decision → Local
local_of n t u v d =
    carried n (member d.neighbors) (member d.forming) (seen (node_of n u t.nodes) v d.view) u v d.clock.0 d.rule

-- past 3 to 7, and decided as the definition says; the rest bounds what is written
pub record Ready (kind : Kind) (n : ℕ) (t : Tables) (u v : ℕ) (d : Decision) : Type 0 where
  pub between : Between n t u v
  pub fits : unfit (load n t) (event_of kind u v) ≡ false
  pub intime : d.clock.0 ≤ last_time
  pub leaves : local n (load n t) (event_of kind u v) ≡ local_of n t u v d
  pub neighbors-lt : d.neighbors < 2 ^ n
  pub forming-lt : d.forming < 2 ^ n
  pub adopts : AdoptsNode n d.rule
  pub view-negated : Negated d.view.pair.nlts.0

-- ready to be finished, or refused with the number that the event answers
abbrev pub Decides : Kind → ℕ → Tables → ℕ → ℕ → Result Decision Refusal → Type 0
Decides kind n t u v (Ok d) = Ready kind n t u v d
Decides kind n t u v (Err why) = outcome (said_refused (why_of why)) t ≡ step_at n (event_of kind u v) t

-- decided by u's row and the cell of channel v to u, whatever else the tables hold
abbrev pub DecidesBy : Kind → ℕ → ℕ → ℕ → List ℕ → List ℕ → Result Decision Refusal → Type 0
DecidesBy kind n u v row cell r =
    (t : Tables) → Between n t u v → row ≡ node_of n u t.nodes → cell ≡ channel_of n v u t.channels → Decides kind n t u v r

-- u's row after the event
abbrev pub row_after : List ℕ → ℕ → ℕ → Decision → Height → List ℕ
row_after row u v d own = with_head (put_height (put_height row v d.view) u own) d.clock.0 d.neighbors d.forming
