-- The history: document 01, "Lists of calls". The accepted events, newest first, each with what was said and its node's clock after it.
-- Up, and messages waiting, by the history alone.
use Rattle.std.specs.Prelude.{ℕ, ◌+◌, ◌-◌, Bool, true, false, cond, ◌&&◌, List, [], ◌∷◌, ◌≡◌, eqb, length}
use Rattle.basics.specs.Functions.{after_all}
use Rattle.nodeset.specs.NodeSet.{member, digit}
use Rattle.protocol.specs.Answer.{Said}
use Rattle.protocol.specs.Network.{Network, up_to, fresh}
use Rattle.protocol.specs.Refusal.{answer, next}
use Rattle.protocol.specs.Step.{Event, up, down, receive, home, is_down, is_receipt}

pub record Entry : Type 0 where
  pub event : Event
  pub said : Said
  pub clock : ℕ  -- of the event's node, after it

abbrev pub History : Type 0
History = List Entry

abbrev pub entry : Event → Said → ℕ → Entry
entry e s c = record { event = e; said = s; clock = c }

-- an event that was said to be accepted enters the history
abbrev pub entered : Event → Said → ℕ → History → History
entered e s c h = cond (eqb s.why.number 0) (entry e s c ∷ h) h

-- ---- is channel u to v up: the newest of the ups and downs of u, v decides, and without one it is down

abbrev pub turned : Event → ℕ → ℕ → Bool → Bool
turned (up a b) u v old = cond (eqb u a && eqb v b) true old
turned (down a b) u v old = cond (eqb u a && eqb v b) false old
turned (receive b a) u v old = old

abbrev pub up_in : History → ℕ → ℕ → Bool
up_in [] u v = false
up_in (e ∷ h) u v = turned e.event u v (up_in h u v)

-- ---- messages waiting: sendings less receipts; a down of u, v starts both counts anew

-- an event at u whose set sent to holds v
abbrev pub is_sending : Entry → ℕ → ℕ → Bool
is_sending e u v = eqb u (home e.event) && member e.said.value.sent_to v

abbrev pub sent_since : History → ℕ → ℕ → ℕ
sent_since [] u v = 0
sent_since (e ∷ h) u v = cond (is_down e.event u v) 0 (digit (is_sending e u v) + sent_since h u v)

abbrev pub received_since : History → ℕ → ℕ → ℕ
received_since [] u v = 0
received_since (e ∷ h) u v = cond (is_down e.event u v) 0 (digit (is_receipt e.event u v) + received_since h u v)

-- the theorems show that nothing is cut off here: received + waiting = sent
abbrev pub waiting : History → ℕ → ℕ → ℕ
waiting h u v = sent_since h u v - received_since h u v

-- the history tells what the network holds: up, and sent = received + waiting
pub record Told (h : History) (p : Network) : Type 0 where
  pub ups : (u v : ℕ) → up_in h u v ≡ up_to p u v
  pub counts : (u v : ℕ) → received_since h u v + length (p.channel u v) ≡ sent_since h u v

-- ---- a network with its history

pub record State : Type 0 where
  pub network : Network
  pub history : History

-- the fresh network; nothing has happened
abbrev pub started : State
started = record { network = fresh; history = [] }

-- after an event, accepted or refused
unfoldable pub advance : ℕ → State → Event → State
advance n s e = record {
  network = next n s.network e;
  history = entered e (answer n s.network e) ((next n s.network e).clock (home e)) s.history;
}

-- grown from the fresh network by a list of events, refused ones among them
abbrev pub grown : ℕ → List Event → State
grown n es = after_all (advance n) started es
