-- The three events: document 01, "The three events" (source 001, section 3.5). What an accepted event leaves.
-- In three layers: the rule (Rules), what it leaves at its node (`Local`), and the network after it (`commit`).
use Rattle.std.specs.Prelude.{ℕ, Bool, true, false, cond, ◌&&◌, ◌||◌, eqb, pos}
use mathlib.Core.List.{List, [], ◌∷◌, ◌++◌, tail}
use Rattle.std.proofs.Math.IntN.{suc_ℤ, pred_ℤ}
use Rattle.basics.specs.Functions.{update}
use Rattle.height.specs.Height.{zero_height, self_elected}
use Rattle.height.specs.declared.Height.{Height}
use Rattle.protocol.specs.Clock.{ticked, receipt_clock}
use Rattle.protocol.specs.Network.{Message, Network, up_to}
use Rattle.protocol.specs.Rules.{down_rule, receipt_rule, deltas, smallest}
use Rattle.protocol.specs.declared.Rule.TheVariants.{ChannelUp, ElectSelf, StartNewRefLevel, NoChange, Ignored}
use Rattle.protocol.specs.declared.Rule.TheVariants.{ReflectRefLevel, PropagateLargestRefLevel, AdoptLpIfPriority, Reply}
use Rattle.protocol.specs.declared.Rule.{Rule}

pub data Event : Type 0 where
  up : ℕ → ℕ → Event  -- up u v: channel u to v goes up, at u
  down : ℕ → ℕ → Event  -- down u v: channel u to v goes down, at u
  receive : ℕ → ℕ → Event  -- receive v u: the first message of channel v to u, at u

-- the node at which the event happens, and the other
abbrev pub home : Event → ℕ
home (up u v) = u
home (down u v) = u
home (receive v u) = u

abbrev pub peer : Event → ℕ
peer (up u v) = v
peer (down u v) = v
peer (receive v u) = v

-- the event is a down of u, v; a receipt at v from u
abbrev pub is_down : Event → ℕ → ℕ → Bool
is_down (up a b) u v = false
is_down (down a b) u v = eqb u a && eqb v b
is_down (receive b a) u v = false

abbrev pub is_receipt : Event → ℕ → ℕ → Bool
is_receipt (up a b) u v = false
is_receipt (down a b) u v = false
is_receipt (receive b a) u v = eqb u b && eqb v a

-- ---- what a rule does at u: v is the other node of the event, t the moved clock T

-- u's height after the rule
abbrev pub height_after : ℕ → (ℕ → Bool) → (ℕ → Height) → ℕ → ℕ → ℕ → Rule → Height
height_after n N row u v t ChannelUp = row u
height_after n N row u v t ElectSelf = self_elected t u
height_after n N row u v t StartNewRefLevel =
    record { level = record { tau = record { 0 = t }; oid = u; r = 0 }; delta = pos 0; pair = (row u).pair; id = u }
height_after n N row u v t NoChange = row u
height_after n N row u v t Ignored = row u
height_after n N row u v t ReflectRefLevel =
    record {
      level = record { tau = record { 0 = (row v).level.tau.0 }; oid = (row v).level.oid; r = 1 };
      delta = pos 0;
      pair = (row u).pair;
      id = u;
    }
height_after n N row u v t (PropagateLargestRefLevel l) =
    record { level = l; delta = pred_ℤ (smallest (deltas n N row l)); pair = (row u).pair; id = u }
height_after n N row u v t (AdoptLpIfPriority w) =
    record { level = (row w).level; delta = suc_ℤ (row w).delta; pair = (row w).pair; id = u }
height_after n N row u v t Reply = row u

-- whether the rule sends to w, of which `is_up` says whether it is in N or F:
-- U and R to v alone, Q and I to nobody, every other to all of N and F
abbrev pub sends : ℕ → Rule → ℕ → Bool → Bool
sends v ChannelUp w is_up = eqb w v
sends v ElectSelf w is_up = is_up
sends v StartNewRefLevel w is_up = is_up
sends v NoChange w is_up = false
sends v Ignored w is_up = false
sends v ReflectRefLevel w is_up = is_up
sends v (PropagateLargestRefLevel l) w is_up = is_up
sends v (AdoptLpIfPriority x) w is_up = is_up
sends v Reply w is_up = eqb w v

-- what an event leaves at its node, and whom it sends to
pub record Local : Type 0 where
  pub rule : Rule
  pub clock : ℕ
  pub neighbors : ℕ → Bool
  pub forming : ℕ → Bool
  pub row : ℕ → Height
  pub sent : ℕ → Bool

-- the rule carried out at u; N, F and `row` as they stand before the height changes
unfoldable pub carried : ℕ → (ℕ → Bool) → (ℕ → Bool) → (ℕ → Height) → ℕ → ℕ → ℕ → Rule → Local
carried n N F row u v t rule =
    record {
      rule = rule;
      clock = t;
      neighbors = N;
      forming = F;
      row = update row u (height_after n N row u v t rule);
      sent = λ w. sends v rule w (N w || F w);
    }

-- ---- the events, at their node

-- rule U: v is put into F and gets the height of u
unfoldable pub local_up : ℕ → Network → ℕ → ℕ → Local
local_up n p u v =
    carried n (p.neighbors u) (update (p.forming u) v true) (p.height u) u v (ticked (p.clock u)) ChannelUp

-- v leaves N and F, its view is forgotten
unfoldable pub local_down : ℕ → Network → ℕ → ℕ → Local
local_down n p u v =
    let N : ℕ → Bool = update (p.neighbors u) v false in
    let row : ℕ → Height = update (p.height u) v zero_height in
    carried n N (update (p.forming u) v false) row u v (ticked (p.clock u)) (down_rule n N row u)

-- v in neither set: the clock moves, as for any receipt, and nothing else. Rule I
unfoldable pub local_ignored : ℕ → Network → ℕ → ℕ → ℕ → Local
local_ignored n p u v stamp =
    carried n (p.neighbors u) (p.forming u) (p.height u) u v (receipt_clock (p.clock u) stamp) Ignored

-- the sender v moves from F to N, and its height becomes the view of it
unfoldable pub local_taken : ℕ → Network → ℕ → ℕ → Message → Local
local_taken n p u v m =
    let N : ℕ → Bool = update (p.neighbors u) v true in
    let row : ℕ → Height = update (p.height u) v m.height in
    carried n N (update (p.forming u) v false) row u v (receipt_clock (p.clock u) m.timestamp) (receipt_rule n N row u v)

-- a receipt at u from v with these messages waiting (none: refused with 6 before this is asked)
abbrev pub local_receipt : ℕ → Network → ℕ → ℕ → List Message → Local
local_receipt n p u v [] = local_ignored n p u v 0
local_receipt n p u v (m ∷ ms) = cond (up_to p u v) (local_taken n p u v m) (local_ignored n p u v m.timestamp)

abbrev pub local : ℕ → Network → Event → Local
local n p (up u v) = local_up n p u v
local n p (down u v) = local_down n p u v
local n p (receive v u) = local_receipt n p u v (p.channel v u)

-- ---- the network after an event

-- the channels before anything is sent: a down loses the channel's messages, a receipt takes the first one
abbrev pub cleared : Network → Event → ℕ → ℕ → List Message
cleared p (up u v) = p.channel
cleared p (down u v) = update p.channel u (update (p.channel u) v [])
cleared p (receive v u) = update p.channel v (update (p.channel v) u (tail (p.channel v u)))

-- a message goes to the end of a channel
unfoldable pub post : Bool → Message → List Message → List Message
post true m ms = ms ++ (m ∷ [])
post false m ms = ms

-- l at node u, its height stamped T sent to the nodes of l's set
unfoldable pub commit : Network → ℕ → Local → (ℕ → ℕ → List Message) → Network
commit p u l channel = record {
  clock = update p.clock u l.clock;
  neighbors = update p.neighbors u l.neighbors;
  forming = update p.forming u l.forming;
  height = update p.height u l.row;
  channel = update channel u (λ w. post (l.sent w) (record { height = l.row u; timestamp = l.clock }) (channel u w));
}

-- the network after an accepted event
unfoldable pub step : ℕ → Network → Event → Network
step n p e = commit p (home e) (local n p e) (cleared p e)
