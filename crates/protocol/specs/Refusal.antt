-- The refusals of an event and their order: document 01, "Returned numbers": 3, its own of 4 to 6, then 7 to 9.
-- (1, 2 and 18 are about the lent tables.) A refused event changes nothing.
use Rattle.std.specs.Prelude.{ℕ, Bool, false, not, cond, ◌&&◌, ◌||◌, List, eqb, ltb, ℤ, length}
use Rattle.std.specs.Int.Signed.{lt_z}
use Rattle.basics.specs.Functions.{every}
use Rattle.height.specs.Clock.{last_time}
use Rattle.nodeset.specs.NodeSet.{set_of}
use Rattle.refusal.specs.Refusal.{why}
use Rattle.protocol.specs.Answer.{Said, said_rule, said_refused}
use Rattle.protocol.specs.Holds.{is_empty, least_delta, greatest_delta}
use Rattle.protocol.specs.Network.{Message, Network, is_node, up_to, capacity}
use Rattle.protocol.specs.Step.{Event, up, down, receive, home, peer, Local, local, cleared, step}
use Rattle.protocol.specs.declared.Rule.TheVariants.{ChannelUp, ElectSelf, StartNewRefLevel, NoChange, Ignored}
use Rattle.protocol.specs.declared.Rule.TheVariants.{ReflectRefLevel, PropagateLargestRefLevel, AdoptLpIfPriority, Reply}
use Rattle.protocol.specs.declared.Rule.{Rule}

-- 3: a node number outside 1 to n, or both the same
unfoldable pub misnamed : ℕ → Event → Bool
misnamed n e = not (is_node n (home e) && is_node n (peer e) && not (eqb (home e) (peer e)))

-- 4: up on a channel that is up; 5: down on a channel that is down; 6: receipt from a channel with no message
abbrev pub unfit : Network → Event → Bool
unfit p (up u v) = up_to p u v
unfit p (down u v) = not (up_to p u v)
unfit p (receive v u) = is_empty (p.channel v u)

abbrev pub unfit_number : Event → ℕ
unfit_number (up u v) = 4
unfit_number (down u v) = 5
unfit_number (receive v u) = 6

-- 7: the clock would pass its end
unfoldable pub late : Local → Bool
late l = ltb last_time l.clock

-- 8: rule A or P, and its new depth is no depth
abbrev pub too_deep : Rule → ℤ → Bool
too_deep ChannelUp d = false
too_deep ElectSelf d = false
too_deep StartNewRefLevel d = false
too_deep NoChange d = false
too_deep Ignored d = false
too_deep ReflectRefLevel d = false
too_deep (PropagateLargestRefLevel l) d = lt_z d least_delta
too_deep (AdoptLpIfPriority w) d = lt_z greatest_delta d
too_deep Reply d = false

-- the channel to w has room, if w is sent to
unfoldable pub has_room : Local → (ℕ → List Message) → ℕ → Bool
has_room l channel w = not (l.sent w) || ltb (length (channel w)) capacity

-- 9: a channel that the event sends on is full
unfoldable pub crowded : ℕ → Local → (ℕ → List Message) → Bool
crowded n l channel = not (every n (has_room l channel))

-- the returned number: the first refusal of the order, or 0
unfoldable pub returned : ℕ → Network → Event → ℕ
returned n p e =
    cond (misnamed n e) 3
    (cond (unfit p e) (unfit_number e)
    (cond (late (local n p e)) 7
    (cond (too_deep (local n p e).rule ((local n p e).row (home e)).delta) 8
    (cond (crowded n (local n p e) (cleared p e (home e))) 9 0))))

unfoldable pub accepts : ℕ → Network → Event → Bool
accepts n p e = eqb (returned n p e) 0

-- the whole answer
unfoldable pub answer : ℕ → Network → Event → Said
answer n p e =
    cond (accepts n p e) (said_rule (local n p e).rule (set_of n (local n p e).sent)) (said_refused (why (returned n p e) 0 0))

-- the network after an event, accepted or refused
unfoldable pub next : ℕ → Network → Event → Network
next n p e = cond (accepts n p e) (step n p e) p
