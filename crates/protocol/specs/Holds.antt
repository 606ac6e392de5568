-- The rules of document 01, "What a station holds", as tests; refusal 2 names the first pair at which one fails.
-- At the pair u, u stand clock, N, F and own height; at u, v the view of v and the channel u to v.
use Rattle.std.specs.Prelude.{ℕ, Bool, true, false, not, cond, ◌&&◌, ◌||◌, List, [], ◌∷◌, eqb, leb, ℤ, pos, negsuc, neg_ℤ, length}
use Rattle.std.specs.Int.Signed.{le_z}
use Rattle.basics.specs.Functions.{every, every_pair, all}
use Rattle.height.specs.Clock.{last_time}
use Rattle.height.specs.Height.{height_key, zero_height}
use Rattle.height.specs.Order.{same}
use Rattle.height.specs.declared.Height.{Height}
use Rattle.height.specs.declared.LeaderPair.{LeaderPair}
use Rattle.height.specs.declared.ReferenceLevel.{ReferenceLevel}
use Rattle.protocol.specs.Network.{Message, Network, up_to, capacity}

-- originator 0 to n, bit 0 or 1; no search: time, originator and bit are all 0; a search: neither time nor originator is 0
unfoldable pub level_holds : ℕ → ReferenceLevel → Bool
level_holds n l =
    leb l.tau.0 last_time && leb l.oid n && leb l.r 1
    && (eqb l.oid 0 && (eqb l.tau.0 0 && eqb l.r 0) || not (eqb l.oid 0) && not (eqb l.tau.0 0))

-- depth −32,768 to 32,767
abbrev pub least_delta : ℤ
least_delta = negsuc 32767

abbrev pub greatest_delta : ℤ
greatest_delta = pos 32767

unfoldable pub delta_holds : ℤ → Bool
delta_holds d = le_z least_delta d && le_z d greatest_delta

-- negated election time 0 down to −4,294,967,295; leader 1 to n
unfoldable pub leader_pair_holds : ℕ → LeaderPair → Bool
leader_pair_holds n q = le_z (neg_ℤ (pos last_time)) q.nlts.0 && le_z q.nlts.0 (pos 0) && leb 1 q.lid && leb q.lid n

-- a height of node k
unfoldable pub height_holds : ℕ → ℕ → Height → Bool
height_holds n k h = level_holds n h.level && delta_holds h.delta && leader_pair_holds n h.pair && eqb h.id k

-- a message's station number is the sender's, u
unfoldable pub message_holds : ℕ → ℕ → Message → Bool
message_holds n u m = height_holds n u m.height && leb m.timestamp last_time

-- N and F share no node
unfoldable pub not_in_both : (ℕ → Bool) → (ℕ → Bool) → ℕ → Bool
not_in_both N F v = not (N v && F v)

-- sets of node u: disjoint, never holding u itself
unfoldable pub sets_hold : ℕ → ℕ → (ℕ → Bool) → (ℕ → Bool) → Bool
sets_hold n u N F = every n (not_in_both N F) && not (N u) && not (F u)

abbrev pub is_empty : List Message → Bool
is_empty [] = true
is_empty (m ∷ ms) = false

-- the pair u, u; no channel leads from a node to itself
unfoldable pub own_holds : ℕ → Network → ℕ → Bool
own_holds n p u =
    leb (p.clock u) last_time && sets_hold n u (p.neighbors u) (p.forming u) && height_holds n u (p.height u u)
    && is_empty (p.channel u u)

-- the view of v: a height of v's where v is in N, else all zero
unfoldable pub view_holds : ℕ → Network → ℕ → ℕ → Bool
view_holds n p u v =
    cond (p.neighbors u v) (height_holds n v (p.height u v)) (same (height_key (p.height u v)) (height_key zero_height))

-- 0 to 8 messages of u's, and none where the channel is down
unfoldable pub channel_holds : ℕ → Network → ℕ → ℕ → Bool
channel_holds n p u v =
    leb (length (p.channel u v)) capacity && all (message_holds n u) (p.channel u v)
    && (up_to p u v || is_empty (p.channel u v))

unfoldable pub pair_holds : ℕ → Network → ℕ → ℕ → Bool
pair_holds n p u v = cond (eqb u v) (own_holds n p u) (view_holds n p u v && channel_holds n p u v)

-- the network breaks no rule
unfoldable pub sound : ℕ → Network → Bool
sound n p = every_pair n (pair_holds n p)
