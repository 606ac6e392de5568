-- Times that make sense (document 02, [3]): none in a node's heights above its clock, no stamp above the sender's clock, no message time above
-- its stamp. Refusal 18 names the first pair at which one fails, where no pair breaks a rule. Election times are taken without their sign.
use Rattle.std.specs.Prelude.{ℕ, Bool, ◌&&◌, leb, pos, neg_ℤ}
use Rattle.std.specs.Int.Signed.{le_z}
use Rattle.basics.specs.Functions.{every_pair, all}
use Rattle.height.specs.declared.Height.{Height}
use Rattle.protocol.specs.Network.{Message, Network}

-- search time and election time are at most c
unfoldable pub times_within : ℕ → Height → Bool
times_within c h = leb h.level.tau.0 c && le_z (neg_ℤ (pos c)) h.pair.nlts.0

-- stamped at most c, and its times within its stamp
unfoldable pub message_timely : ℕ → Message → Bool
message_timely c m = leb m.timestamp c && times_within m.timestamp m.height

-- at the pair u, u the own height, at u, v the view of v and the channel u to v
unfoldable pub pair_timely : Network → ℕ → ℕ → Bool
pair_timely p u v = times_within (p.clock u) (p.height u v) && all (message_timely (p.clock u)) (p.channel u v)

unfoldable pub timely : ℕ → Network → Bool
timely n p = every_pair n (pair_timely p)
