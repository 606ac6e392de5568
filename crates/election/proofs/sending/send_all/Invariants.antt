-- `election::sending::send_all` meets its contract. The invariant: sending to the nodes left leaves the cells that sending to all of `to` leaves.
-- The measure is the set that is left.
use Rattle.election.proofs.SendLaws.{Sending}
use Rattle.election.proofs.sending.send_all.Given as goal

abbrev pub invariant-loop-left : goal.invariant-loop-left
invariant-loop-left l = Sending l.n l.u l.to l.h l.t.0 l.initial.channels l.channels l.left

abbrev pub decreases-loop-left : goal.decreases-loop-left
decreases-loop-left l = l.left
