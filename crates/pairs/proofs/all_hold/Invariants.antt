-- `pairs::all_hold` meets its contract. The invariant: what is to be answered is what the messages from k on are.
use Rattle.protocol.specs.Holds.{message_holds}
use Rattle.pairs.proofs.PairLaws.{MessagesFrom}
use Rattle.pairs.proofs.all_hold.Given as goal

abbrev pub invariant-loop-k : goal.invariant-loop-k
invariant-loop-k l = MessagesFrom (message_holds l.n l.u) l.cell l.count l.k
