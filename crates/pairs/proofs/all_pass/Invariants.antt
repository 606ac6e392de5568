-- `pairs::all_pass` meets its contract. The invariant: what is to be answered is what the messages from k on are.
use Rattle.pairs.specs.inner.Findings.{passes}
use Rattle.pairs.proofs.PairLaws.{MessagesFrom}
use Rattle.pairs.proofs.all_pass.Given as goal

abbrev pub invariant-loop-k : goal.invariant-loop-k
invariant-loop-k l = MessagesFrom (passes l.n l.u l.clock) l.cell l.count l.k
