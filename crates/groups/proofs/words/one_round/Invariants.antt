-- `groups::words::one_round` meets its contract: the nodes below w that are reached are gathered.
use Rattle.groups.specs.Groups.{reached}
use Rattle.groups.specs.inner.Words.{in_words}
use Rattle.groups.proofs.LoopLaws.{Gathered}
use Rattle.groups.proofs.words.one_round.Given as goal

abbrev pub invariant-loop-w : goal.invariant-loop-w
invariant-loop-w l = Gathered (reached l.n (in_words l.near) l.s) l.w l.out
