-- `groups::words::group` meets its contract: a node without links is alone; else the rounds that are left lead to the group.
use Rattle.groups.specs.inner.Words.{in_words}
use Rattle.groups.proofs.LoopLaws.{Rounds}
use Rattle.groups.proofs.words.group.Given as goal

abbrev pub invariant-loop-k : goal.invariant-loop-k
invariant-loop-k l = Rounds l.n (in_words l.near) l.u l.k l.s
