-- `groups::words::links` meets its contract: the nodes below v that are linked with w are gathered.
use Rattle.groups.specs.Groups.{linked}
use Rattle.groups.specs.inner.Words.{in_words}
use Rattle.groups.proofs.LoopLaws.{Gathered}
use Rattle.groups.proofs.words.links.Given as goal

abbrev pub invariant-loop-v : goal.invariant-loop-v
invariant-loop-v l = Gathered (linked (in_words l.ups) l.w) l.v l.s
