-- `groups::words::fill_links` meets its contract: the sets of the nodes below w are filled in.
use Rattle.groups.specs.Groups.{linked}
use Rattle.groups.specs.inner.Words.{in_words}
use Rattle.groups.proofs.LinkLaws.{Filled}
use Rattle.groups.proofs.words.fill_links.Given as goal

abbrev pub invariant-loop-w : goal.invariant-loop-w
invariant-loop-w l = Filled l.n (linked (in_words l.ups)) l.w l.near
