-- `groups::words::heads` meets its contract: the heads are those taken and those left; the measure is how many nodes are left.
use Rattle.nodeset.specs.NodeSet.{member}
use Rattle.nodeset.specs.inner.Operations.{size_of}
use Rattle.groups.proofs.HeadLaws.{Heading}
use Rattle.groups.proofs.words.heads.Given as goal

abbrev pub invariant-loop-left : goal.invariant-loop-left
invariant-loop-left l = Heading l.n l.near l.left l.out

abbrev pub decreases-loop-left : goal.decreases-loop-left
decreases-loop-left l = size_of 16 (member l.left)
