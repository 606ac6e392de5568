-- `groups::words::all_nodes` meets its contract: the nodes below w are gathered.
use mathlib.Core.Bool.{true}
use Rattle.groups.proofs.LoopLaws.{Gathered}
use Rattle.groups.proofs.words.all_nodes.Given as goal

abbrev pub invariant-loop-w : goal.invariant-loop-w
invariant-loop-w l = Gathered (λ k. true) l.w l.out
