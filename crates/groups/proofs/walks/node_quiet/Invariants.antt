-- `groups::walks::node_quiet` meets its contract: the answer so far is that of the nodes below v.
use Rattle.protocol.specs.Quiet.{pair_quiet}
use Rattle.tables.specs.Load.{load}
use Rattle.tables.specs.Tables.{tables}
use Rattle.groups.proofs.LoopLaws.{Tested}
use Rattle.groups.proofs.walks.node_quiet.Given as goal

abbrev pub invariant-loop-v : goal.invariant-loop-v
invariant-loop-v l = Tested (pair_quiet (load l.plot.n (tables l.plot.nodes.now l.plot.channels.now)) l.u) l.v l.ok
