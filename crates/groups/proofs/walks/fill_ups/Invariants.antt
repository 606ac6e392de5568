-- `groups::walks::fill_ups` meets its contract: the sets of the nodes below w are filled in.
use Rattle.protocol.specs.Network.{up_to}
use Rattle.tables.specs.Load.{load}
use Rattle.tables.specs.Tables.{tables}
use Rattle.groups.proofs.LinkLaws.{Filled}
use Rattle.groups.proofs.walks.fill_ups.Given as goal

abbrev pub invariant-loop-w : goal.invariant-loop-w
invariant-loop-w l = Filled l.plot.n (up_to (load l.plot.n (tables l.plot.nodes.now l.plot.channels.now))) l.w l.ups
