-- `groups::walks::collectors` meets its contract: the collectors below w are gathered.
use Rattle.protocol.specs.Network.{own}
use Rattle.tables.specs.Tables.{tables}
use Rattle.groups.specs.Groups.{collects}
use Rattle.tables.specs.Load.{load}
use Rattle.groups.proofs.LoopLaws.{Gathered}
use Rattle.groups.proofs.walks.collectors.Given as goal

abbrev pub invariant-loop-w : goal.invariant-loop-w
invariant-loop-w l = Gathered (collects (own (load l.plot.n (tables l.plot.nodes.now l.plot.channels.now))) l.s) l.w l.out
