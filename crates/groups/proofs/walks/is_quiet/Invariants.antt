-- `groups::walks::is_quiet` meets its contract: the answer so far is that of the nodes below u.
use Rattle.basics.specs.Functions.{every}
use Rattle.protocol.specs.Quiet.{pair_quiet}
use Rattle.tables.specs.Load.{load}
use Rattle.tables.specs.Tables.{tables}
use Rattle.groups.proofs.LoopLaws.{Tested}
use Rattle.groups.proofs.walks.is_quiet.Given as goal

abbrev pub invariant-loop-u : goal.invariant-loop-u
invariant-loop-u l = Tested (λ w. every l.plot.n (pair_quiet (load l.plot.n (tables l.plot.nodes.now l.plot.channels.now)) w)) l.u l.ok
