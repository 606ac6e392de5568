-- `bench_run::stations::stations` meets its contract: the lines of the nodes so far have been poured.
use mathlib.Core.List.{[]}
use Rattle.tables.specs.Tables.{tables}
use Rattle.bench_run.specs.inner.OnTables.{station_line_on}
use Rattle.text.proofs.PourLaws.{Printed}
use Rattle.bench_run.proofs.stations.stations.Given as goal

abbrev pub invariant-loop-u : goal.invariant-loop-u
invariant-loop-u l = Printed l.n (station_line_on l.n (tables l.nodes [])) l.initial.out l.at l.out l.offset l.u
