-- Line after line (EventLaws.antt), each at least one byte of the input.
use Rattle.std.proofs.Common.{◌+◌, ◌-◌, length}
use Rattle.tables.specs.Tables.{tables}
use Rattle.plot_files.proofs.EventLaws.{Left}
use Rattle.plot_files.proofs.bench.lines.Given as goal

abbrev pub invariant-loop-start : goal.invariant-loop-start
invariant-loop-start l = Left l.n (tables l.initial.nodes l.initial.channels) l.input l.from (tables l.nodes l.channels) l.start

abbrev pub decreases-loop-start : goal.decreases-loop-start
decreases-loop-start l = length l.input + 1 - l.start
