-- `bench_run::events::lines` meets its contract: line after line (LinesRun.antt), each at least one byte of the input.
use Prim.Native.Nat.{◌+◌, ◌-◌}
use mathlib.Core.Path.{◌≡◌}
use lib.ListN.{length}
use Rattle.tables.specs.Tables.{tables}
use Rattle.bench_run.proofs.LinesRun.{Running}
use Rattle.bench_run.proofs.events.lines.Given as goal

abbrev pub invariant-loop-start : goal.invariant-loop-start
invariant-loop-start l =
    Running l.n (tables l.initial.nodes l.initial.channels) l.input l.from l.initial.out l.at (tables l.nodes l.channels) l.out l.start l.k l.offset × (length l.nodes ≡ length l.initial.nodes)
    × (length l.channels ≡ length l.initial.channels)

abbrev pub decreases-loop-start : goal.decreases-loop-start
decreases-loop-start l = length l.input + 1 - l.start
