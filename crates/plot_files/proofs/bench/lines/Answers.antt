-- `plot_files::bench::lines` meets its contract: line after line (EventLaws.antt), each at least one byte of the input.
use Rattle.std.proofs.Common.{arith}
use Rattle.plot_files.proofs.EventLaws.{left-all, left-next, left-none}
use Rattle.plot_files.proofs.bench.lines.Goals as goal

pub loop-start-init : goal.loop-start-init
loop-start-init c = left-all _ _ _ _

pub loop-start-preserved : goal.loop-start-preserved
loop-start-preserved c =
    left-next _ _ _ _ _ _ c.loop-start.start c.line_end-end.result c.loop-start.invariant c.loop-start-test.true c.line_end-end.ensures.0
    c.line.ensures

pub returns : goal.returns
returns c = left-none _ _ _ _ _ c.loop-start.start c.loop-start.invariant (omega arith)
