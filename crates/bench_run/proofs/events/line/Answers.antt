-- `bench_run::events::line` meets its contract: what the event answers is printed.
use Rattle.bench_run.proofs.LineRuns.{line-done}
use Rattle.text.proofs.PourLaws.{both}
use Rattle.bench_run.proofs.events.line.Goals as goal

pub returns : goal.returns
returns c =
    let x = c.put_answer.ensures in
    line-done _ _ _ _ c.carried_out-answer.ensures (both x.0 x.1) x.2
