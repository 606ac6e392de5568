-- `bench_run::lines::put_answer` meets its contract: the line of what the answer says.
use Rattle.text.proofs.PourLaws.{both, finish}
use Rattle.bench_run.proofs.PieceLaws.{said-line, said-le}
use Rattle.bench_run.proofs.lines.put_answer.Goals as goal

pub returns : goal.returns
returns c =
    let e = c.put_event.ensures in
    let line = said-line _ _ c.number.ensures
    c.letter.ensures c.sent.ensures in
    finish (both e.0 e.1) line 35 (said-le _ _)
