-- `bench_run::events::carried_out` meets its contract: the event that the line names, on the tables.
use mathlib.Core.Path.{ap, ◌∙◌}
use Rattle.std.proofs.Common.{Ok}
use Rattle.std.proofs.lemmas.Result.{err_from_is_err_and}
use Rattle.bench_run.proofs.LineRuns.{line-up, line-down, line-receive, line_refused}
use Rattle.bench_run.proofs.events.carried_out.Goals as goal

pub returns-in_err-u : goal.returns-in_err-u
returns-in_err-u c =
    let p = err_from_is_err_and c.from_residual.result c.from_residual.ensures.1 in
    rw (p.1, p.2) (line_refused _ _ _ c.parse.ensures c.in_err-u.was)

pub returns-in-Up : goal.returns-in-Up
returns-in-Up c = line-up _ _ _ c.parse.ensures (c.in_ok-u.was ∙ ap Ok c.in-Up.is) c.up.ensures

pub returns-in-Down : goal.returns-in-Down
returns-in-Down c = line-down _ _ _ c.parse.ensures (c.in_ok-u.was ∙ ap Ok c.in-Down.is) c.down.ensures

pub returns-in-Receive : goal.returns-in-Receive
returns-in-Receive c = line-receive _ _ _ c.parse.ensures (c.in_ok-u.was ∙ ap Ok c.in-Receive.is) c.receive.ensures
