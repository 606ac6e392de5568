-- `plot_files::bench::line` meets its contract: the event that the line names, on the tables.
use Rattle.std.proofs.Common.{◌≡◌, ℕ, List, Result, Ok, Err, sym, ap, ◌∙◌}
use Rattle.std.proofs.lemmas.Result.{err_from_is_err_and}
use Rattle.bench_run.specs.Listing.{by_event}
use Rattle.bench_run.specs.inner.OnTables.{after_command_on}
use Rattle.commands.specs.Commands.{command_of}
use Rattle.commands.specs.inner.Leaves.{said_command}
use Rattle.commands.specs.declared.Command.{Command}
use Rattle.protocol.specs.Answer.{Said}
use Rattle.refusal.specs.Outcome.{Outcome}
use Rattle.refusal.specs.declared.Refusal.{Refusal}
use Rattle.refusal.proofs.RefusalLaws.{never-0}
use Rattle.tables.specs.Tables.{Tables}
use Rattle.plot_files.proofs.bench.line.Goals as goal

-- what is left after the command that was read
of-command : (n : ℕ) (t : Tables) (l : List ℕ) {c d : Result Command Refusal} {u : Tables} → said_command c ≡ command_of l → c ≡ d
    → u ≡ after_command_on n t (said_command d) → u ≡ after_command_on n t (command_of l)
of-command n t l p e x = x ∙ ap (after_command_on n t) (ap said_command (sym e) ∙ p)

pub returns-in_err-u : goal.returns-in_err-u
unfolding by_event after_command_on
returns-in_err-u c = of-command _ _ _ c.parse.ensures c.in_err-u.was (rw (never-0 _))

pub returns-in-Up : goal.returns-in-Up
unfolding by_event after_command_on
returns-in-Up c = of-command _ _ _ c.parse.ensures (c.in_ok-u.was ∙ ap Ok c.in-Up.is) (ap (λ (o : Outcome Said Tables). o.after) c.up.ensures)

pub returns-in-Down : goal.returns-in-Down
unfolding by_event after_command_on
returns-in-Down c = of-command _ _ _ c.parse.ensures (c.in_ok-u.was ∙ ap Ok c.in-Down.is) (ap (λ (o : Outcome Said Tables). o.after) c.down.ensures)

pub returns-in-Receive : goal.returns-in-Receive
unfolding by_event after_command_on
returns-in-Receive c = of-command _ _ _ c.parse.ensures (c.in_ok-u.was ∙ ap Ok c.in-Receive.is) (ap (λ (o : Outcome Said Tables). o.after) c.receive.ensures)
