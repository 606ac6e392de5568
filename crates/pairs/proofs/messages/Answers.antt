-- `pairs::messages` meets its contract: both tests at once, and where they fail the rules alone.
use mathlib.Core.Path.{sym, ◌∙◌}
use Rattle.basics.specs.Functions.{all}
use Rattle.protocol.specs.Times.{message_timely}
use Rattle.tables.specs.Cell.{messages_at}
use Rattle.pairs.proofs.PairLaws.{messages-good, messages-untimely, faulty}
use Rattle.pairs.proofs.messages.Goals as goal

pub returns-then-all_pass : goal.returns-then-all_pass
returns-then-all_pass c =
    let a = c.args in
    messages-good a.n a.u a.clock (messages_at a.count a.cell.now 1) (sym c.all_pass.ensures ∙ c.if-all_pass.true)

pub returns-then-all_hold : goal.returns-then-all_hold
returns-then-all_hold c =
    let a = c.args in
    messages-untimely a.n a.u a.clock (messages_at a.count a.cell.now 1) (sym c.all_pass.ensures ∙ c.if-all_pass.false)
    (sym c.all_hold.ensures ∙ c.if-all_hold.true)

pub returns : goal.returns
returns c =
    let a = c.args in
    faulty (all (message_timely a.clock) (messages_at a.count a.cell.now 1)) (sym c.all_hold.ensures ∙ c.if-all_hold.false)
