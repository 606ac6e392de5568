-- `election::receive` meets its contract: refused by the check, or the event on tables that fit.
use borrow.Author.Rules.{rules}
use Rattle.std.proofs.lemmas.Result.{err_from_is_err_and}
use Rattle.election.proofs.CheckedLaws.{checked-fits, checked_refused, checked-sound}
use Rattle.election.proofs.receive.Goals as goal

pub event-requires : goal.event-requires
event-requires c =
    checked-fits _ _ c.check.ensures c.in_ok-check.was
    (record { nodes = λ i. search rules; channels = λ i. search rules })

pub returns-in_err-check : goal.returns-in_err-check
returns-in_err-check c =
    let p = err_from_is_err_and c.from_residual.result c.from_residual.ensures.1 in
    rw (p.1, p.2) (checked_refused _ _ c.check.ensures _ c.in_err-check.was)

pub returns : goal.returns
returns c = rw (checked-sound _ _ c.check.ensures _ c.in_ok-check.was) at c.event.ensures
