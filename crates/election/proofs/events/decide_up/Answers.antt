-- `election::events::decide_up` meets its contract: refused with 4 or 7, or ready with v in the forming set.
use Rattle.std.proofs.lemmas.Result.{err_from_is_err_and}
use Rattle.election.proofs.DecideLaws.{neighbors-readable, forming-readable, up-refused, up-late, up-ready}
use Rattle.election.proofs.events.decide_up.Goals as goal

pub neighbors-neighbors-requires : goal.neighbors-neighbors-requires
neighbors-neighbors-requires c = neighbors-readable c.requires.0 c.requires.2

pub forming-linking-requires : goal.forming-linking-requires
forming-linking-requires c = forming-readable c.requires.0 c.requires.2

pub returns-then-is_up : goal.returns-then-is_up
returns-then-is_up c = λ u cell t b is holds.
    up-refused b is c.neighbors-neighbors.ensures c.forming-linking.ensures c.is_up.ensures c.if-is_up.true

pub returns-in_err-clock : goal.returns-in_err-clock
returns-in_err-clock c = λ u cell t b is holds.
    let p = err_from_is_err_and c.from_residual.result c.from_residual.ensures.1 in
    rw (p.1, p.2)
    (up-late b is c.neighbors-neighbors.ensures c.forming-linking.ensures c.is_up.ensures c.if-is_up.false
    c.clock.ensures c.after.ensures c.in_err-clock.was)

pub returns : goal.returns
returns c = λ u cell t b is holds.
    up-ready b is c.neighbors-neighbors.ensures c.forming-linking.ensures c.is_up.ensures c.if-is_up.false
    c.clock.ensures c.after.ensures c.in_ok-clock.was c.insert-forming.ensures c.height_in-view.ensures
