-- `election::events::decide_down` meets its contract: refused with 5 or 7, or ready with v in neither set and no view of it.
use Rattle.std.proofs.lemmas.Result.{err_from_is_err_and}
use Rattle.election.proofs.DecideLaws.{neighbors-readable, forming-readable, left_lt, down-refused, down-late, down-ready}
use Rattle.election.proofs.events.decide_down.Goals as goal

pub neighbors-linked-requires : goal.neighbors-linked-requires
neighbors-linked-requires c = neighbors-readable c.requires.0 c.requires.3

pub forming-linking-requires : goal.forming-linking-requires
forming-linking-requires c = forming-readable c.requires.0 c.requires.3

pub returns-then-not-is_up : goal.returns-then-not-is_up
returns-then-not-is_up c = λ cell t b is holds.
    down-refused b is c.neighbors-linked.ensures c.forming-linking.ensures c.is_up.ensures c.if-not-is_up.true

pub returns-in_err-clock : goal.returns-in_err-clock
returns-in_err-clock c = λ cell t b is holds.
    let p = err_from_is_err_and c.from_residual.result c.from_residual.ensures.1 in
    rw (p.1, p.2)
    (down-late b is c.neighbors-linked.ensures c.forming-linking.ensures c.is_up.ensures c.if-not-is_up.false
    c.clock.ensures c.after.ensures c.in_err-clock.was)

pub of_down-rule-requires : goal.of_down-rule-requires
of_down-rule-requires c =
    (c.requires.1, left_lt c.requires.0 c.requires.3 c.requires.2 c.neighbors-linked.ensures c.remove-neighbors.ensures)

pub returns : goal.returns
returns c = λ cell t b is holds.
    down-ready b is c.neighbors-linked.ensures c.forming-linking.ensures c.is_up.ensures c.if-not-is_up.false
    c.clock.ensures c.after.ensures c.in_ok-clock.was c.remove-neighbors.ensures
    c.remove-forming.ensures c.no_view-view.ensures c.of_down-rule.ensures
