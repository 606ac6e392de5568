-- `election::events::decide_receipt` meets its contract: refused with 6 or 7; or ready, with the clock moved and nothing else, or with v in N alone and its view
-- stored.
use native.Mathlib.Omega.{arith}
use mathlib.Core.Path.{sym, ◌∙◌}
use Rattle.std.proofs.lemmas.Result.{err_from_is_err_and}
use Rattle.election.proofs.DecideLaws.{neighbors-readable, forming-readable, tested-row, receive-refused, receipt-late, ignored-ready, heard-ready}
use Rattle.election.proofs.events.decide_receipt.Goals as goal

pub returns-then-waiting-eq0 : goal.returns-then-waiting-eq0
returns-then-waiting-eq0 c = λ t b is holds. receive-refused b is holds (sym c.waiting.ensures ∙ c.if-waiting-eq0.true)

pub neighbors-linked-requires : goal.neighbors-linked-requires
neighbors-linked-requires c = neighbors-readable c.requires.0 c.requires.3

pub forming-linking-requires : goal.forming-linking-requires
forming-linking-requires c = forming-readable c.requires.0 c.requires.3

pub returns-in_err-clock : goal.returns-in_err-clock
returns-in_err-clock c = λ t b is holds.
    let p = err_from_is_err_and c.from_residual.result c.from_residual.ensures.1 in
    rw (p.1, p.2)
    (receipt-late b is holds (omega (arith, c.waiting.ensures, c.if-waiting-eq0.false)) c.clock.ensures c.nth_timestamp-stamp.ensures
    c.after.ensures c.in_err-clock.was)

pub returns-then-not-is_up : goal.returns-then-not-is_up
returns-then-not-is_up c = λ t b is holds.
    ignored-ready b is holds (omega (arith, c.waiting.ensures, c.if-waiting-eq0.false)) c.clock.ensures c.nth_timestamp-stamp.ensures
    c.after.ensures
    (tested-row c.args.row.now c.args.v _ _ c.neighbors-linked.ensures c.forming-linking.ensures c.is_up.ensures
    ∙ c.if-not-is_up.true)
    c.in_ok-clock.was c.neighbors-linked.ensures c.forming-linking.ensures c.height_in-view.ensures

pub of_receipt-rule-requires : goal.of_receipt-rule-requires
of_receipt-rule-requires c =
    (c.requires.1, c.requires.2)

pub returns : goal.returns
returns c = λ t b is holds.
    heard-ready b is holds (omega (arith, c.waiting.ensures, c.if-waiting-eq0.false)) c.clock.ensures c.nth_timestamp-stamp.ensures
    c.after.ensures
    (tested-row c.args.row.now c.args.v _ _ c.neighbors-linked.ensures c.forming-linking.ensures c.is_up.ensures
    ∙ c.if-not-is_up.false)
    c.in_ok-clock.was c.neighbors-linked.ensures c.forming-linking.ensures
    c.insert-neighbors.ensures c.remove-forming.ensures c.nth_height-view.ensures c.of_receipt-rule.ensures
