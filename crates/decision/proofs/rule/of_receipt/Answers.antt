-- `decision::rule::of_receipt` meets its contract: the tests are those of `receipt_rule`, and v's pair is the view's.
use mathlib.Core.Bool.{true, false}
use mathlib.Core.Path.{◌≡◌, sym, ◌∙◌}
use Rattle.basics.proofs.FunctionsLaws.{update-at}
use Rattle.height.specs.Height.{pair_key}
use Rattle.height.specs.Order.{before}
use Rattle.protocol.specs.Rules.{receipt_rule}
use Rattle.decision.proofs.rule.of_receipt.Goals as goal

pub returns-then-pair_same : goal.returns-then-pair_same
unfolding receipt_rule
returns-then-pair_same c =
    rw (update-at, ← c.of-own.ensures.0, ← c.pair_same.ensures, c.if-pair_same.true) c.of_equal_pairs.ensures

pub returns-then-pair_before : goal.returns-then-pair_before
unfolding receipt_rule
returns-then-pair_before c =
    let own = c.of-own in
    let newer : before (pair_key c.args.views.view.pair) (pair_key own.result.pair) ≡ true =
    sym c.pair_before.ensures ∙ c.if-pair_before.true in
    rw (update-at, ← own.ensures.0, ← c.pair_same.ensures, c.if-pair_same.false, newer)

pub returns : goal.returns
unfolding receipt_rule
returns c =
    let own = c.of-own in
    let older : before (pair_key c.args.views.view.pair) (pair_key own.result.pair) ≡ false =
    sym c.pair_before.ensures ∙ c.if-pair_before.false in
    rw (update-at, ← own.ensures.0, ← c.pair_same.ensures, c.if-pair_same.false, older)
