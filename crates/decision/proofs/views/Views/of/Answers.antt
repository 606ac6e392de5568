-- `decision::views::Views::of` meets its contract: v's view is the one passed, every other is the row's.
use mathlib.Core.Path.{sym, ap, ◌∙◌}
use Rattle.basics.specs.Functions.{update}
use Rattle.basics.proofs.FunctionsLaws.{update-at, update-off}
use Rattle.tables.specs.Row.{height_in}
use Rattle.decision.proofs.views.Views.of.Goals as goal

pub returns-then-w-self : goal.returns-then-w-self
returns-then-w-self c =
    let f = update (height_in c.args.self.row.now) c.args.self.v c.args.self.view in
    (sym (ap f c.if-w-self.true ∙ update-at _ _ _), c.args.self.negated)

pub returns : goal.returns
returns c = (c.height_in.ensures.0 ∙ sym (update-off _ _ _ _ c.if-w-self.false), c.height_in.ensures.1)
