-- `height::order::of_heights` meets its contract: the four parts of the heights, one after the other.
use borrow.Author.Rules.{rules}
use mathlib.Core.Path.{◌∙◌, ap, sym}
use mir.Syntax.{w32}
use mir.Val.{SFits}
use mir.Facts.{to_z-of_z}
use Rattle.height.specs.Comparison.{comparison, said_order}
use Rattle.height.proofs.Compare.{order-heights, order-read}
use Rattle.height.proofs.Signed.{sfits_wide}
use Rattle.height.proofs.order.of_heights.Goals as goal

pub returns : goal.returns
unfolding comparison
returns c =
    let fa : SFits w32 c.args.a.delta = search rules in
    let fb : SFits w32 c.args.b.delta = search rules in
    let delta =
    order-read 4 (sfits_wide c.args.a.delta fa) (sfits_wide c.args.b.delta fb)
    (c.widened.ensures ∙ to_z-of_z fa) (c.widened-2.ensures ∙ to_z-of_z fb) c.of_numbers-delta.ensures in
    rw (
      c.and_then-3.ensures,
      c.and_then-2.ensures,
      c.and_then.ensures,
      c.of_words-id.ensures,
      c.of_pairs-pair.ensures,
      delta,
      c.of_levels-level.ensures,
    )
    (ap said_order (sym (order-heights _ _)))
