-- `drawing::linking::is_new` meets its contract: a link, and not in the first one's set.
use native.Mathlib.Omega.{arith}
use mathlib.Core.Path.{sym, ◌∙◌}
use Rattle.drawing.proofs.Marks.{link-two, new-there, not_new}
use Rattle.drawing.proofs.linking.is_new.Goals as goal

pub overflow_sub-i : goal.overflow_sub-i
overflow_sub-i c = (link-two _ _ (sym c.is_link.ensures ∙ c.if-is_link.true)).one.low

pub bounds-seen-i : goal.bounds-seen-i
bounds-seen-i c =
    let two = link-two _ _ (sym c.is_link.ensures ∙ c.if-is_link.true) in
    omega (arith, two.one.low, two.one.high, c.requires.0, c.requires.1)

pub returns-then-is_link : goal.returns-then-is_link
returns-then-is_link c =
    let if1 = c.if-is_link in
    let is-link = c.is_link in
    new-there _ _ c.args.seen.now _ is-link.ensures if1.true c.contains.ensures

pub returns : goal.returns
returns c = not_new _ _ c.args.seen.now _ c.is_link.ensures c.if-is_link.false
