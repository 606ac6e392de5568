-- `decision::outcome::propagated` meets its contract: one less than the smallest depth is in range exactly where that is above the least.
use borrow.Author.Rules.{rules}
use mir.Syntax.{w32}
use mir.Val.{SFits}
use mir.Facts.{to_z-of_z}
use Rattle.decision.specs.inner.After.{after_rule}
use Rattle.decision.proofs.Depths.{pred-below}
use Rattle.decision.proofs.outcome.propagated.Goals as goal

pub returns-then-least-gt-LEAST_DELTA : goal.returns-then-least-gt-LEAST_DELTA
unfolding after_rule
returns-then-least-gt-LEAST_DELTA c =
    let own = c.of-own in
    let least = c.smallest_delta-least in
    let less = c.one_less-delta in
    let f : SFits w32 least.result = search rules in
    let g : SFits w32 less.result = search rules in
    let room = rw (to_z-of_z f) at c.if-least-gt-LEAST_DELTA.true in (
      rw (pred-below, ← least.ensures, room, c.height_with.ensures, to_z-of_z g, less.ensures, to_z-of_z f, own.ensures.0),
      rw c.height_with.ensures own.ensures.1,
    )

pub returns : goal.returns
unfolding after_rule
returns c =
    let least = c.smallest_delta-least in
    let f : SFits w32 least.result = search rules in
    (rw (pred-below, ← least.ensures, rw (to_z-of_z f) at c.if-least-gt-LEAST_DELTA.false), tt)
