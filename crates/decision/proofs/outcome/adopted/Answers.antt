-- `decision::outcome::adopted` meets its contract: one more than w's depth is in range exactly where that is below the greatest.
use borrow.Author.Rules.{rules}
use mir.Syntax.{w32}
use mir.Val.{SFits}
use mir.Facts.{to_z-of_z}
use Rattle.decision.specs.inner.After.{after_rule}
use Rattle.decision.proofs.Depths.{below_suc}
use Rattle.decision.proofs.outcome.adopted.Goals as goal

pub returns-then-other-lt-GREATEST_DELTA : goal.returns-then-other-lt-GREATEST_DELTA
unfolding after_rule
returns-then-other-lt-GREATEST_DELTA c =
    let other = c.of-other in
    let more = c.one_more-delta in
    let f : SFits w32 other.result.delta = search rules in
    let g : SFits w32 more.result = search rules in
    let room = rw (to_z-of_z f) at c.if-other-lt-GREATEST_DELTA.true in (
      rw (below_suc, ← other.ensures.0, room, c.height_with.ensures, to_z-of_z g, more.ensures, to_z-of_z f),
      rw c.height_with.ensures other.ensures.1,
    )

pub returns : goal.returns
unfolding after_rule
returns c =
    let other = c.of-other in
    let f : SFits w32 other.result.delta = search rules in
    (rw (below_suc, ← other.ensures.0, rw (to_z-of_z f) at c.if-other-lt-GREATEST_DELTA.false), tt)
