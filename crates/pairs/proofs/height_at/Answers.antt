-- `pairs::height_at` meets its contract: the rules before the times.
use mathlib.Core.Path.{sym, ◌∙◌}
use borrow.Author.Tests.{not-true, not-false}
use Rattle.height.specs.Words.{height_at}
use Rattle.protocol.specs.Times.{times_within}
use Rattle.pairs.proofs.PairLaws.{faulty, good, untimely}
use Rattle.pairs.proofs.height_at.Goals as goal

pub returns-then-not-height_holds : goal.returns-then-not-height_holds
returns-then-not-height_holds c =
    let a = c.args in
    faulty (times_within a.clock (height_at a.words.now a.at)) (sym c.height_holds.ensures ∙ not-true _ c.if-not-height_holds.true-raw)

pub returns-then-times_within : goal.returns-then-times_within
returns-then-times_within c =
    good (sym c.height_holds.ensures ∙ not-false _ c.if-not-height_holds.false-raw) (sym c.times_within.ensures ∙ c.if-times_within.true)

pub returns : goal.returns
returns c =
    untimely (sym c.height_holds.ensures ∙ not-false _ c.if-not-height_holds.false-raw) (sym c.times_within.ensures ∙ c.if-times_within.false)
