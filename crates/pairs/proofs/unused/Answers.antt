-- `pairs::unused` meets its contract: zero words have no times.
use mathlib.Core.Path.{refl, sym, ◌∙◌}
use mathlib.Core.Bool.{true}
use Rattle.pairs.proofs.PairLaws.{faulty, good}
use Rattle.pairs.proofs.unused.Goals as goal

pub returns-then-all_zero : goal.returns-then-all_zero
returns-then-all_zero c = good (sym c.all_zero.ensures ∙ c.if-all_zero.true) refl

pub returns : goal.returns
returns c = faulty true (sym c.all_zero.ensures ∙ c.if-all_zero.false)
