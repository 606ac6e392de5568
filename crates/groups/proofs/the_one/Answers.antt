-- `groups::the_one` meets its contract: by the count.
use mathlib.Core.Path.{sym, ◌∙◌}
use borrow.Author.Tests.{eq-eqb, ne_eqb}
use Rattle.groups.specs.Groups.{the_one}
use Rattle.groups.proofs.the_one.Goals as goal

pub returns-then-count-eq1 : goal.returns-then-count-eq1
unfolding the_one
returns-then-count-eq1 c = rw (eq-eqb _ _ (sym c.count.ensures ∙ c.if-count-eq1.true), c.first.ensures)

pub returns : goal.returns
unfolding the_one
returns c = rw (ne_eqb _ 1 (λ e. c.if-count-eq1.false (c.count.ensures ∙ e)))
