-- `groups::words::add_if` meets its contract: by the test.
use mathlib.Core.Path.{◌∙◌}
use Rattle.groups.specs.inner.Words.{add_if}
use Rattle.groups.proofs.words.add_if.Goals as goal

pub returns-then-yes : goal.returns-then-yes
unfolding add_if
returns-then-yes c = c.insert.ensures ∙ rw c.if-yes.true

pub returns : goal.returns
unfolding add_if
returns c = rw c.if-yes.false
