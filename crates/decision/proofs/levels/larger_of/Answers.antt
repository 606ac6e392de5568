-- `decision::levels::larger_of` meets its contract: the test is the one of `larger`.
use Rattle.protocol.specs.Rules.{larger}
use Rattle.decision.proofs.levels.larger_of.Goals as goal

pub returns-then-level_before : goal.returns-then-level_before
unfolding larger
returns-then-level_before c = rw (← c.level_before.ensures, c.if-level_before.true)

pub returns : goal.returns
unfolding larger
returns c = rw (← c.level_before.ensures, c.if-level_before.false)
