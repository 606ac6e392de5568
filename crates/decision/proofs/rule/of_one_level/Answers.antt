-- `decision::rule::of_one_level` meets its contract: the tests are those of `one_level_rule`.
use Rattle.protocol.specs.Rules.{one_level_rule}
use Rattle.decision.proofs.rule.of_one_level.Goals as goal

pub returns-then-tau-l : goal.returns-then-tau-l
unfolding one_level_rule
returns-then-tau-l c = rw c.if-tau-l.true

pub returns-then-l-u : goal.returns-then-l-u
unfolding one_level_rule
returns-then-l-u c = rw (c.if-tau-l.false, c.if-l-u.true)

pub returns : goal.returns
unfolding one_level_rule
returns c = rw (c.if-tau-l.false, c.if-l-u.false)
