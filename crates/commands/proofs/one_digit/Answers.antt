-- `commands::one_digit` meets its contract: each return is one law of NumberLaws.antt.
use Rattle.commands.proofs.NumberLaws.{one-is, one_none}
use Rattle.commands.proofs.one_digit.Goals as goal

pub returns-then-is_digit-clause-says : goal.returns-then-is_digit-clause-says
returns-then-is_digit-clause-says c = one-is _ _ c.is_digit.ensures c.if-is_digit.true

pub returns-clause-says : goal.returns-clause-says
returns-clause-says c = one_none _ _ c.is_digit.ensures c.if-is_digit.false
