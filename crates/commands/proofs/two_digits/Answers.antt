-- `commands::two_digits` meets its contract: each return is one law of NumberLaws.antt.
use Rattle.commands.proofs.NumberLaws.{two_is, two_none}
use Rattle.commands.proofs.two_digits.Goals as goal

pub returns-then-is_digit-a-clause-says : goal.returns-then-is_digit-a-clause-says
returns-then-is_digit-a-clause-says c = two_is _ _ _ _ c.is_digit.ensures c.is_digit-2.ensures c.if-is_digit-a.true

pub returns-clause-says : goal.returns-clause-says
returns-clause-says c = two_none _ _ _ _ c.is_digit.ensures c.is_digit-2.ensures c.if-is_digit-a.false
