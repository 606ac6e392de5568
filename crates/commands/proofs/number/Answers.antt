-- `commands::number` meets its contract: number_of goes by the length, and so does the code.
use Rattle.commands.proofs.NumberLaws.{number-other}
use Rattle.commands.proofs.number.Goals as goal

pub returns-clause-says : goal.returns-clause-says
returns-clause-says c = number-other c.args.bytes.now c.if-bytes-eq1.false c.if-bytes-eq2.false
