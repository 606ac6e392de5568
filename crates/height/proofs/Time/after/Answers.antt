-- `height::Time::after` meets its contract: it moves past the larger of the two, or ends.
use native.Mathlib.Omega.{arith}
use mathlib.Core.Path.{sym}
use Rattle.height.proofs.Moves.{says-moved, clock-ends}
use Rattle.height.proofs.Time.after.Goals as goal

pub returns-then-latest-lt-LAST_TIME : goal.returns-then-latest-lt-LAST_TIME
returns-then-latest-lt-LAST_TIME c = says-moved _ _ _ (omega arith) (omega arith)

pub returns : goal.returns
returns c = sym (clock-ends _ _ (omega arith))
