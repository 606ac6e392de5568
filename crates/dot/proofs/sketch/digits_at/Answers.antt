-- `dot::sketch::digits_at` meets its contract: by the byte behind the first, where there is one.
use native.Mathlib.Omega.{arith}
use Rattle.dot.proofs.Reading.{two_digits, one-digit, last-digit}
use Rattle.dot.proofs.sketch.digits_at.Goals as goal

pub returns-then-is_digit : goal.returns-then-is_digit
returns-then-is_digit c =
    (two_digits c.args.text.now c.args.at _ c.is_digit.ensures c.if-is_digit.true, omega arith)

pub returns-else-is_digit : goal.returns-else-is_digit
returns-else-is_digit c =
    (one-digit c.args.text.now c.args.at _ c.is_digit.ensures c.if-is_digit.false, omega arith)

pub returns-else-next-text : goal.returns-else-next-text
returns-else-next-text c =
    (last-digit c.args.text.now c.args.at c.if-next-text.false, omega arith)
