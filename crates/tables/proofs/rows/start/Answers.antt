-- `tables::rows::start` meets its contract: row i of `count` ends inside them, and both factors are small.
use native.Mathlib.Omega.{arith}
use mathlib.Core.Path.{refl}
use Rattle.tables.proofs.RowsLaws.{row_fits, product_le}
use Rattle.tables.proofs.rows.start.Goals as goal

pub overflow_mul-result : goal.overflow_mul-result
overflow_mul-result c = record { fits = omega (arith, product_le c.args.i c.args.w {a = 256} {b = 256} (omega arith) (omega arith)) }

pub returns : goal.returns
returns c = (refl, row_fits _ _ _ c.requires.0, product_le _ _ {a = 256} {b = 256} (omega arith) (omega arith))
