-- `lent::is_sized` meets its contract: with n at most 16 the products fit.
use native.Mathlib.Omega.{arith}
use borrow.Author.Tests.{le-leb, lt-leb}
use Rattle.tables.specs.Tables.{sized}
use Rattle.tables.proofs.RowsLaws.{product_le}
use Rattle.lent.proofs.is_sized.Goals as goal

pub overflow_mul-result : goal.overflow_mul-result
overflow_mul-result c =
    let n = c.args.n in
    omega (arith, product_le n c.row_width.result {a = 16} {b = 115} c.if-n-le16.true c.row_width.ensures.1)

pub overflow_mul-result-then-n-le16 : goal.overflow_mul-result-then-n-le16
overflow_mul-result-then-n-le16 c =
    let n = c.args.n in
    omega (arith, product_le n n {a = 16} {b = 16} c.if-n-le16.true c.if-n-le16.true)

pub overflow_mul-result-then-n-le16-2 : goal.overflow_mul-result-then-n-le16-2
overflow_mul-result-then-n-le16-2 c =
    let n = c.args.n in
    omega (arith, product_le n n {a = 16} {b = 16} c.if-n-le16.true c.if-n-le16.true)

pub returns-then-n-le16 : goal.returns-then-n-le16
unfolding sized
returns-then-n-le16 c = rw (le-leb _ _ c.if-n-le16.true, c.row_width.ensures.0)

pub returns : goal.returns
unfolding sized
returns c = rw (lt-leb _ _ c.if-n-le16.false)
