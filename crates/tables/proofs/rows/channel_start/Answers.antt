-- `tables::rows::channel_start` meets its contract: the pair's cell is below n times n, which is at most 256.
use native.Mathlib.Omega.{arith}
use Rattle.tables.proofs.RowsLaws.{pair_lt, product_le}
use Rattle.tables.proofs.rows.channel_start.Goals as goal

pub overflow_mul-i : goal.overflow_mul-i
overflow_mul-i c =
    let a = c.args in
    omega (arith, pair_lt a.n a.u a.v c.requires.1 c.requires.2, product_le a.n a.n {a = 16} {b = 16} c.requires.0 c.requires.0)

pub overflow_add-i : goal.overflow_add-i
overflow_add-i c =
    let a = c.args in
    omega (arith, pair_lt a.n a.u a.v c.requires.1 c.requires.2, product_le a.n a.n {a = 16} {b = 16} c.requires.0 c.requires.0)

pub overflow_mul-count : goal.overflow_mul-count
overflow_mul-count c = omega (arith, product_le c.args.n c.args.n {a = 16} {b = 16} c.requires.0 c.requires.0)

pub start-requires : goal.start-requires
start-requires c =
    let a = c.args in
    (pair_lt a.n a.u a.v c.requires.1 c.requires.2, omega arith, product_le a.n a.n {a = 16} {b = 16} c.requires.0 c.requires.0)
