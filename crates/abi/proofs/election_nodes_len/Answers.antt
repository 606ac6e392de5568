-- `abi::election_nodes_len` meets its contract: with n at most 16 the product fits.
use native.Mathlib.Omega.{arith}
use mathlib.Core.Path.{sym, ◌∙◌}
use Rattle.tables.proofs.RowsLaws.{product_le}
use Rattle.abi.specs.Sizes.{nodes_length}
use Rattle.abi.proofs.SizeLaws.{size_of}
use Rattle.abi.proofs.election_nodes_len.Goals as goal

pub row_width-requires : goal.row_width-requires
row_width-requires c =
    (size_of c.args.n c.is_size.ensures c.if-is_size.true).high

pub overflow_mul-result : goal.overflow_mul-result
overflow_mul-result c =
    let n = c.args.n in
    let few = (size_of n c.is_size.ensures c.if-is_size.true).high in
    omega (arith, product_le n c.row_width.result {a = 16} {b = 115} few c.row_width.ensures.1)

pub returns-then-is_size : goal.returns-then-is_size
unfolding nodes_length
returns-then-is_size c = rw (sym c.is_size.ensures ∙ c.if-is_size.true, c.row_width.ensures.0)

pub returns : goal.returns
unfolding nodes_length
returns c = rw (sym c.is_size.ensures ∙ c.if-is_size.false)
