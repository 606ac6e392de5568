-- `abi::election_channels_len` meets its contract: with n at most 16 the product fits.
use native.Mathlib.Omega.{arith}
use mathlib.Core.Path.{sym, ◌∙◌}
use Rattle.abi.specs.Sizes.{channels_length}
use Rattle.abi.proofs.SizeLaws.{size_of, square_le}
use Rattle.abi.proofs.election_channels_len.Goals as goal

pub overflow_mul-result : goal.overflow_mul-result
overflow_mul-result c =
    let n = c.args.n in
    omega (arith, square_le n (size_of n c.is_size.ensures c.if-is_size.true))

pub overflow_mul-result-then-is_size : goal.overflow_mul-result-then-is_size
overflow_mul-result-then-is_size c =
    let n = c.args.n in
    omega (arith, square_le n (size_of n c.is_size.ensures c.if-is_size.true))

pub returns-then-is_size : goal.returns-then-is_size
unfolding channels_length
returns-then-is_size c = rw (sym c.is_size.ensures ∙ c.if-is_size.true)

pub returns : goal.returns
unfolding channels_length
returns c = rw (sym c.is_size.ensures ∙ c.if-is_size.false)
