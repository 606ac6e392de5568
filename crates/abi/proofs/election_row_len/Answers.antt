-- `abi::election_row_len` meets its contract: n heights, or 0.
use mathlib.Core.Path.{sym, ◌∙◌}
use Rattle.abi.specs.Sizes.{row_length}
use Rattle.abi.proofs.election_row_len.Goals as goal

pub returns-then-is_size : goal.returns-then-is_size
unfolding row_length
returns-then-is_size c = rw (sym c.is_size.ensures ∙ c.if-is_size.true)

pub returns : goal.returns
unfolding row_length
returns c = rw (sym c.is_size.ensures ∙ c.if-is_size.false)
