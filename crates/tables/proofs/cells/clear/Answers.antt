-- `tables::cells::clear` meets its contract: a cell has 65 words, and each is zeroed.
use Prim.Native.Nat.{ℕ}
use mathlib.Core.Path.{ap, ◌∙◌}
use lib.ListN.{replicate}
use Rattle.tables.proofs.cells.clear.Goals as goal

pub returns : goal.returns
returns c = c.fill_zero.ensures ∙ ap (λ (k : ℕ). replicate k 0) c.requires
