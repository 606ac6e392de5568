-- `decision::outcome::one_less` meets its contract: one less than a depth above the least fits.
use mathlib.Core.Path.{◌≡◌, ap, ◌∙◌}
use lib.IntN.{ℤ, pos, pred_ℤ, ◌-ℤ◌, -ℤ_one}
use mir.Syntax.{w32}
use mir.Val.{to_z, of_z, SFits}
use mir.Facts.{to_z-of_z}
use Rattle.height.proofs.Signed.{read_back}
use Rattle.decision.proofs.Depths.{fits-pred}
use Rattle.decision.proofs.outcome.one_less.Goals as goal

difference : (z : ℤ) → SFits w32 z → to_z w32 (of_z w32 z) -ℤ pos 1 ≡ pred_ℤ z
difference z f = ap (λ (y : ℤ). y -ℤ pos 1) (to_z-of_z f) ∙ -ℤ_one z

pub overflow_sub-result : goal.overflow_sub-result
overflow_sub-result c = rw (difference c.args.delta c.ranges.delta) (fits-pred c.args.delta c.ranges.delta c.requires)

pub returns : goal.returns
returns c = read_back w32 (difference c.args.delta c.ranges.delta) (fits-pred c.args.delta c.ranges.delta c.requires)
