-- `decision::outcome::one_more` meets its contract: one more than a depth below the greatest fits.
use mathlib.Core.Path.{◌≡◌, ap, ◌∙◌}
use lib.IntN.{ℤ, pos, suc_ℤ, ◌+ℤ◌, +ℤ_one}
use mir.Syntax.{w32}
use mir.Val.{to_z, of_z, SFits}
use mir.Facts.{to_z-of_z}
use Rattle.height.proofs.Signed.{read_back}
use Rattle.decision.proofs.Depths.{fits_suc}
use Rattle.decision.proofs.outcome.one_more.Goals as goal

sum : (z : ℤ) → SFits w32 z → to_z w32 (of_z w32 z) +ℤ pos 1 ≡ suc_ℤ z
sum z f = ap (λ (y : ℤ). y +ℤ pos 1) (to_z-of_z f) ∙ +ℤ_one z

pub overflow_add-result : goal.overflow_add-result
overflow_add-result c = rw (sum c.args.delta c.ranges.delta) (fits_suc c.args.delta c.ranges.delta c.requires)

pub returns : goal.returns
returns c = read_back w32 (sum c.args.delta c.ranges.delta) (fits_suc c.args.delta c.ranges.delta c.requires)
