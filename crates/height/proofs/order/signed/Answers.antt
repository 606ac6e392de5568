-- `height::order::signed` meets its contract: a word is below 2 ^ 63.
use native.Mathlib.Omega.{arith}
use mir.Syntax.{w64}
use mir.ValLaws.{to_z_pos}
use Rattle.height.proofs.order.signed.Goals as goal

pub returns : goal.returns
returns c = to_z_pos w64 c.args.x (omega arith)
