-- `height::order::widened` meets its contract: a number of 32 bits fits 64.
use mir.Syntax.{w64}
use mir.Facts.{to_z-of_z}
use Rattle.height.proofs.Signed.{sfits_wide, read_back}
use Rattle.height.proofs.order.widened.Goals as goal

pub overflow_cast-result : goal.overflow_cast-result
overflow_cast-result c = rw (to_z-of_z c.ranges.x) (sfits_wide c.args.x c.ranges.x)

pub returns : goal.returns
returns c = read_back w64 (to_z-of_z c.ranges.x) (sfits_wide c.args.x c.ranges.x)
