-- `holds::level_within` meets its contract: a level without a search is all zero, any other has an originator.
use native.Mathlib.Omega.{arith}
use Rattle.holds.proofs.HoldsLaws.{level-none, level-some}
use Rattle.holds.proofs.level_within.Goals as goal

pub returns-then-tau-eq0 : goal.returns-then-tau-eq0
returns-then-tau-eq0 c = level-none c.args.n c.args.c c.args.l (omega arith)

pub returns : goal.returns
returns c = level-some c.args.n c.args.c c.args.l (omega arith) (omega arith)
