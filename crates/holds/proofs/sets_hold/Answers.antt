-- `holds::sets_hold` meets its contract. Two words below 2 to the power n are sets of nodes 1 to n.
use native.Mathlib.Omega.{arith}
use Rattle.holds.proofs.HoldsLaws.{sets-low, sets-inside, sets-outside}
use Rattle.holds.proofs.sets_hold.Goals as goal

pub overflow_cast-a : goal.overflow_cast-a
overflow_cast-a c = let a = c.args in omega (arith, sets-low a.n a.neighbors a.forming c.requires.0 c.if-neighbors-end.true)

pub overflow_cast-b : goal.overflow_cast-b
overflow_cast-b c = let a = c.args in omega (arith, sets-low a.n a.neighbors a.forming c.requires.0 c.if-neighbors-end.true)

pub returns-then-neighbors-end : goal.returns-then-neighbors-end
returns-then-neighbors-end c =
    rw (c.disjoint.ensures, c.contains.ensures, c.contains-then-neighbors-end.ensures)
    (sets-inside c.args.n c.args.neighbors c.args.forming c.requires.0 c.args.u c.if-neighbors-end.true)

pub returns : goal.returns
returns c = let a = c.args in sets-outside a.n a.neighbors a.forming c.requires.0 a.u c.if-neighbors-end.false
