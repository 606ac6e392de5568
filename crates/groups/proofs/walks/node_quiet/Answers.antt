use native.Mathlib.Omega.{arith}
use mathlib.Core.Path.{refl}
use Rattle.sound.proofs.LookLaws.{size}
use Rattle.groups.proofs.LoopLaws.{tested-start, tested-next, tested-done}
use Rattle.groups.proofs.WalkLaws.{quiet-test}
use Rattle.groups.proofs.walks.node_quiet.Goals as goal

pub bounds-ups-i : goal.bounds-ups-i
bounds-ups-i c =
    omega (arith, (size _ _ c.args.plot.passed).few, c.requires.0.size, c.requires.1.low, c.requires.1.high)

pub overflow_add-v-end : goal.overflow_add-v-end
overflow_add-v-end c = omega (arith, (size _ _ c.args.plot.passed).few)

pub loop-v-init : goal.loop-v-init
loop-v-init c = tested-start _

pub bounds-ups-j : goal.bounds-ups-j
bounds-ups-j c =
    omega (arith, (size _ _ c.args.plot.passed).few, c.requires.0.size)

pub loop-v-preserved : goal.loop-v-preserved
loop-v-preserved c =
    tested-next _ _ _ _ c.loop-v.invariant (omega arith)
    (quiet-test _ _ _ c.requires.0 _ _ _ _ _ _ _ c.requires.1 (record { low = omega arith; high = omega arith })
    refl refl c.waiting-count.ensures c.contains.ensures c.contains-in-loop-v.ensures)

pub returns : goal.returns
returns c = tested-done _ _ _ _ c.loop-v.invariant (omega arith)
