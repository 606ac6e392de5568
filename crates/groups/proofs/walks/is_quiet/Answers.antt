use native.Mathlib.Omega.{arith}
use Rattle.basics.specs.Functions.{every_pair}
use Rattle.protocol.specs.Quiet.{quiet}
use Rattle.sound.proofs.LookLaws.{size}
use Rattle.groups.proofs.LoopLaws.{tested-start, tested-next, tested-done}
use Rattle.groups.proofs.walks.is_quiet.Goals as goal

pub overflow_add-u-end : goal.overflow_add-u-end
overflow_add-u-end c = omega (arith, (size _ _ c.args.plot.passed).few)

pub loop-u-init : goal.loop-u-init
loop-u-init c = tested-start _

pub loop-u-preserved : goal.loop-u-preserved
loop-u-preserved c = tested-next _ _ _ _ c.loop-u.invariant (omega arith) c.node_quiet-here.ensures

pub returns : goal.returns
unfolding quiet every_pair
returns c = tested-done _ _ _ _ c.loop-u.invariant (omega arith)
