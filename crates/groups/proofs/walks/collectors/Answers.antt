use mathlib.Core.Path.{ap}
use Rattle.height.specs.declared.Height.{Height}
use native.Mathlib.Omega.{arith}
use Rattle.groups.specs.Groups.{collectors_in}
use Rattle.sound.proofs.LookLaws.{size}
use Rattle.groups.proofs.LoopLaws.{gather-start, gather-next, gather-done}
use Rattle.groups.proofs.WalkLaws.{collect-test}
use Rattle.groups.proofs.walks.collectors.Goals as goal

pub overflow_add-w-end : goal.overflow_add-w-end
overflow_add-w-end c = omega (arith, (size _ _ c.args.plot.passed).few)

pub loop-w-init : goal.loop-w-init
loop-w-init c = gather-start _

pub own-lid-requires : goal.own-lid-requires
own-lid-requires c = record { low = omega arith; high = omega arith }

pub loop-w-preserved : goal.loop-w-preserved
loop-w-preserved c =
    rw c.add_if-out.ensures (gather-next _ _ _ _ c.loop-w.invariant
    (collect-test _ _ _ _ _ _ (ap (λ (h : Height). h.pair.lid) c.own-lid.ensures) c.contains.ensures))

pub returns : goal.returns
unfolding collectors_in
returns c = gather-done _ _ _ _ c.loop-w.invariant (omega arith) (size _ _ c.args.plot.passed).few
