use native.Mathlib.Omega.{arith}
use mathlib.Core.Path.{sym, ◌∙◌}
use Rattle.sound.specs.inner.Looks.{up_set}
use Rattle.sound.proofs.LookLaws.{size}
use Rattle.groups.proofs.LinkLaws.{fill_start, fill-next, fill_done}
use Rattle.groups.proofs.walks.fill_ups.Goals as goal

pub overflow_add-w-end : goal.overflow_add-w-end
overflow_add-w-end c = omega (arith, (size _ _ c.args.plot.passed).few)

pub loop-w-init : goal.loop-w-init
loop-w-init c = fill_start _ _ _ c.requires

pub up_from-set-requires : goal.up_from-set-requires
up_from-set-requires c = record { low = omega arith; high = omega arith }

pub bounds-ups-i : goal.bounds-ups-i
bounds-ups-i c =
    omega (arith, (size _ _ c.args.plot.passed).few, c.loop-w.invariant.size)

pub loop-w-preserved : goal.loop-w-preserved
unfolding up_set
loop-w-preserved c =
    fill-next _ _ _ _ _ c.loop-w.invariant (omega arith) (omega (arith, (size _ _ c.args.plot.passed).few)) c.up_from-set.ensures

pub shape_of-ups : goal.shape_of-ups
shape_of-ups c = c.loop-w.invariant.size ∙ sym c.requires

pub returns : goal.returns
returns c = fill_done _ _ _ _ c.loop-w.invariant (omega arith)
