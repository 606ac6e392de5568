use Rattle.tables.proofs.Zeros.{slots-start, slots_next, slots-done}
use Rattle.tables.proofs.cells.is_unused_after.Goals as goal

pub loop-i-init : goal.loop-i-init
loop-i-init c = slots-start _ c.requires.0 _ _ c.requires.1 c.slot_start-i.ensures

pub loop-i-preserved : goal.loop-i-preserved
loop-i-preserved c =
    slots_next _ c.requires.0 _ _ _ _ _ _ c.loop-i.invariant c.loop-i-test.true

pub returns : goal.returns
returns c = slots-done _ c.requires.0 _ _ _ _ _ _ c.loop-i.invariant c.loop-i-test.false
