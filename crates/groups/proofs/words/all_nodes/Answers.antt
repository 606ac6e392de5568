use native.Mathlib.Omega.{arith}
use mathlib.Core.Path.{refl}
use Rattle.groups.proofs.LoopLaws.{gather-start, gather-next, gather-done}
use Rattle.groups.proofs.words.all_nodes.Goals as goal

pub loop-w-init : goal.loop-w-init
loop-w-init c = gather-start _

pub loop-w-preserved : goal.loop-w-preserved
loop-w-preserved c = rw c.add_if-out.ensures (gather-next _ _ _ _ c.loop-w.invariant refl)

pub returns : goal.returns
returns c = gather-done _ _ _ _ c.loop-w.invariant (omega arith) c.requires
