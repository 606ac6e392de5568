use native.Mathlib.Omega.{arith}
use mathlib.Core.Path.{refl}
use Rattle.groups.specs.Groups.{one_round}
use Rattle.groups.proofs.LoopLaws.{gather-start, gather-next, gather-done}
use Rattle.groups.proofs.LinkLaws.{word_test}
use Rattle.groups.proofs.words.one_round.Goals as goal

pub loop-w-init : goal.loop-w-init
loop-w-init c = gather-start _

pub loop-w-preserved : goal.loop-w-preserved
loop-w-preserved c =
    rw c.add_if-out.ensures (gather-next _ _ _ _ c.loop-w.invariant
    (word_test _ _ _ _ _ _ _ c.requires (record { low = omega arith; high = omega arith }) refl
    c.contains.ensures c.disjoint.ensures))

pub returns : goal.returns
unfolding one_round
returns c = gather-done _ _ _ _ c.loop-w.invariant (omega arith) c.requires.few
