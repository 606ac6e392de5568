use native.Mathlib.Omega.{arith}
use mathlib.Core.Path.{refl}
use Rattle.groups.proofs.LinkLaws.{link-test, links-none}
use Rattle.groups.proofs.LoopLaws.{gather-start, gather-next, gather-done}
use Rattle.groups.proofs.words.links.Goals as goal

pub returns-then-out-eq0 : goal.returns-then-out-eq0
returns-then-out-eq0 c = links-none _ _ _ _ refl c.if-out-eq0.true

pub loop-v-init : goal.loop-v-init
loop-v-init c = gather-start _

pub loop-v-preserved : goal.loop-v-preserved
loop-v-preserved c =
    rw c.add_if-s.ensures (gather-next _ _ _ _ c.loop-v.invariant
    (link-test _ _ _ _ _ _ _ refl refl c.contains.ensures c.contains-in-loop-v.ensures))

pub returns : goal.returns
returns c = gather-done _ _ _ _ c.loop-v.invariant (omega arith) c.requires.0
