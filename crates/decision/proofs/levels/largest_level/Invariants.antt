-- `decision::levels::largest_level` meets its contract. The loop's invariant: the level is the largest below node w.
use Prim.Native.Nat.{◌-◌}
use mathlib.Core.Path.{◌≡◌}
use Rattle.nodeset.specs.NodeSet.{member}
use Rattle.protocol.specs.Rules.{largest}
use Rattle.decision.specs.inner.After.{seen}
use Rattle.decision.proofs.levels.largest_level.Given as goal

abbrev pub invariant-loop-w : goal.invariant-loop-w
invariant-loop-w l = l.level ≡ largest (l.w - 1) (member l.set) (seen l.views.row.now l.views.v l.views.view)
