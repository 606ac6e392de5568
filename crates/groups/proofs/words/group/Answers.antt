use native.Mathlib.Omega.{arith}
use Rattle.groups.proofs.LinkLaws.{alone-group}
use Rattle.groups.proofs.LoopLaws.{rounds-start, rounds-next, rounds-stop, rounds-done}
use Rattle.groups.proofs.words.group.Goals as goal

pub returns-then-near-i-eq0 : goal.returns-then-near-i-eq0
returns-then-near-i-eq0 c =
    alone-group _ _ c.requires.0 _ c.requires.1 c.if-near-i-eq0.true _ c.requires.0.few c.single-s.ensures

pub loop-k-init : goal.loop-k-init
loop-k-init c =
    rounds-start _ _ _ _ c.requires.1.high c.requires.0.few c.single-s.ensures

pub returns-then-next-s : goal.returns-then-next-s
returns-then-next-s c = rounds-stop _ _ _ _ _ _ c.loop-k.invariant c.one_round-next.ensures c.if-next-s.true

pub loop-k-preserved : goal.loop-k-preserved
loop-k-preserved c = rounds-next _ _ _ _ _ _ c.loop-k.invariant (omega arith) c.one_round-next.ensures

pub returns : goal.returns
returns c = rounds-done _ _ _ _ _ c.loop-k.invariant (omega arith)
