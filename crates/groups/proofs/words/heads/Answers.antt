use Prim.Native.Nat.{◌<◌}
use native.Mathlib.Omega.{arith}
use Rattle.groups.proofs.HeadLaws.{heading-start, heading-node, heading-next, heading-less, heading-done}
use Rattle.groups.proofs.words.heads.Goals as goal

pub loop-left-init : goal.loop-left-init
loop-left-init c = heading-start _ _ c.requires _ c.all_nodes-left.ensures

pub group-gone-requires : goal.group-gone-requires
group-gone-requires c =
    let l = c.loop-left in
    let z = c.loop-left-test.true in
    let p : 0 < l.left = omega arith in
    (c.requires, heading-node _ _ c.requires _ _ _ l.invariant p c.first-w.ensures)

pub loop-left-smaller : goal.loop-left-smaller
loop-left-smaller c =
    let l = c.loop-left in
    let z = c.loop-left-test.true in
    let p : 0 < l.left = omega arith in
    rw c.without-left.ensures
    (heading-less _ _ c.requires _ _ _ _ l.invariant p c.first-w.ensures c.group-gone.ensures)

pub loop-left-preserved : goal.loop-left-preserved
loop-left-preserved c =
    let l = c.loop-left in
    let z = c.loop-left-test.true in
    let p : 0 < l.left = omega arith in
    rw (c.without-left.ensures, c.insert-out.ensures)
    (heading-next _ _ c.requires _ _ _ _ l.invariant p c.first-w.ensures c.group-gone.ensures)

pub returns : goal.returns
returns c = let z = c.loop-left-test.false in heading-done _ _ c.requires _ _ c.loop-left.invariant z
