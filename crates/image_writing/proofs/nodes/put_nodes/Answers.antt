use Prim.Native.Nat.{ℕ, ◌+◌, ◌*◌, ◌<◌}
use native.Mathlib.Omega.{arith}
use mathlib.Core.List.{List}
use mathlib.Core.Path.{◌≡◌, ap, ◌∙◌}
use lib.ListN.{length}
use Rattle.bits.specs.inner.Written.{written}
use Rattle.image.specs.Widths.{node_width}
use Rattle.image.specs.inner.Parts.{Inside, row_bits}
use Rattle.tables.specs.Tables.{width, node_of}
use Rattle.image_writing.specs.inner.Words.{nodes_bits}
use Rattle.image_writing.proofs.LengthLaws.{node_bits_at, below-node, length-node, nodes-inside}
use Rattle.image_writing.proofs.PieceLaws.{Laid, laid-start, laid-room, laid_next, laid-all}
use Rattle.image_writing.proofs.nodes.put_nodes.Goals as goal

-- room for node u's record
row_room : (d n : ℕ) (ns xs : List ℕ) (at : ℕ) (ys : List ℕ) (place u : ℕ) → Laid (node_bits_at d n ns) n xs at ys place u → u < n + 1
    → length ns ≡ n * width n → Inside xs at (n * node_width d n) → Inside ys place (node_width d n)
row_room d n ns xs at ys place u laid h size room =
    rw (length-node d n ns size u (record { low = laid.low; high = omega arith })) at (laid-room _ _ _ _ _ _ _ laid h (nodes-inside d n ns size room))

-- the row put is node u's
row_put : (d n : ℕ) (ns ys zs r : List ℕ) (place u : ℕ) → zs ≡ written ys place (row_bits d n r) → r ≡ node_of n u ns
    → zs ≡ written ys place (node_bits_at d n ns u)
unfolding node_bits_at
row_put d n ns ys zs r place u e is = e ∙ ap (λ (l : List ℕ). written ys place (row_bits d n l)) is

pub loop-u-init : goal.loop-u-init
loop-u-init c = laid-start _ _ _ _ (λ i. (c.type_inv.buf i).fits) (omega (arith, c.requires.3.inside))

pub node-requires : goal.node-requires
node-requires c =
    (c.requires.1, record { low = c.loop-u.invariant.low; high = omega (arith, c.loop-u-test.true) }, c.requires.2)

pub put_row-requires : goal.put_row-requires
put_row-requires c =
    let room = row_room _ _ _ _ _ _ _ _ c.loop-u.invariant c.loop-u-test.true c.requires.2 c.requires.3 in
    (c.requires.0, c.requires.1, c.node.ensures.1, room)

pub overflow_add-place : goal.overflow_add-place
overflow_add-place c =
    let l = c.loop-u in
    omega (arith, (row_room _ _ _ _ _ _ _ _ l.invariant c.loop-u-test.true c.requires.2 c.requires.3).small)

pub loop-u-preserved : goal.loop-u-preserved
loop-u-preserved c =
    let a = c.args in
    let l = c.loop-u in
    let taken = c.loop-u-test.true in
    let e = length-node a.depth a.n a.nodes.now c.requires.2 l.u (record { low = l.invariant.low; high = omega (arith, taken) }) in
    let is = row_put a.depth a.n a.nodes.now _ _ _ _ l.u c.put_row.ensures c.node.ensures.0 in
    laid_next _ _ _ _ _ _ _ l.invariant taken (nodes-inside _ _ _ c.requires.2 c.requires.3) (below-node _ _ _) is (omega (arith, e))

pub returns : goal.returns
unfolding nodes_bits node_bits_at
returns c = (laid-all _ _ _ _ _ _ _ c.loop-u.invariant c.loop-u-test.false).0
