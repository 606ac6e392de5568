use Prim.Native.Nat.{ℕ, ◌+◌, ◌-◌, ◌*◌}
use native.Mathlib.Omega.{arith}
use mathlib.Core.Path.{ap, sym, ◌∙◌}
use lib.ListN.{length}
use Rattle.protocol.specs.Network.{Node}
use Rattle.tables.specs.Cell.{count}
use Rattle.image_writing.specs.inner.Words.{cells_from_bits}
use Rattle.image_writing.proofs.LengthLaws.{own-none, waiting-le, length-cell, cells-from-le}
use Rattle.image_writing.proofs.PieceLaws.{summed-start, summed-next, summed-all}
use Rattle.image_writing.proofs.channels.cells_from_length.Goals as goal
use Rattle.image_writing.proofs.channels.cells_from_length.Goals.{then-u-v, else-u-v}

pub loop-v-init : goal.loop-v-init
loop-v-init c = summed-start _ _

pub channel-cell-requires : goal.channel-cell-requires
channel-cell-requires c =
    (c.requires.1, c.requires.2, record { low = c.loop-v.invariant.low; high = omega (arith, c.loop-v-test.true) }, c.requires.3)

pub overflow_mul-sum : goal.overflow_mul-sum
overflow_mul-sum c =
    let l = c.loop-v in
    let node : Node c.args.n l.v = record { low = l.invariant.low; high = omega (arith, c.loop-v-test.true) } in
    let is = c.waiting.ensures ∙ ap count c.channel-cell.ensures.0 in
    rw c.message-w.ensures (omega (arith, waiting-le _ _ _ _ _ _ c.requires.0 c.requires.2 node c.requires.3 c.requires.4 is))

pub overflow_add-sum : goal.overflow_add-sum
overflow_add-sum c =
    let l = c.loop-v in
    let node : Node c.args.n l.v = record { low = l.invariant.low; high = omega (arith, c.loop-v-test.true) } in
    let is = c.waiting.ensures ∙ ap count c.channel-cell.ensures.0 in
    rw c.message-w.ensures (omega (arith, waiting-le _ _ _ _ _ _ c.requires.0 c.requires.2 node c.requires.3 c.requires.4 is))

pub overflow_add-sum-then-u-v : goal.overflow_add-sum-then-u-v
overflow_add-sum-then-u-v c =
    let l = c.loop-v in
    let taken = c.loop-v-test.true in
    let node : Node c.args.n l.v = record { low = l.invariant.low; high = omega (arith, taken) } in
    let is = c.waiting.ensures ∙ ap count c.channel-cell.ensures.0 in
    let one = waiting-le _ _ _ _ _ _ c.requires.0 c.requires.2 node c.requires.3 c.requires.4 is in
    let all = cells-from-le _ _ _ c.requires.0 c.requires.3 c.requires.4 _ (l.v - 1) c.requires.2 (omega (arith, taken)) in
    rw c.message-w.ensures (omega (arith, one, all, l.invariant.is, taken, c.requires.1))

pub loop-v-preserved : goal.loop-v-preserved
loop-v-preserved c =
    let l = c.loop-v in
    let taken = c.loop-v-test.true in
    let node : Node c.args.n l.v = record { low = l.invariant.low; high = omega (arith, taken) } in
    elim c.if-u-v.branch [
      | then-u-v w ↦
          let is = w.waiting.ensures ∙ ap count w.channel-cell.ensures.0 in
          let e = length-cell _ _ _ _ _ _ c.requires.0 c.requires.2 node c.requires.3 c.requires.4 is w.if-u-v.true in
          summed-next _ _ _ _ l.invariant taken
          (w.sum-is ∙ ap (λ (k : ℕ). l.sum + (4 + w.waiting.result * k)) c.message-w.ensures ∙ ap (λ (k : ℕ). l.sum + k) (sym e))
      | else-u-v w ↦
          let e = ap length (own-none c.args.depth c.args.n c.args.channels.now c.args.u l.v w.if-u-v.false) in
          summed-next _ _ _ _ l.invariant taken (w.sum-is ∙ omega (arith, e))
    ]

pub returns : goal.returns
unfolding cells_from_bits
returns c =
    let is = summed-all _ _ _ _ c.loop-v.invariant c.loop-v-test.false in
    (is, omega (arith, is, cells-from-le _ _ _ c.requires.0 c.requires.3 c.requires.4 _ c.args.n c.requires.2 (omega arith)))
