use Prim.Native.Nat.{◌+◌, ◌*◌}
use native.Mathlib.Omega.{arith}
use mathlib.Core.Path.{◌≡◌, ap, sym, ◌∙◌}
use Rattle.bits.specs.inner.Written.{written}
use Rattle.image.specs.Widths.{message_width}
use Rattle.image.specs.inner.Parts.{Inside, cell_bits}
use Rattle.protocol.specs.Network.{Node}
use Rattle.tables.specs.Cell.{count}
use Rattle.image_writing.specs.inner.Words.{cell_bits_at, cells_from_bits}
use Rattle.image_writing.proofs.LengthLaws.{own-none, other-cell, waiting_few, length-cell, below-cell-at}
use Rattle.image_writing.proofs.PieceLaws.{laid-start, laid-room, laid_next, laid-skip, laid-all}
use Rattle.image_writing.proofs.channels.put_cells_from.Goals as goal
use Rattle.image_writing.proofs.channels.put_cells_from.Goals.{then-u-v, else-u-v}

pub loop-v-init : goal.loop-v-init
loop-v-init c = laid-start _ _ _ _ (λ i. (c.type_inv.buf i).fits) (omega (arith, c.requires.5.inside))

pub channel-requires : goal.channel-requires
channel-requires c =
    (c.requires.1, c.requires.2, record { low = c.loop-v.invariant.low; high = omega (arith, c.loop-v-test.true) }, c.requires.3)

pub put_cell-place-requires : goal.put_cell-place-requires
unfolding cells_from_bits
put_cell-place-requires c =
    let l = c.loop-v in
    let taken = c.loop-v-test.true in
    let node : Node c.args.n l.v = record { low = l.invariant.low; high = omega (arith, taken) } in
    let is = ap count c.channel.ensures.0 in
    let few = waiting_few _ _ _ _ _ _ c.requires.0 c.requires.2 node c.requires.3 c.requires.4 is in
    let e = length-cell _ _ _ _ _ _ c.requires.0 c.requires.2 node c.requires.3 c.requires.4 is c.if-u-v.true in
    let room : Inside l.buf l.place (4 + count c.channel.result.now * message_width c.args.depth) =
    rw e at (laid-room _ _ _ _ _ _ _ l.invariant taken c.requires.5) in
    (c.requires.0, c.channel.ensures.1, few, room)

pub loop-v-preserved : goal.loop-v-preserved
unfolding cells_from_bits
loop-v-preserved c =
    let a = c.args in
    let l = c.loop-v in
    let taken = c.loop-v-test.true in
    let node : Node a.n l.v = record { low = l.invariant.low; high = omega (arith, taken) } in
    elim c.if-u-v.branch [
      | then-u-v w ↦
          let cell : cell_bits a.depth w.channel.result.now ≡ cell_bits_at a.depth a.n a.channels.now a.u l.v =
          ap (cell_bits a.depth) w.channel.ensures.0 ∙ sym (other-cell _ _ _ _ _ w.if-u-v.true) in
          let e = length-cell _ _ _ _ _ _ c.requires.0 c.requires.2 node c.requires.3 c.requires.4 (ap count w.channel.ensures.0) w.if-u-v.true in
          laid_next _ _ _ _ _ _ _ l.invariant taken c.requires.5 (below-cell-at _ _ _ _)
          (w.buf-is ∙ w.put_cell-place.ensures.0 ∙ ap (written l.buf l.place) cell) (w.place-is ∙ w.put_cell-place.ensures.1 ∙ omega (arith, e))
      | else-u-v w ↦ laid-skip _ _ _ _ _ _ _ l.invariant taken (own-none _ _ _ _ _ w.if-u-v.false) w.buf-is w.place-is
    ]

pub returns : goal.returns
unfolding cells_from_bits
returns c = laid-all _ _ _ _ _ _ _ c.loop-v.invariant c.loop-v-test.false
