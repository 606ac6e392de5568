use mathlib.Core.Path.{refl}
use Rattle.bits.specs.Bits.{unpacked}
use Rattle.image_reading.proofs.FillLaws.{fill_start, fill_done, fill-wide, fill-next}
use Rattle.image_reading.proofs.ReadLaws.{channel-start, channel-next, channel-end, channel-of, cell-behind, length-cell-behind}
use Rattle.image_reading.proofs.filling.read_cells_from.Goals as goal

pub loop-v-init : goal.loop-v-init
loop-v-init c = (fill_start c.requires.2, channel-start)

pub read_cell-place-requires : goal.read_cell-place-requires
read_cell-place-requires c =
    let l = c.loop-v in
    let more = c.loop-v-test.true in
    (c.requires.0, fill-wide l.invariant.0 more refl refl, channel-of l.invariant.1 c.requires.3 more)

pub loop-v-preserved : goal.loop-v-preserved
loop-v-preserved c =
    let l = c.loop-v in
    let more = c.loop-v-test.true in
    let got = c.read_cell-place.ensures in (
      fill-next l.invariant.0 more refl refl (cell-behind l.invariant.1 got.0)
          (length-cell-behind c.args.depth (unpacked c.args.image.now) c.args.u c.args.at _),
      channel-next l.invariant.1 got.1,
    )

pub returns : goal.returns
returns c =
    let l = c.loop-v in
    (fill_done l.invariant.0 c.loop-v-test.false, channel-end l.invariant.1 l.invariant.0.count c.loop-v-test.false)
