use native.Mathlib.Nat.{mul_assoc}
use native.Mathlib.Omega.{arith}
use mathlib.Core.Path.{refl, ◌∙◌}
use Rattle.image.specs.Places.{channels_place, tables_in}
use Rattle.image.proofs.Bounds.{nodes-small}
use Rattle.image.proofs.PartLaws.{records-shaped}
use Rattle.tables.specs.Records.{tables_from}
use Rattle.tables.specs.Tables.{cell_width}
use Rattle.tables.proofs.RecordsLaws.{length-cells}
use Rattle.image_reading.proofs.FillLaws.{fill_start, fill_done, fill-wide, fill-next}
use Rattle.image_reading.proofs.ReadLaws.{channels-start, channels-next, channels-of, cells-got}
use Rattle.image_reading.proofs.filling.read_cells.Goals as goal

pub overflow_mul-place : goal.overflow_mul-place
overflow_mul-place c =
    rw c.node.ensures (omega (arith, nodes-small c.args.depth c.args.n c.requires.0.high c.requires.1))

pub overflow_add-place : goal.overflow_add-place
overflow_add-place c =
    rw c.node.ensures (omega (arith, nodes-small c.args.depth c.args.n c.requires.0.high c.requires.1))

pub loop-u-init : goal.loop-u-init
unfolding channels_place
loop-u-init c =
    (fill_start (c.requires.3 ∙ mul_assoc c.args.n c.args.n cell_width), rw c.node.ensures channels-start)

pub read_cells_from-place-requires : goal.read_cells_from-place-requires
read_cells_from-place-requires c =
    let l = c.loop-u in
    let more = c.loop-u-test.true in
    (c.requires.0, c.requires.1, fill-wide l.invariant.0 more refl refl, channels-of l.invariant.1 c.requires.4 more)

pub loop-u-preserved : goal.loop-u-preserved
loop-u-preserved c =
    let l = c.loop-u in
    let more = c.loop-u-test.true in
    let got = c.read_cells_from-place.ensures in (
      fill-next l.invariant.0 more refl refl (cells-got l.invariant.1 got.0)
          (length-cells c.args.n _ (records-shaped c.args.h c.args.depth c.args.n _) l.u more),
      channels-next l.invariant.1 got.1,
    )

pub returns : goal.returns
unfolding tables_in tables_from
returns c = fill_done c.loop-u.invariant.0 c.loop-u-test.false
