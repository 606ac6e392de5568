use native.Mathlib.Omega.{arith}
use mathlib.Core.Path.{refl}
use Rattle.image.specs.Places.{tables_in}
use Rattle.image.proofs.PartLaws.{records-shaped}
use Rattle.tables.specs.Records.{tables_from}
use Rattle.tables.proofs.RecordsLaws.{length-row}
use Rattle.image_reading.proofs.FillLaws.{fill_start, fill_done, fill-wide, fill-next}
use Rattle.image_reading.proofs.ReadLaws.{node-inside, row-got}
use Rattle.image_reading.proofs.filling.read_rows.Goals as goal

pub loop-u-init : goal.loop-u-init
loop-u-init c = fill_start c.requires.3

pub overflow_mul-u : goal.overflow_mul-u
overflow_mul-u c =
    rw c.node-step.ensures (omega (arith, (node-inside c.requires.4 c.loop-u.u c.loop-u-test.true).small))

pub overflow_add-h : goal.overflow_add-h
overflow_add-h c =
    rw c.node-step.ensures (omega (arith, (node-inside c.requires.4 c.loop-u.u c.loop-u-test.true).small))

pub get_row-requires : goal.get_row-requires
get_row-requires c =
    let l = c.loop-u in
    let more = c.loop-u-test.true in
    (c.requires.0, c.requires.1, fill-wide l.invariant more refl refl, rw c.node-step.ensures (node-inside c.requires.4 l.u more))

pub loop-u-preserved : goal.loop-u-preserved
loop-u-preserved c =
    let l = c.loop-u in
    let more = c.loop-u-test.true in
    fill-next l.invariant more refl refl
    (row-got c.args.h c.args.depth c.args.n _ l.u (rw c.node-step.ensures at c.get_row.ensures))
    (length-row c.args.n _ (records-shaped c.args.h c.args.depth c.args.n _) l.u more)

pub returns : goal.returns
unfolding tables_in tables_from
returns c = fill_done c.loop-u.invariant c.loop-u-test.false
