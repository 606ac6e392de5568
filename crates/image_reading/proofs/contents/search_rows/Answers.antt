use native.Mathlib.Omega.{arith}
use mathlib.Core.Path.{◌∙◌}
use Rattle.std.proofs.lemmas.Result.{err_from_is_err_and}
use Rattle.image.specs.Places.{channels_place}
use Rattle.image.proofs.Bounds.{nodes-small}
use Rattle.lent.specs.Check.{first_fault, first_untimely, contents_on}
use Rattle.lent.proofs.Walks.{all_start, all_end}
use Rattle.image_reading.proofs.ReadLaws.{node-inside, channels-start, channels-next, channels-of}
use Rattle.image_reading.proofs.SearchLaws.{row-sound, row-timely, rows-stop, rows-go}
use Rattle.image_reading.proofs.contents.search_rows.Goals as goal

pub overflow_mul-place : goal.overflow_mul-place
overflow_mul-place c =
    rw c.node-step.ensures (omega (arith, nodes-small c.args.depth c.args.n c.requires.0.high c.requires.1))

pub overflow_add-place : goal.overflow_add-place
overflow_add-place c =
    rw c.node-step.ensures (omega (arith, nodes-small c.args.depth c.args.n c.requires.0.high c.requires.1))

pub loop-u-init : goal.loop-u-init
unfolding channels_place
loop-u-init c = (all_start _ _ _, rw c.node-step.ensures channels-start, c.requires.3, c.requires.4)

pub overflow_mul-u : goal.overflow_mul-u
overflow_mul-u c =
    rw c.node-step.ensures (omega (arith, (node-inside c.requires.5 c.loop-u.u c.loop-u-test.true).small))

pub overflow_add-h : goal.overflow_add-h
overflow_add-h c =
    rw c.node-step.ensures (omega (arith, (node-inside c.requires.5 c.loop-u.u c.loop-u-test.true).small))

pub get_row-requires : goal.get_row-requires
get_row-requires c =
    let l = c.loop-u in
    (c.requires.0, c.requires.1, l.invariant.2, rw c.node-step.ensures (node-inside c.requires.5 l.u c.loop-u-test.true))

pub search_row-requires : goal.search_row-requires
search_row-requires c =
    let l = c.loop-u in (
      c.requires.0,
      c.requires.1,
      record { low = omega arith; high = omega arith },
      c.get_row.auto.row ∙ l.invariant.2,
      l.invariant.3,
      channels-of l.invariant.1 c.requires.5 c.loop-u-test.true,
    )

pub returns-in_err-next : goal.returns-in_err-next
unfolding contents_on first_fault first_untimely
returns-in_err-next c =
    let l = c.loop-u in
    let more = c.loop-u-test.true in
    let row = rw c.node-step.ensures at c.get_row.ensures in
    let p = err_from_is_err_and c.from_residual.result c.from_residual.ensures.1 in
    rw (p.1, p.2) (rows-stop _ _ _ _ _ _ _ l.invariant.0 more (row-sound l.invariant.1 more row) (row-timely l.invariant.1 more row) _ c.in_err-next.ensures)

pub loop-u-preserved : goal.loop-u-preserved
loop-u-preserved c =
    let l = c.loop-u in
    let more = c.loop-u-test.true in
    let row = rw c.node-step.ensures at c.get_row.ensures in (
      rows-go _ _ _ _ _ _ _ l.invariant.0 more (row-sound l.invariant.1 more row) (row-timely l.invariant.1 more row) _ _ _ _ c.in_ok-next.ensures c.and-late.ensures,
      channels-next l.invariant.1 c.in_ok-next.ensures.2,
      c.get_row.auto.row ∙ l.invariant.2,
      c.search_row.auto.cell ∙ l.invariant.3,
    )

pub returns : goal.returns
unfolding contents_on first_fault first_untimely
returns c = all_end _ _ _ _ _ c.loop-u.invariant.0 (omega (arith, c.loop-u-test.false))
