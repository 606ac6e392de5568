use native.Mathlib.Omega.{arith}
use mathlib.Core.Path.{refl}
use Rattle.image.proofs.PartTurns.{words-in, put-start, put-fits, put-room, put_next}
use Rattle.image.proofs.records.put_records.Goals as goal

pub loop-k-init : goal.loop-k-init
loop-k-init c = put-start c.requires (λ i. (c.type_inv.buf i).fits)

pub slice_bounds-put_record-count : goal.slice_bounds-put_record-count
slice_bounds-put_record-count c = omega (arith, words-in c.requires c.loop-k-test.true)

pub slice_bounds-put_record-start : goal.slice_bounds-put_record-start
slice_bounds-put_record-start c = omega (arith, words-in c.requires c.loop-k-test.true)

pub slice_bounds-put_record-end : goal.slice_bounds-put_record-end
slice_bounds-put_record-end c = omega (arith, words-in c.requires c.loop-k-test.true)

pub put_record-requires : goal.put_record-requires
put_record-requires c =
    let l = c.loop-k in
    put-room c.requires l.invariant c.loop-k-test.true refl refl

pub overflow_add-place : goal.overflow_add-place
overflow_add-place c =
    let l = c.loop-k in
    omega (arith, put-fits c.requires l.invariant c.loop-k-test.true)

pub loop-k-preserved : goal.loop-k-preserved
loop-k-preserved c =
    let l = c.loop-k in
    put_next c.requires l.invariant c.loop-k-test.true refl refl
    c.put_record.ensures
