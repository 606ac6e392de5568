use native.Mathlib.Omega.{arith}
use mathlib.Core.Path.{refl}
use Rattle.image.proofs.PartTurns.{words-in, get-start, get-fits, get-room, get-next}
use Rattle.image.proofs.records.get_records.Goals as goal

pub loop-k-init : goal.loop-k-init
loop-k-init c = get-start c.requires

pub slice_bounds-get_record-count : goal.slice_bounds-get_record-count
slice_bounds-get_record-count c = omega (arith, words-in c.requires c.loop-k-test.true)

pub slice_bounds-get_record-start : goal.slice_bounds-get_record-start
slice_bounds-get_record-start c = omega (arith, words-in c.requires c.loop-k-test.true)

pub slice_bounds-get_record-end : goal.slice_bounds-get_record-end
slice_bounds-get_record-end c = omega (arith, words-in c.requires c.loop-k-test.true)

pub get_record-requires : goal.get_record-requires
get_record-requires c =
    get-room c.requires c.loop-k.invariant c.loop-k-test.true refl refl

pub overflow_add-place : goal.overflow_add-place
overflow_add-place c =
    let l = c.loop-k in
    omega (arith, get-fits c.requires l.invariant c.loop-k-test.true)

pub loop-k-preserved : goal.loop-k-preserved
loop-k-preserved c =
    let l = c.loop-k in
    get-next c.requires l.invariant c.loop-k-test.true refl refl
    c.get_record.ensures
