use native.Mathlib.Omega.{arith}
use mathlib.Core.Path.{sym, ◌∙◌}
use Rattle.drawing.proofs.Walks.{check-start, line-inside, check_done, check-stop, new-link, check-next}
use Rattle.drawing.proofs.linking.all_new.Goals as goal

pub loop-at-init : goal.loop-at-init
loop-at-init c =
    check-start _ _ _ _ c.requires.1 c.requires.2

pub overflow_sub-text : goal.overflow_sub-text
overflow_sub-text c = c.loop-at.invariant.ahead.inside

pub edge_at-e-requires : goal.edge_at-e-requires
edge_at-e-requires c = c.loop-at.invariant.ahead.inside

pub is_new-requires : goal.is_new-requires
is_new-requires c = (c.requires.0, c.loop-at.invariant.marks.size)

pub shape_of-seen-then-not-is_new : goal.shape_of-seen-then-not-is_new
shape_of-seen-then-not-is_new c =
    let loop = c.loop-at in
    loop.invariant.marks.size ∙ sym c.requires.2.size

pub returns-then-not-is_new : goal.returns-then-not-is_new
returns-then-not-is_new c =
    let edge_at = c.edge_at-e in
    let loop-test = c.loop-at-test in
    let loop = c.loop-at in
    check-stop _ _ _ _ loop.invariant loop-test.true _ edge_at.ensures _ c.is_new.ensures c.if-not-is_new.true

pub mark-requires : goal.mark-requires
mark-requires c =
    let edge_at = c.edge_at-e in
    let loop-test = c.loop-at-test in
    let l = c.loop-at in (
      c.requires.0,
      new-link _ _ _ _ l.invariant loop-test.true _ edge_at.ensures _
          c.is_new.ensures c.if-not-is_new.false,
      l.invariant.marks.size,
    )

pub overflow_add-at : goal.overflow_add-at
overflow_add-at c =
    let edge_at = c.edge_at-e in
    let loop-test = c.loop-at-test in
    let loop = c.loop-at in
    omega (arith, (line-inside _ _ _ loop.invariant.ahead loop-test.true _ edge_at.ensures _ c.edge_size-at.ensures).0)

pub loop-at-smaller : goal.loop-at-smaller
loop-at-smaller c =
    let edge_at = c.edge_at-e in
    let loop-test = c.loop-at-test in
    let loop = c.loop-at in
    omega (arith, line-inside _ _ _ loop.invariant.ahead loop-test.true _ edge_at.ensures _ c.edge_size-at.ensures, loop-test.true)

pub loop-at-preserved : goal.loop-at-preserved
loop-at-preserved c =
    let mark = c.mark in
    let if1 = c.if-not-is_new in
    let is-new = c.is_new in
    let edge_at = c.edge_at-e in
    let loop-test = c.loop-at-test in
    let loop = c.loop-at in
    check-next _ _ _ _ loop.invariant loop-test.true _ edge_at.ensures _ is-new.ensures if1.false _ mark.ensures _
    c.edge_size-at.ensures

pub shape_of-seen : goal.shape_of-seen
shape_of-seen c = c.loop-at.invariant.marks.size ∙ sym c.requires.2.size

pub returns : goal.returns
returns c = check_done _ _ _ _ c.loop-at.invariant c.loop-at-test.false
