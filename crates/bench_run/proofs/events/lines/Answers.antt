use native.Mathlib.Omega.{arith}
use mathlib.Core.Path.{refl, ◌∙◌}
use Rattle.bench_run.proofs.LinesRun.{run-start, run-next, run-done, run_length}
use Rattle.text.proofs.PourLaws.{both}
use Rattle.bench_run.proofs.events.lines.Goals as goal

pub loop-start-init : goal.loop-start-init
loop-start-init c = (run-start _ _ _ _ _ _, refl, refl)

pub line-offset-requires : goal.line-offset-requires
line-offset-requires c =
    let l = c.loop-start in
    omega (arith, l.invariant.0.near, l.invariant.0.few, c.requires.0, c.requires.1)

pub overflow_add-k : goal.overflow_add-k
overflow_add-k c =
    let l = c.loop-start in omega (arith, l.invariant.0.few, c.requires.1)

pub loop-start-smaller : goal.loop-start-smaller
loop-start-smaller c = omega arith

pub loop-start-preserved : goal.loop-start-preserved
loop-start-preserved c =
    let l = c.loop-start in
    let end = c.line_end-end.ensures in
    let x = c.line-offset.ensures in (
      run-next _ _ _ _ _ _ _ _ l.start l.k l.offset l.invariant.0 c.loop-start-test.true _
          end.0 end.1 _ refl _ _ _ (both x.0 x.1) x.2 x.3,
      c.line-offset.auto.nodes ∙ l.invariant.1,
      c.line-offset.auto.channels ∙ l.invariant.2,
    )

pub shape_of-nodes : goal.shape_of-nodes
shape_of-nodes c = c.loop-start.invariant.1

pub shape_of-channels : goal.shape_of-channels
shape_of-channels c = c.loop-start.invariant.2

pub shape_of-out : goal.shape_of-out
shape_of-out c = run_length _ _ _ _ _ _ _ _ c.loop-start.start c.loop-start.k c.loop-start.offset c.loop-start.invariant.0

pub returns : goal.returns
returns c =
    let l = c.loop-start in
    run-done _ _ _ _ _ _ _ _ l.start l.k l.offset l.invariant.0 (omega arith) c.requires.1 c.requires.0
