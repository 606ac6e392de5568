-- `histories::explore::branch` and `explore` meet their contracts.
use Rattle.std.proofs.Common.{arith}
use Rattle.histories.proofs.ExploreLaws.{turning-start, turning-branch, turning-next, turning-done}
use Rattle.histories.proofs.ExploreLaws.{small, refused-done, explored, explored-sized, accepted-done, end-room, end-done}
use Rattle.histories.proofs.explore.+branch_explore.Goals as goal

-- ---- branch

pub branch-returns-then-not-step : goal.branch-returns-then-not-step
branch-returns-then-not-step t c =
    refused-done c.requires c.step.ensures.0 c.step.ensures.1 c.if-not-step.true c.args.out.now

pub branch-overflow_mul-code : goal.branch-overflow_mul-code
branch-overflow_mul-code t c =
    omega (arith, small c.args.path.events c.args.path.code (omega (arith, c.requires.short)) c.requires.path)

pub branch-overflow_add-code : goal.branch-overflow_add-code
branch-overflow_add-code t c =
    omega (arith, c.requires.code, small c.args.path.events c.args.path.code (omega (arith, c.requires.short)) c.requires.path)

pub branch-explore-offset-requires : goal.branch-explore-offset-requires
branch-explore-offset-requires t c =
    (omega arith, explored c.requires c.step.ensures.0 c.step.ensures.1 c.if-not-step.false)

pub branch-replay-requires : goal.branch-replay-requires
branch-replay-requires t c = explored-sized c.requires c.step.ensures.0 c.step.ensures.1 c.explore-offset.ensures.2

pub branch-returns : goal.branch-returns
branch-returns t c =
    let d = c.explore-offset.ensures in
    accepted-done c.requires c.step.ensures.0 c.step.ensures.1 c.if-not-step.false c.args.out.now d.0 d.1 c.replay.ensures

-- ---- explore

pub explore-put_input-requires : goal.explore-put_input-requires
explore-put_input-requires t c = end-room c.requires c.if-left-eq0.true

pub explore-returns-then-left-eq0 : goal.explore-returns-then-left-eq0
explore-returns-then-left-eq0 t c =
    end-done c.requires c.if-left-eq0.true c.args.out.now c.put_input.ensures.0 c.put_input.ensures.1

pub explore-loop-c-init : goal.explore-loop-c-init
explore-loop-c-init t c = turning-start c.requires c.if-left-eq0.false c.args.out.now

pub explore-branch-offset-requires : goal.explore-branch-offset-requires
explore-branch-offset-requires t c =
    (omega arith, turning-branch c.requires c.if-left-eq0.false c.args.out.now c.loop-c.invariant c.loop-c-test.true)

pub explore-loop-c-preserved : goal.explore-loop-c-preserved
explore-loop-c-preserved t c =
    let e = c.branch-offset.ensures in
    turning-next c.requires c.if-left-eq0.false c.args.out.now c.loop-c.invariant c.loop-c-test.true e.0 e.1 e.2

pub explore-returns : goal.explore-returns
explore-returns t c =
    turning-done c.requires c.if-left-eq0.false c.args.out.now c.loop-c.invariant c.loop-c-test.false
