-- `histories::explore::explore` calls `branch` with one event less, `branch` calls `explore` with as many: the measures are 2 left for `explore` and
-- 2 left + 1 for `branch`. The invariant: the branches before candidate c have been poured.
use Rattle.std.proofs.Common.{◌+◌}
use Rattle.tables.specs.Tables.{tables}
use Rattle.histories.proofs.ExploreLaws.{Turning}
use Rattle.histories.proofs.explore.+branch_explore.Given as goal

abbrev pub decreases-branch : goal.decreases-branch
decreases-branch l = l.left + l.left + 1

abbrev pub decreases-explore : goal.decreases-explore
decreases-explore l = l.left + l.left

abbrev pub invariant-explore-loop-c : goal.invariant-explore-loop-c
invariant-explore-loop-c l =
    Turning l.path.n l.left l.path.events l.path.code (tables l.fn.nodes l.fn.channels) l.fn.out l.at (tables l.nodes l.channels)
    l.out l.c l.offset
