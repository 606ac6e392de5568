-- One node's group in lent tables, its members and the collectors among them: 1, 2 and 18 by the check, then 3, else both sets.
use Rattle.std.specs.Prelude.{ℕ, cond}
use Rattle.lent.specs.Check.{check_on}
use Rattle.protocol.specs.Network.{Network, up_to, own, is_node}
use Rattle.refusal.specs.Outcome.{Answered, accepted, refused_with, after_check}
use Rattle.refusal.specs.Refusal.{why}
use Rattle.tables.specs.Load.{load}
use Rattle.tables.specs.Tables.{Tables}
use Rattle.groups.specs.Groups.{group_of, collectors_in}
use Rattle.groups.specs.declared.Group.{Group}

abbrev pub no_group : Group
no_group = record { members = 0; collectors = 0 }

abbrev pub with_collectors : ℕ → Network → ℕ → Group
with_collectors n p s = record { members = s; collectors = collectors_in n (own p) s }

-- 3, else u's group
unfoldable pub group_named : ℕ → ℕ → Network → Answered Group
group_named n u p = cond (is_node n u) (accepted (with_collectors n p (group_of n (up_to p) u))) (refused_with no_group (why 3 0 0))

unfoldable pub group_on : ℕ → ℕ → Tables → Answered Group
group_on n u t = after_check no_group (check_on n t) (group_named n u (load n t))
