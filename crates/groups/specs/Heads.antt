-- The lowest members of all groups of lent tables, as a set: 1, 2 and 18 by the check, else one node for each group.
use Rattle.std.specs.Prelude.{ℕ}
use Rattle.lent.specs.Check.{check_on}
use Rattle.protocol.specs.Network.{up_to}
use Rattle.refusal.specs.Outcome.{Answered, accepted, after_check}
use Rattle.tables.specs.Load.{load}
use Rattle.tables.specs.Tables.{Tables}
use Rattle.groups.specs.Groups.{heads_of}

unfoldable pub heads_on : ℕ → Tables → Answered ℕ
heads_on n t = after_check 0 (check_on n t) (accepted (heads_of n (up_to (load n t))))
