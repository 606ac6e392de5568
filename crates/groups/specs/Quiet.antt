-- Whether the network of lent tables is quiet: 1, 2 and 18 by the check, else 1 for quiet and 0 for not.
use Rattle.std.specs.Prelude.{ℕ, Bool, Result, Ok, Err}
use Rattle.lent.specs.Check.{check_on}
use Rattle.nodeset.specs.NodeSet.{digit}
use Rattle.protocol.specs.Quiet.{quiet}
use Rattle.refusal.specs.Outcome.{Answered, accepted, refused_with, after_check}
use Rattle.refusal.specs.Refusal.{why_of}
use Rattle.tables.specs.Load.{load}
use Rattle.tables.specs.Tables.{Tables}
use Rattle.refusal.specs.declared.Refusal.{Refusal}

abbrev pub said_quiet : Result Bool Refusal → Answered ℕ
said_quiet (Ok b) = accepted (digit b)
said_quiet (Err r) = refused_with 0 (why_of r)

unfoldable pub quiet_on : ℕ → Tables → Answered ℕ
quiet_on n t = after_check 0 (check_on n t) (accepted (digit (quiet n (load n t))))
