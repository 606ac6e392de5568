-- The fresh network in lent tables, whatever they held before: answers 0, or 1 and leaves them as they were.
use Rattle.std.specs.Prelude.{ℕ, cond}
use Rattle.protocol.specs.Network.{fresh}
use Rattle.refusal.specs.Outcome.{Outcome, outcome}
use Rattle.refusal.specs.Refusal.{why}
use Rattle.refusal.specs.declared.Why.{Why}
use Rattle.tables.specs.Load.{tables_of}
use Rattle.tables.specs.Tables.{Tables, sized}

unfoldable pub fresh_on : ℕ → Tables → Outcome Why Tables
fresh_on n t = cond (sized n t) (outcome (why 0 0 0) (tables_of n fresh)) (outcome (why 1 0 0) t)
