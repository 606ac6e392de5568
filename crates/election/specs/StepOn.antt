-- An event on lent tables: what it answers and what both tables are afterwards, by the meaning alone.
-- Document 01, "Returned numbers", and document 02 [3]: 1, 2, 18, then 3 to 9 of the loaded network; a refused call leaves the tables as they were.
use Rattle.std.specs.Prelude.{ℕ, cond, eqb}
use Rattle.lent.specs.Check.{check_on}
use Rattle.protocol.specs.Answer.{Said, said_refused}
use Rattle.protocol.specs.Refusal.{answer, next}
use Rattle.protocol.specs.Step.{Event}
use Rattle.refusal.specs.Outcome.{outcome, Outcome}
use Rattle.refusal.specs.declared.Why.{Why}
use Rattle.tables.specs.Load.{load, tables_of}
use Rattle.tables.specs.Tables.{Tables}

-- 3 to 9, or carried out
unfoldable pub step_at : ℕ → Event → Tables → Outcome Said Tables
step_at n e t = outcome (answer n (load n t) e) (tables_of n (next n (load n t) e))

-- by what the check of the tables says: 1, 2 or 18, else on
unfoldable pub step_checked : ℕ → Event → Tables → Why → Outcome Said Tables
step_checked n e t c = cond (eqb c.number 0) (step_at n e t) (outcome (said_refused c) t)

unfoldable pub step_on : ℕ → Event → Tables → Outcome Said Tables
step_on n e t = step_checked n e t (check_on n t)
