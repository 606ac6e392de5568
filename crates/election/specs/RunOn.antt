-- Lists of event calls, each with its own n, on lent tables: document 01, "Lists of calls".
-- Of one call; `after_all` and `say_all` of the crate `basics` make lists of it.
use Rattle.std.specs.Prelude.{ℕ}
use Rattle.protocol.specs.Answer.{Said}
use Rattle.protocol.specs.Step.{Event}
use Rattle.tables.specs.Tables.{Tables}
use Rattle.election.specs.StepOn.{step_on}

-- an event on tables said to be of so many nodes
pub record EventCall : Type 0 where
  pub size : ℕ
  pub event : Event

-- what it leaves, and what it says

abbrev pub tables_left : Tables → EventCall → Tables
tables_left t c = (step_on c.size c.event t).after

abbrev pub said_on : Tables → EventCall → Said
said_on t c = (step_on c.size c.event t).said
