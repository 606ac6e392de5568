-- What each call of a list says, one after the other: for the list that is computed (proofs/OlderSave.antt) and the run by the meaning.
use Rattle.std.specs.Prelude.{ℕ, List}
use Rattle.basics.specs.Functions.{say_all}
use Rattle.calls.specs.Run.{Call, event, save, restore}
use Rattle.election.specs.StepOn.{step_on}
use Rattle.image_snapshot.specs.Restore.{restore_on}
use Rattle.image_snapshot.specs.Save.{save_on}
use Rattle.protocol.specs.Answer.{Said}
use Rattle.refusal.specs.Outcome.{Answered, Outcome}
use Rattle.refusal.specs.declared.Why.{Why}
use Rattle.tables.specs.Tables.{Tables}
use Rattle.runs.specs.OnTables.{tables_after}

-- what a call answers; of a save also the lent bytes after it
pub data Reply : Type 0 where
  to_event : Said → Reply
  to_save : Outcome (Answered ℕ) (List ℕ) → Reply
  to_restore : Why → Reply

unfoldable pub reply : Tables → Call → Reply
reply t (event m e) = to_event (step_on m e t).said
reply t (save m out) = to_save (save_on m t out)
reply t (restore b) = to_restore (restore_on b t).said

abbrev pub replies : Tables → List Call → List Reply
replies t cs = say_all tables_after reply t cs
