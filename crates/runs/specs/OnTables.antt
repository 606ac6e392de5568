-- Lists of calls on lent tables: what each call answers, and the tables after it; with the history and the accepted saves, the whole run.
-- What a call answers and leaves is what its contract equates to: `step_on`, `save_on`, `restore_on`.
use Rattle.std.specs.Prelude.{ℕ, List, take}
use Rattle.basics.specs.Functions.{after_all}
use Rattle.calls.specs.Run.{Call, event, save, restore, Calls, RunState, start_of_run, act, perform, AllFair}
use Rattle.election.specs.StepOn.{step_on}
use Rattle.image_snapshot.specs.Restore.{restore_on}
use Rattle.image_snapshot.specs.Save.{save_on}
use Rattle.protocol.specs.Network.{fresh}
use Rattle.refusal.specs.Outcome.{Answered, Outcome, outcome}
use Rattle.refusal.specs.declared.Why.{Why}
use Rattle.tables.specs.Load.{load, tables_of}
use Rattle.tables.specs.Tables.{Tables}

-- ---- calls one after the other

unfoldable pub tables_after : Tables → Call → Tables
tables_after t (event m e) = (step_on m e t).after
tables_after t (save m out) = t
tables_after t (restore b) = (restore_on b t).after

abbrev pub tables_after_all : Tables → List Call → Tables
tables_after_all t cs = after_all tables_after t cs

-- ---- the run

-- the bytes that a save put at the front of the lent ones
abbrev pub put_out : Outcome (Answered ℕ) (List ℕ) → List ℕ
put_out o = take o.said.value o.after

abbrev pub writing : Outcome (Answered ℕ) (List ℕ) → Outcome ℕ (List ℕ)
writing o = outcome o.said.why.number (put_out o)

abbrev pub refilling : Outcome Why Tables → Outcome ℕ Tables
refilling o = outcome o.said.number o.after

abbrev pub on_tables : Calls Tables
on_tables = record {
  stepped = step_on;
  clock = λ m t. (load m t).clock;
  written = λ m out t. writing (save_on m t out);
  resumed = λ b t. refilling (restore_on b t);
}

-- what `fresh` fills tables of n nodes with (`lent`, fresh_on)
abbrev pub fresh_tables : ℕ → Tables
fresh_tables n = tables_of n fresh

-- one call more; and all calls from fresh tables on
abbrev pub then : RunState Tables → Call → RunState Tables
then w c = act on_tables w c

abbrev pub after : ℕ → List Call → RunState Tables
after n cs = perform on_tables (start_of_run (fresh_tables n)) cs

-- each restore gets either the bytes of an accepted save before it in the list, or bytes to which it says no
abbrev pub Allowed : ℕ → List Call → Type 0
Allowed n cs = AllFair on_tables (start_of_run (fresh_tables n)) cs
