-- The same lists of calls on a network of n nodes: events and saves by the meaning, a restore by what it does to the network's tables.
-- A means of proof, which TablesRun compares with the calls on tables; demand 3 does not cite it.
use Rattle.std.specs.Prelude.{ℕ, cond, List, eqb}
use Rattle.basics.specs.Functions.{say_all}
use Rattle.calls.specs.Run.{Call, event, save, restore, Calls, RunState, act}
use Rattle.calls.specs.inner.Meant.{meant}
use Rattle.image.specs.Image.{image}
use Rattle.image_snapshot.specs.Restore.{restore_on}
use Rattle.protocol.specs.Network.{Network}
use Rattle.refusal.specs.Outcome.{Answered, Outcome, outcome, put_front, refused_with}
use Rattle.refusal.specs.Refusal.{why}
use Rattle.tables.specs.Load.{load, tables_of}
use Rattle.runs.specs.OnTables.{writing}
use Rattle.runs.specs.inner.Replies.{Reply, to_event, to_save, to_restore}

-- a save of m nodes into lent bytes: 1 for another n, else the image, or 14
unfoldable pub save_meant : ℕ → ℕ → List ℕ → Network → Outcome (Answered ℕ) (List ℕ)
save_meant n m out p = cond (eqb m n) (put_front (image n p) out) (outcome (refused_with 0 (why 1 0 0)) out)

unfoldable pub restore_meant : ℕ → List ℕ → Network → Outcome ℕ Network
restore_meant n b p =
    outcome (restore_on b (tables_of n p)).said.number (load n (restore_on b (tables_of n p)).after)

abbrev pub by_meaning : ℕ → Calls Network
by_meaning n = meant (λ m out p. writing (save_meant n m out p)) (restore_meant n) n

unfoldable pub reply_to : ℕ → Network → Call → Reply
reply_to n p (event m e) = to_event ((by_meaning n).stepped m e p).said
reply_to n p (save m out) = to_save (save_meant n m out p)
reply_to n p (restore b) = to_restore (restore_on b (tables_of n p)).said

abbrev pub replies_to : ℕ → RunState Network → List Call → List Reply
replies_to n w cs = say_all (act (by_meaning n)) (λ x c. reply_to n x.now c) w cs
