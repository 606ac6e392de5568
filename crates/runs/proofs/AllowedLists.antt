-- Which lists of calls are allowed, at the tables: whatever was called, any event and any save may follow, and a restore of any bytes that it refuses.
-- (And of the bytes that an accepted save put out: SavedComesBack.) Nothing is assumed of n.
use Prim.Native.Nat.{ℕ}
use mathlib.Core.List.{List, [], ◌∷◌, ◌++◌}
use mathlib.Core.Path.{◌≡◌}
use Rattle.calls.specs.Run.{Call, event, save, restore, start_of_run, Fair, fair_event, fair_save, fair_refused, fair_nil, fair_cons}
use Rattle.image_snapshot.specs.Restore.{restore_on}
use Rattle.protocol.specs.Step.{Event}
use Rattle.runs.specs.OnTables.{tables_after_all, on_tables, fresh_tables, after, Allowed}
use Rattle.runs.proofs.Lists.{fair-append}
use Rattle.runs.proofs.TablesRun.{now-after}

pub none_allowed : (n : ℕ) → Allowed n []
none_allowed n = fair_nil

module _ (n : ℕ) (cs : List Call) (allowed : Allowed n cs) where
  followed : (c : Call) → Fair on_tables (after n cs) c → Allowed n (cs ++ (c ∷ []))
  followed c f = fair-append on_tables (start_of_run (fresh_tables n)) cs (c ∷ []) allowed (fair_cons f fair_nil)

  pub event-allowed : (m : ℕ) (e : Event) → Allowed n (cs ++ (event m e ∷ []))
  event-allowed m e = followed (event m e) (fair_event m e)

  pub save-allowed : (m : ℕ) (out : List ℕ) → Allowed n (cs ++ (save m out ∷ []))
  save-allowed m out = followed (save m out) (fair_save m out)

  pub refused-allowed : (b : List ℕ) → ((restore_on b (tables_after_all (fresh_tables n) cs)).said.number ≡ 0 → ⊥) → Allowed n (cs ++ (restore b ∷ []))
  refused-allowed b d =
      followed (restore b) (fair_refused b (λ z. d (rw (now-after (start_of_run (fresh_tables n)) cs) at z)))
