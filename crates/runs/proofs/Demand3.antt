-- Demand 3, whole: one statement about a whole list of calls on lent tables of n nodes, from `fresh` (document 01, "Lists of calls").
-- Calls are events, saves and restores with any numbers, refused ones among them; what each answers and leaves is its contract's. Assumes 1 ≤ n ≤ 16.
use Prim.Native.Nat.{ℕ, ◌+◌, ◌≤◌}
use native.Mathlib.Omega.{arith}
use mathlib.Core.List.{List, [], ◌∷◌, ◌++◌}
use mathlib.Core.Logic.{◌⊎◌, inl, inr}
use mathlib.Core.Path.{◌≡◌, sym, ap, ◌∙◌}
use lib.ListN.{length}
use Rattle.basics.specs.Functions.{after_all, say_all}
use Rattle.basics.proofs.Tests.{Choice, yes!, no!, choice}
use Rattle.calls.specs.Component.{Quiescent, OneLeader}
use Rattle.calls.specs.History.{History, up_in, sent_since, received_since, waiting}
use Rattle.calls.specs.Run.{Call, save, restore, Saved, RunState, start_of_run, Earlier, never, saved_at, last_save, Fair, fair_saved, fair_refused}
use Rattle.calls.proofs.LastSave.{NoneWrote, Wrote, remembered}
use Rattle.calls.proofs.Runs.{state_of, good-promise}
use Rattle.calls.proofs.SavesLaws.{restore-history}
use Rattle.election.specs.RunOn.{EventCall, tables_left, said_on}
use Rattle.image_snapshot.specs.Restore.{restore_on}
use Rattle.image_snapshot.specs.Save.{save_on}
use Rattle.lent.specs.Fresh.{fresh_on}
use Rattle.lent.proofs.CheckLaws.{sized-is}
use Rattle.protocol.specs.Network.{Node, Network, up_to, own}
use Rattle.refusal.specs.Outcome.{outcome, Outcome}
use Rattle.refusal.specs.Refusal.{why}
use Rattle.refusal.specs.declared.Why.{Why}
use Rattle.tables.specs.Load.{load}
use Rattle.tables.specs.Tables.{Tables, sized}
use Rattle.runs.specs.OnTables.{tables_after_all, put_out, on_tables, fresh_tables, after, Allowed}
use Rattle.runs.proofs.Lists.{perform-append, fair-first, fair-rest, fair-head}
use Rattle.runs.proofs.Simulation.{last-from, restore-is, from-fresh}
use Rattle.runs.proofs.TablesRun.{meant_after, now-after, now-behind, on-tables}

-- ---- the statement

-- the tables after a list of calls, the network that they hold, and the history
abbrev pub tables_at : ℕ → List Call → Tables
tables_at n cs = tables_after_all (fresh_tables n) cs

abbrev pub network_at : ℕ → List Call → Network
network_at n cs = load n (tables_at n cs)

abbrev pub history_after : ℕ → List Call → History
history_after n cs = (after n cs).history

-- the last save of the calls cs that wrote the bytes b: it was accepted behind the calls `before`, put these bytes out,
-- and no accepted save after it did
pub record LastSave (n : ℕ) (cs : List Call) (b : List ℕ) : Type 0 where
  pub before : List Call
  pub rest : List Call
  pub size : ℕ
  pub room : List ℕ
  pub list : cs ≡ before ++ (save size room ∷ rest)
  pub accepted : (save_on size (tables_at n before) room).said.why.number ≡ 0
  pub bytes : put_out (save_on size (tables_at n before) room) ≡ b
  pub no-later : (mid more : List Call) (m : ℕ) (out : List ℕ) → rest ≡ mid ++ (save m out ∷ more)
      → (save_on m (tables_at n (before ++ (save size room ∷ mid))) out).said.why.number ≡ 0
      → put_out (save_on m (tables_at n (before ++ (save size room ∷ mid))) out) ≡ b → ⊥

-- an accepted restore of the bytes b behind the calls cs goes on as from the last save of cs that wrote these bytes: the history is
-- that of the save, and for every list of events, each with its own n, refused ones too, so are the answers, and at its end the tables
pub record Resumed (n : ℕ) (cs : List Call) (b : List ℕ) : Type 0 where
  pub last : LastSave n cs b
  pub history : history_after n (cs ++ (restore b ∷ [])) ≡ history_after n last.before
  pub answers : (es : List EventCall) → say_all tables_left said_on (restore_on b (tables_at n cs)).after es ≡ say_all tables_left said_on (tables_at n last.before) es
  pub tables : (es : List EventCall) → after_all tables_left (restore_on b (tables_at n cs)).after es ≡ after_all tables_left (tables_at n last.before) es

pub record Demand3 (n : ℕ) (cs : List Call) : Type 0 where
  -- (a) v is in one of the sets of u exactly when the history leaves that channel up,
  -- and the messages on channel u to v are those that the history counts as sent, less those that it counts as received
  pub up_is : (u v : ℕ) → up_to (network_at n cs) u v ≡ up_in (history_after n cs) u v
  pub waiting-is : (u v : ℕ)
      → received_since (history_after n cs) u v + length ((network_at n cs).channel u v) ≡ sent_since (history_after n cs) u v
  -- (b) quiet by the history: in each group exactly one collector, a member, and a chain to it from every member
  pub one-leader : Quiescent n (up_in (history_after n cs)) (waiting (history_after n cs))
      → (u : ℕ) → Node n u → OneLeader n (up_in (history_after n cs)) (own (network_at n cs)) u
  -- (c) every accepted restore in the list
  pub resumed : (before rest : List Call) (b : List ℕ) → cs ≡ before ++ (restore b ∷ rest)
      → (restore_on b (tables_at n before)).said.number ≡ 0 → Resumed n before b

abbrev pub Statement : Type 0
Statement = (n : ℕ) → 1 ≤ n → n ≤ 16 → (cs : List Call) → Allowed n cs → Demand3 n cs

-- ---- the save that a run remembers

-- a remembered save is the last one of the list that wrote its bytes, with the tables and the history then
pub record Remembered (n : ℕ) (cs : List Call) (b : List ℕ) (s : Saved Tables) : Type 0 where
  pub last : LastSave n cs b
  pub is : s ≡ record { bytes = b; at = tables_at n last.before; history = history_after n last.before }

pub remembers : (n : ℕ) (cs : List Call) (b : List ℕ) (s : Saved Tables) → last_save b (after n cs).saves ≡ saved_at s → Remembered n cs b s
remembers n cs b s e = go (remembered on_tables b start s cs e)
  where
    start : RunState Tables
    start = start_of_run (fresh_tables n)

    go : ((last_save b start.saves ≡ saved_at s) × NoneWrote on_tables b start cs) ⊎ Wrote on_tables b start s cs → Remembered n cs b s
    go (inl x) =
        let l : ◌≡◌ {A = Earlier Tables} never (saved_at s) = x.0 in
        let z : ◌≡◌ {A = ℕ} 0 1 = cc in
        absurd (omega arith)
    go (inr x) =
        let now = now-after start x.before in
        record {
          last = record {
            before = x.before;
            rest = x.rest;
            size = x.m;
            room = x.out;
            list = x.list;
            accepted = rw now at x.accepted;
            bytes = rw now at x.bytes;
            no-later = λ mid more m out q z y.
                let at = now-behind n x.before (save x.m x.out) mid in
                x.no-later mid more m out q (rw at z) (rw at y);
          };
          is = rw now at x.is;
        }

-- ---- the proof

module _ (n : ℕ) (low : 1 ≤ n) (few : n ≤ 16) where
  -- a restore of the bytes of an earlier save says 0 and leaves the tables as they were at that save
  pub put_back : (cs : List Call) (b : List ℕ) (s : Saved Tables) → Allowed n cs → last_save b (after n cs).saves ≡ saved_at s
      → restore_on b (tables_at n cs) ≡ outcome (why 0 0 0) s.at
  put_back cs b s allowed e =
      let v = meant_after n cs in
      let sim = from-fresh n low few cs allowed in
      let r = last-from n b v.saves s (ap (λ (w : RunState Tables). last_save b w.saves) (sym sim.run_is) ∙ e) in
      ap (restore_on b) (on-tables n low few cs allowed).tables-are
      ∙ restore-is n low few v sim.sane b r.0 r.1
      ∙ ap (λ (x : Saved Tables). outcome (why 0 0 0) x.at) r.2

  accepted : (cs : List Call) (b : List ℕ) → Allowed n cs → Fair on_tables (after n cs) (restore b)
      → (restore_on b (tables_at n cs)).said.number ≡ 0 → Resumed n cs b
  accepted cs b allowed (fair_saved _ s e) zero! =
      let start = start_of_run (fresh_tables n) in
      let r = remembers n cs b s e in
      let back = put_back cs b s allowed e ∙ ap (λ (x : Saved Tables). outcome (why 0 0 0) x.at) r.is in
      record {
        last = r.last;
        history =
            ap (λ (w : RunState Tables). w.history) (perform-append on_tables start cs (restore b ∷ []))
            ∙ restore-history on_tables (after n cs) b s e (rw (now-after start cs) zero!) ∙ ap (λ (x : Saved Tables). x.history) r.is;
        answers = λ es. ap (λ (f : Outcome Why Tables). say_all tables_left said_on f.after es) back;
        tables = λ es. ap (λ (f : Outcome Why Tables). after_all tables_left f.after es) back;
      }
  accepted cs b allowed (fair_refused _ d) zero! = absurd (d (rw (now-after (start_of_run (fresh_tables n)) cs) zero!))

pub demand-3 : Statement
demand-3 n low few cs allowed =
    let sim = from-fresh n low few cs allowed in
    let on = on-tables n low few cs allowed in
    let promise = good-promise n (state_of (meant_after n cs)) sim.sane.good in
    record {
      up_is = rw (on.network-is, on.history-is) (λ u v. sym (promise.told.ups u v));
      waiting-is = rw (on.network-is, on.history-is) promise.told.counts;
      one-leader = rw (on.network-is, on.history-is) promise.leader;
      resumed = λ before rest b e zero!.
          let whole : Allowed n (before ++ (restore b ∷ rest)) = rw e at allowed in
          let first = fair-first on_tables (start_of_run (fresh_tables n)) before (restore b ∷ rest) whole in
          let more = fair-rest on_tables (start_of_run (fresh_tables n)) before (restore b ∷ rest) whole in
          accepted n low few before b first (fair-head on_tables (after n before) (restore b) rest more) zero!;
    }

-- whatever n is handed to `fresh`: what it leaves, if it accepts, is where lists of calls start, and demand 3 holds of each that is allowed
pub after-fresh : (n : ℕ) (t : Tables) → (fresh_on n t).said.number ≡ 0
    → ((fresh_on n t).after ≡ fresh_tables n) × ((cs : List Call) → Allowed n cs → Demand3 n cs)
unfolding fresh_on
after-fresh n t zero! = go (choice (sized n t)) zero!
  where
    go : Choice (sized n t) → (fresh_on n t).said.number ≡ 0 → ((fresh_on n t).after ≡ fresh_tables n) × ((cs : List Call) → Allowed n cs → Demand3 n cs)
    go (yes! e) z = let size = sized-is n t e in (rw e, demand-3 n size.low size.few)
    go (no! e) z = let y : ◌≡◌ {A = ℕ} 1 0 = rw e at z in absurd (omega arith)
