-- What an accepted save put out comes back: whatever allowed calls follow, a restore of exactly these bytes is allowed, says 0, and leaves the
-- tables as they were at that save. What each call says and leaves is by the contracts' own definitions. Assumes 1 to 16 nodes.
use Prim.Native.Nat.{ℕ, ◌≤◌}
use mathlib.Core.List.{List, [], ◌∷◌, ◌++◌}
use mathlib.Core.Path.{◌≡◌, refl, sym, ap, subst, ◌∙◌}
use Rattle.calls.specs.Run.{Call, save, restore, Saved, RunState, start_of_run, saved_at, last_save, act, perform}
use Rattle.calls.specs.Run.{Fair, fair_event, fair_save, fair_saved, fair_refused, AllFair, fair_nil, fair_cons}
use Rattle.calls.proofs.LastSave.{stays-last}
use Rattle.calls.proofs.SavesLaws.{save-last, not-forgotten}
use Rattle.image_snapshot.specs.Restore.{restore_on}
use Rattle.image_snapshot.specs.Save.{save_on}
use Rattle.protocol.specs.Network.{Network, fresh}
use Rattle.refusal.specs.Outcome.{outcome, Outcome}
use Rattle.refusal.specs.Refusal.{why}
use Rattle.refusal.specs.declared.Why.{Why}
use Rattle.tables.specs.Load.{tables_of}
use Rattle.tables.specs.Tables.{Tables}
use Rattle.runs.specs.OnTables.{put_out, on_tables, fresh_tables, then, after, Allowed}
use Rattle.runs.specs.inner.ByMeaning.{by_meaning}
use Rattle.runs.proofs.Demand3.{tables_at, put_back}
use Rattle.runs.proofs.ImageBack.{SaneRun}
use Rattle.runs.proofs.Lists.{perform-append, fair-first, fair-rest, fair-append, fair-head, fair-tail}
use Rattle.runs.proofs.Simulation.{Simulated, onto, last-from, restore-is, onto-call, fair-from, call-sane, onward, from-fresh}
use Rattle.runs.proofs.TablesRun.{meant_after, now-after, now-behind}

-- ---- the statement

-- after all the calls cs, the bytes b that a save put out when the tables were t
pub record ComesBack (n : ℕ) (t : Tables) (b : List ℕ) (cs : List Call) : Type 0 where
  -- they are the bytes of a save of the run, and the last such save was made on the same tables
  pub saved : Saved Tables
  pub last : last_save b (after n cs).saves ≡ saved_at saved
  pub same : saved.at ≡ t
  -- so a restore of them may follow, says 0, and leaves these tables
  pub allowed : Allowed n (cs ++ (restore b ∷ []))
  pub restored : restore_on b (tables_at n cs) ≡ outcome (why 0 0 0) t

abbrev pub Statement : Type 0
Statement = (n : ℕ) → 1 ≤ n → n ≤ 16 → (before rest : List Call) (m : ℕ) (out : List ℕ) → Allowed n (before ++ (save m out ∷ rest))
    → (save_on m (tables_at n before) out).said.why.number ≡ 0
    → ComesBack n (tables_at n before) (put_out (save_on m (tables_at n before) out)) (before ++ (save m out ∷ rest))

-- right after it that save is the last one that wrote these bytes, with the history as it stood
abbrev pub RightAfter : Type 0
RightAfter = (n : ℕ) (before : List Call) (m : ℕ) (out : List ℕ) → (save_on m (tables_at n before) out).said.why.number ≡ 0
    → last_save (put_out (save_on m (tables_at n before) out)) (then (after n before) (save m out)).saves
    ≡ saved_at (record { bytes = put_out (save_on m (tables_at n before) out); at = tables_at n before; history = (after n before).history })

-- and it stays so where no accepted save of the further calls wrote them
abbrev pub StaysLast : Type 0
StaysLast = (n : ℕ) (before rest : List Call) (m : ℕ) (out : List ℕ) → (save_on m (tables_at n before) out).said.why.number ≡ 0
    → ((mid more : List Call) (k : ℕ) (to : List ℕ) → rest ≡ mid ++ (save k to ∷ more)
    → (save_on k (tables_at n (before ++ (save m out ∷ mid))) to).said.why.number ≡ 0
    → put_out (save_on k (tables_at n (before ++ (save m out ∷ mid))) to) ≡ put_out (save_on m (tables_at n before) out) → ⊥)
    → last_save (put_out (save_on m (tables_at n before) out)) (after n (before ++ (save m out ∷ rest))).saves
    ≡ saved_at (record { bytes = put_out (save_on m (tables_at n before) out); at = tables_at n before; history = (after n before).history })

-- ---- the proof

-- the bytes b are those of a save made on the tables q
record Recorded (b : List ℕ) (q : Tables) (w : RunState Tables) : Type 0 where
  saved : Saved Tables
  last : last_save b w.saves ≡ saved_at saved
  same : saved.at ≡ q

pub right-after : RightAfter
right-after n before m out zero! = go (after n before) (tables_at n before) (now-after (start_of_run (fresh_tables n)) before) zero!
  where
    go : (w : RunState Tables) (t : Tables) → w.now ≡ t → (save_on m t out).said.why.number ≡ 0
        → last_save (put_out (save_on m t out)) (then w (save m out)).saves
        ≡ saved_at (record { bytes = put_out (save_on m t out); at = t; history = w.history })
    go w t e z = rw (← e) (save-last on_tables w m out (rw (← e) at z))

pub stays-the-last : StaysLast
stays-the-last n before rest m out zero! other =
    let b = put_out (save_on m (tables_at n before) out) in
    let now = now-behind n before (save m out) in
    ap (λ (u : RunState Tables). last_save b u.saves) (perform-append on_tables (start_of_run (fresh_tables n)) before (save m out ∷ rest))
    ∙ stays-last on_tables b (then (after n before) (save m out)) rest (λ mid more k to e z same.
    other mid more k to e (rw (now mid) at z) (rw (now mid) at same))
    ∙ right-after n before m out zero!

module _ (n : ℕ) (low : 1 ≤ n) (few : n ≤ 16) where
  -- what a restore of recorded bytes does
  restores : (w : RunState Network) → SaneRun n low few w → (b : List ℕ) (q : Tables) → Recorded b q (onto n w)
      → restore_on b (tables_of n w.now) ≡ outcome (why 0 0 0) q
  restores w sane b q k =
      let r = last-from n b w.saves k.saved k.last in
      restore-is n low few w sane b r.0 r.1
      ∙ ap (λ (x : Saved Tables). outcome (why 0 0 0) x.at) r.2 ∙ ap (outcome (why 0 0 0)) k.same

  -- a further call leaves them recorded: where it is a save that wrote the same bytes, it was made on the same tables
  still : (w : RunState Network) → SaneRun n low few w → (b : List ℕ) (q : Tables) → Recorded b q (onto n w)
      → (c : Call) → Fair (by_meaning n) w c → Recorded b q (then (onto n w) c)
  still w sane b q k c (fair_event m e) = record { saved = k.saved; last = k.last; same = k.same }
  still w sane b q k c (fair_saved x s e) = record { saved = k.saved; last = k.last; same = k.same }
  still w sane b q k c (fair_refused x d) = record { saved = k.saved; last = k.last; same = k.same }
  still w sane b q k c (fair_save m out) =
      let after-it = act (by_meaning n) w (save m out) in
      let on = onto-call n low few w sane (save m out) (fair_save m out) in
      let r = not-forgotten on_tables (onto n w) (save m out) b k.saved k.last in
      let again : Recorded b r.0.at (onto n after-it) = subst (Recorded b r.0.at) on (record { saved = r.0; last = r.1; same = refl }) in
      let back = restores after-it (call-sane n low few w (save m out) sane (fair_save m out)) b r.0.at again in
      record { saved = r.0; last = r.1; same = ap (λ (f : Outcome Why Tables). f.after) (sym back ∙ restores w sane b q k) }

  still-all : (w : RunState Network) → SaneRun n low few w → (b : List ℕ) (q : Tables) → Recorded b q (onto n w)
      → (cs : List Call) → AllFair on_tables (onto n w) cs → Recorded b q (perform on_tables (onto n w) cs)
  still-all w sane b q k [] fs = k
  still-all w sane b q k (c ∷ cs) fs =
      let f = fair-from n low few w sane c (fair-head on_tables (onto n w) c cs fs) in
      let on = onto-call n low few w sane c f in
      subst (λ (v : RunState Tables). Recorded b q (perform on_tables v cs)) (sym on)
      (still-all (act (by_meaning n) w c) (call-sane n low few w c sane f) b q (subst (Recorded b q) on (still w sane b q k c f)) cs
      (onward n low few w sane c cs fs))

pub saved-comes-back : Statement
saved-comes-back n low few before rest m out allowed zero! = record {
  saved = there.saved;
  last = there.last;
  same = there.same;
  allowed = fair-append on_tables start cs (restore b ∷ []) allowed (fair_cons (fair_saved b there.saved there.last) fair_nil);
  restored = put_back n low few cs b there.saved allowed there.last ∙ ap (outcome (why 0 0 0)) there.same;
}
  where
    start : RunState Tables
    start = start_of_run (fresh_tables n)

    cs : List Call
    cs = before ++ (save m out ∷ rest)

    t : Tables
    t = tables_at n before

    b : List ℕ
    b = put_out (save_on m (tables_at n before) out)

    sim : Simulated n low few (start_of_run fresh) before
    sim = from-fresh n low few before (fair-first on_tables start before (save m out ∷ rest) allowed)

    -- by the meaning: before the save, and after it
    v : RunState Network
    v = meant_after n before

    w : RunState Network
    w = act (by_meaning n) (meant_after n before) (save m out)

    sane : SaneRun n low few w
    sane = call-sane n low few v (save m out) sim.sane (fair_save m out)

    on : then (after n before) (save m out) ≡ onto n w
    on = ap (λ (u : RunState Tables). then u (save m out)) sim.run_is ∙ onto-call n low few v sim.sane (save m out) (fair_save m out)

    here : Recorded b t (onto n w)
    here = subst (Recorded b t) on (record {
      saved = record { bytes = b; at = t; history = (after n before).history };
      last = right-after n before m out zero!;
      same = refl;
    })

    fair : AllFair on_tables (onto n w) rest
    fair = subst (λ (u : RunState Tables). AllFair on_tables u rest) on
        (fair-tail on_tables (after n before) (save m out) rest (fair-rest on_tables start before (save m out ∷ rest) allowed))

    there : Recorded b t (after n cs)
    there = subst (Recorded b t) (sym (perform-append on_tables start before (save m out ∷ rest) ∙ ap (λ (u : RunState Tables). perform on_tables u rest) on))
        (still-all n low few w sane b t here rest fair)
