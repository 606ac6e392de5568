-- The run on tables is the run by the meaning, carried onto tables: what is lent, the history and the saves, after every allowed list of calls.
-- Assumes 1 to 16 nodes. Tables and networks meet in `tables_of` and `load` alone.
use Prim.Native.Nat.{ℕ, ◌≤◌}
use native.Mathlib.Omega.{arith}
use mathlib.Core.List.{List, [], ◌∷◌, map}
use mathlib.Core.Logic.{inl, inr}
use mathlib.Core.Path.{◌≡◌, refl, sym, ap, subst, ◌∙◌}
use borrow.Author.Tests.{eq-eqb, ne_eqb}
use lib.Dec.{eqb}
use Rattle.basics.specs.Bytes.{same_bytes}
use Rattle.basics.proofs.Tests.{Choice, yes!, no!, choice, SameOrNot, equal?}
use Rattle.calls.specs.History.{advance}
use Rattle.calls.specs.Run.{Call, event, save, restore, Saved, RunState, start_of_run, Earlier, never, saved_at, last_save}
use Rattle.calls.specs.Run.{stepped_to, saved_to, act, perform, Fair, fair_event, fair_save, fair_saved, fair_refused, AllFair}
use Rattle.calls.proofs.Good.{good-advance}
use Rattle.calls.proofs.Runs.{state_of, act-sane, start-sane, Imaged}
use Rattle.calls.proofs.SavesLaws.{found}
use Rattle.election.specs.inner.Meant.{said_to, called}
use Rattle.election.specs.StepOn.{step_on}
use Rattle.election.proofs.RunLaws.{not-sized, one-call}
use Rattle.image_snapshot.specs.Restore.{restore_on}
use Rattle.image_snapshot.specs.Save.{save_on}
use Rattle.image_snapshot.proofs.RefusedLaws.{restore-kept}
use Rattle.lent.specs.Check.{check_on}
use Rattle.lent.proofs.CheckLaws.{check-sizes}
use Rattle.lent.proofs.SoundNetworks.{sound-check}
use Rattle.protocol.specs.Answer.{Said}
use Rattle.protocol.specs.Network.{Network, fresh}
use Rattle.protocol.specs.Refusal.{next}
use Rattle.protocol.specs.Step.{Event}
use Rattle.protocol.proofs.Holding.{sound-holds, timely-holds}
use Rattle.protocol.proofs.Restrict.{restrict-is}
use Rattle.refusal.specs.Outcome.{outcome, Outcome, Answered, put_checked}
use Rattle.refusal.specs.Refusal.{why}
use Rattle.tables.specs.Load.{load, tables_of}
use Rattle.tables.specs.Tables.{Tables}
use Rattle.tables.proofs.Back.{storable, load-back}
use Rattle.runs.specs.OnTables.{writing, on_tables, then, Allowed}
use Rattle.runs.specs.inner.ByMeaning.{save_meant, restore_meant, by_meaning}
use Rattle.runs.proofs.ImageBack.{ImageOf, writes, reads, kept, restore-of, SaneRun}
use Rattle.runs.proofs.Lists.{fair-head, fair-tail}

-- ---- a run by the meaning, carried onto tables

module _ (n : ℕ) where
  abbrev pub onto_save : Saved Network → Saved Tables
  onto_save s = record { bytes = s.bytes; at = tables_of n s.at; history = s.history }

  abbrev pub onto : RunState Network → RunState Tables
  onto w = record { now = tables_of n w.now; history = w.history; saves = map onto_save w.saves }

  abbrev pub onto_earlier : Earlier Network → Earlier Tables
  onto_earlier never = never
  onto_earlier (saved_at s) = saved_at (onto_save s)

  pub last-onto : (b : List ℕ) (ss : List (Saved Network)) → last_save b (map onto_save ss) ≡ onto_earlier (last_save b ss)
  last-onto b [] = refl
  last-onto b (s ∷ ss) = go (last-onto b ss) (choice (same_bytes b s.bytes))
    where
      go : last_save b (map onto_save ss) ≡ onto_earlier (last_save b ss) → Choice (same_bytes b s.bytes)
          → last_save b (map onto_save (s ∷ ss)) ≡ onto_earlier (last_save b (s ∷ ss))
      go ih (yes! e) = rw e
      go ih (no! e) = rw e ih

  -- a save found on tables is one by the meaning
  pub last-from : (b : List ℕ) (ss : List (Saved Network)) (s : Saved Tables) → last_save b (map onto_save ss) ≡ saved_at s
      → (r : Saved Network) × (last_save b ss ≡ saved_at r) × (onto_save r ≡ s)
  last-from b ss s e = go (last_save b ss) refl (sym (last-onto b ss) ∙ e)
    where
      go : (x : Earlier Network) → last_save b ss ≡ x → onto_earlier x ≡ saved_at s
          → (r : Saved Network) × (last_save b ss ≡ saved_at r) × (onto_save r ≡ s)
      go never q z = let y : ◌≡◌ {A = ℕ} 0 1 = cc in absurd (omega arith)
      go (saved_at r) q z = (r, q, cc)

-- ---- one call

module _ (n : ℕ) (low : 1 ≤ n) (few : n ≤ 16) (w : RunState Network) (sane : SaneRun n low few w) where
  abbrev p : Network
  p = w.now

  abbrev t : Tables
  t = tables_of n w.now

  -- it leaves on tables what it leaves by the meaning
  abbrev Onto : Call → Type 0
  Onto c = then (onto n w) c ≡ onto n (act (by_meaning n) w c)

  pub own_back : load n (tables_of n w.now) ≡ w.now
  own_back = load-back n p (storable n p sane.good.fits)

  pub event-is : (m : ℕ) (e : Event) → step_on m e (tables_of n w.now)
      ≡ outcome ((by_meaning n).stepped m e w.now).said (tables_of n ((by_meaning n).stepped m e w.now).after)
  unfolding advance
  event-is m e = one-call n low few (state_of w) sane.good (record { size = m; event = e }) ∙ go (choice (eqb m n))
    where
      go : Choice (eqb m n)
          → outcome (said_to n (state_of w) (record { size = m; event = e })) (tables_of n (called n (state_of w) (record { size = m; event = e })).network)
          ≡ outcome ((by_meaning n).stepped m e p).said (tables_of n ((by_meaning n).stepped m e p).after)
      go (yes! i) = rw i
      go (no! i) = rw i

  -- what is read off the tables left is the network left, so the history takes the same clock
  onto-entered : (m : ℕ) (e : Event)
      → stepped_to (on_tables.clock m) (onto n w) e (outcome ((by_meaning n).stepped m e p).said (tables_of n ((by_meaning n).stepped m e p).after))
      ≡ onto n (act (by_meaning n) w (event m e))
  unfolding advance
  onto-entered m e = go (equal? m n)
    where
      go : SameOrNot m n
          → stepped_to (on_tables.clock m) (onto n w) e (outcome ((by_meaning n).stepped m e p).said (tables_of n ((by_meaning n).stepped m e p).after))
          ≡ onto n (act (by_meaning n) w (event m e))
      go (inl q) = rw (q, eq-eqb n n refl, load-back n (next n p e) (storable n (next n p e) (good-advance n (state_of w) e sane.good).fits))
      go (inr d) = rw (ne_eqb m n d)

  onto-event : (m : ℕ) (e : Event) → Onto (event m e)
  onto-event m e = ap (λ (o : Outcome Said Tables). stepped_to (on_tables.clock m) (onto n w) e o) (event-is m e) ∙ onto-entered m e

  -- the tables pass the check
  pub passing : check_on n (tables_of n w.now) ≡ why 0 0 0
  passing =
      let g = sane.good in
      sound-check n p (storable n p g.fits) (sound-holds n p g.fits) (timely-holds n p g.timed) low few

  pub save-is : (m : ℕ) (out : List ℕ) → save_on m (tables_of n w.now) out ≡ save_meant n m out w.now
  unfolding save_on put_checked save_meant
  save-is m out = go (equal? m n)
    where
      go : SameOrNot m n → save_on m t out ≡ save_meant n m out p
      go (inl q) = rw (q, eq-eqb n n refl, passing, own_back)
      go (inr d) = rw (ne_eqb m n d, ← check-sizes m t (not-sized n low few (state_of w) sane.good m d))

  keep-onto : (o : Outcome ℕ (List ℕ)) → saved_to (onto n w) o ≡ onto n (saved_to w o)
  keep-onto o = go (choice (eqb o.said 0))
    where
      go : Choice (eqb o.said 0) → saved_to (onto n w) o ≡ onto n (saved_to w o)
      go (yes! i) = rw i
      go (no! i) = rw i

  onto-save : (m : ℕ) (out : List ℕ) → Onto (save m out)
  onto-save m out = ap (λ (o : Outcome (Answered ℕ) (List ℕ)). saved_to (onto n w) (writing o)) (save-is m out) ∙ keep-onto (writing (save_meant n m out p))

  -- a restore of an earlier save's bytes says 0 and leaves the tables of the network at that save
  pub restore-is : (b : List ℕ) (s : Saved Network) → last_save b w.saves ≡ saved_at s
      → restore_on b (tables_of n w.now) ≡ record { said = why 0 0 0; after = tables_of n s.at }
  restore-is b s e =
      let f = found (Imaged _ _ n (ImageOf n) (writes n low few) (reads n low few) (kept n low few)) b w.saves sane.saves s e in
      let g = f.1.good in
      restore-of n low few s.at b (sound-holds n s.at g.fits) (restrict-is n s.at g.fits) (timely-holds n s.at g.timed)
      (sym f.0 ∙ f.1.image) p

  onto-saved : (b : List ℕ) (s : Saved Network) → last_save b w.saves ≡ saved_at s → Onto (restore b)
  unfolding restore_meant
  onto-saved b s e =
      let f = found (Imaged _ _ n (ImageOf n) (writes n low few) (reads n low few) (kept n low few)) b w.saves sane.saves s e in
      rw (restore-is b s e, last-onto n b w.saves, e, load-back n s.at (storable n s.at f.1.good.fits))

  onto-refused : (b : List ℕ) → ((restore_on b (tables_of n w.now)).said.number ≡ 0 → ⊥) → Onto (restore b)
  unfolding restore_meant
  onto-refused b d =
      rw (ne_eqb (restore_on b t).said.number 0 d, restore-kept b t d, own_back)

  pub onto-call : (c : Call) → Fair (by_meaning n) w c → Onto c
  onto-call c (fair_event m e) = onto-event m e
  onto-call c (fair_save m out) = onto-save m out
  onto-call c (fair_saved b s e) = onto-saved b s e
  onto-call c (fair_refused b d) = onto-refused b (unfold restore_meant in d)

  -- what is fair on tables is fair by the meaning
  pub fair-from : (c : Call) → Fair on_tables (onto n w) c → Fair (by_meaning n) w c
  unfolding restore_meant
  fair-from c (fair_event m e) = fair_event m e
  fair-from c (fair_save m out) = fair_save m out
  fair-from c (fair_saved b s e) = let r = last-from n b w.saves s e in fair_saved b r.0 r.1
  fair-from c (fair_refused b d) = fair_refused b d

-- ---- lists of calls

module _ (n : ℕ) (low : 1 ≤ n) (few : n ≤ 16) where
  pub record Simulated (w : RunState Network) (cs : List Call) : Type 0 where
    pub run_is : perform on_tables (onto n w) cs ≡ onto n (perform (by_meaning n) w cs)
    pub sane : SaneRun n low few (perform (by_meaning n) w cs)

  pub call-sane : (w : RunState Network) (c : Call) → SaneRun n low few w → Fair (by_meaning n) w c → SaneRun n low few (act (by_meaning n) w c)
  call-sane w c sane f = act-sane _ _ n (ImageOf n) (writes n low few) (reads n low few) (kept n low few) w c sane f

  -- calls that are fair on tables stay so behind the first of them, by the meaning
  pub onward : (w : RunState Network) → SaneRun n low few w → (c : Call) (cs : List Call) → AllFair on_tables (onto n w) (c ∷ cs)
      → AllFair on_tables (onto n (act (by_meaning n) w c)) cs
  onward w sane c cs fs =
      subst (λ (v : RunState Tables). AllFair on_tables v cs)
      (onto-call n low few w sane c (fair-from n low few w sane c (fair-head on_tables (onto n w) c cs fs)))
      (fair-tail on_tables (onto n w) c cs fs)

  pub simulated : (w : RunState Network) (cs : List Call) → SaneRun n low few w → AllFair on_tables (onto n w) cs → Simulated w cs
  simulated w [] sane fs = record { run_is = refl; sane = sane }
  simulated w (c ∷ cs) sane fs =
      let f = fair-from n low few w sane c (fair-head on_tables (onto n w) c cs fs) in
      let more = simulated (act (by_meaning n) w c) cs (call-sane w c sane f) (onward w sane c cs fs) in
      record {
        run_is = ap (λ (v : RunState Tables). perform on_tables v cs) (onto-call n low few w sane c f) ∙ more.run_is;
        sane = more.sane;
      }

  pub fresh-sane : SaneRun n low few (start_of_run fresh)
  fresh-sane = start-sane _ _ n (ImageOf n) (writes n low few) (reads n low few) (kept n low few)

  -- from fresh tables
  pub from-fresh : (cs : List Call) → Allowed n cs → Simulated (start_of_run fresh) cs
  from-fresh cs allowed = simulated (start_of_run fresh) cs fresh-sane allowed
