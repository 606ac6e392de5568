-- The order of an event's refusals on sound tables: each test that fails gives its number and leaves the tables; the last case is carried out.
-- Assumes that the tables fit.
use Prim.Native.Nat.{ℕ, suc, max, ◌≤◌}
use native.Mathlib.Omega.{arith}
use mathlib.Core.Bool.{true, false}
use mathlib.Core.Path.{◌≡◌, sym, ap, ◌∙◌}
use lib.Dec.{eqb, ltb}
use borrow.Author.Tests.{ne_eqb, ltb-true, ltb-false}
use Rattle.std.specs.Prelude.{Ok, Err}
use Rattle.basics.proofs.Tests.{Choice, yes!, no!, choice, clash}
use Rattle.height.specs.Clock.{last_time, said_moved, clock_after}
use Rattle.height.specs.declared.Time.{Time}
use Rattle.height.proofs.Moves.{clock-moved, clock-moves, clock-ends}
use Rattle.nodeset.specs.NodeSet.{set_of}
use Rattle.protocol.specs.Answer.{said_rule, said_refused}
use Rattle.protocol.specs.Refusal.{misnamed, unfit, unfit_number, late, too_deep, crowded, returned, accepts, answer, next}
use Rattle.protocol.specs.Step.{Event, home, Local, local, cleared, commit, step}
use Rattle.refusal.specs.Outcome.{outcome, Answered}
use Rattle.refusal.specs.Refusal.{why, why_of}
use Rattle.refusal.specs.declared.Refusal.{Refusal}
use Rattle.refusal.proofs.RefusalLaws.{never-0}
use Rattle.tables.specs.Load.{load, tables_of}
use Rattle.tables.specs.Tables.{Tables}
use Rattle.tables.specs.inner.Fit.{TablesFit}
use Rattle.tables.proofs.TablesLaws.{tables-back}
use Rattle.election.specs.StepOn.{step_at}

module _ (n : ℕ) (t : Tables) (fit : TablesFit n t) (e : Event) where
  -- a refused event leaves the tables
  refused-step : (k : ℕ) → returned n (load n t) e ≡ suc k → outcome (said_refused (why (suc k) 0 0)) t ≡ step_at n e t
  unfolding step_at answer next accepts
  refused-step k r = rw (r, ne_eqb (suc k) 0 (λ q. omega arith), tables-back n t fit)

  pub step-misnamed : misnamed n e ≡ true → outcome (said_refused (why 3 0 0)) t ≡ step_at n e t
  step-misnamed h = refused-step 2 (unfold returned in rw h)

  module _ (named : misnamed n e ≡ false) where
    pub step-unfit : (k : ℕ) → unfit_number e ≡ suc k → unfit (load n t) e ≡ true → outcome (said_refused (why (suc k) 0 0)) t ≡ step_at n e t
    step-unfit k q h = refused-step k (unfold returned in rw (named, h) q)

    -- l: what the event leaves at its node
    module _ (fits : unfit (load n t) e ≡ false) (l : Local) (leaves : local n (load n t) e ≡ l) where
      pub step-late : late l ≡ true → outcome (said_refused (why 7 0 0)) t ≡ step_at n e t
      step-late h = refused-step 6 (unfold returned in rw (named, fits, leaves, h))

      module _ (intime : late l ≡ false) where
        pub step-deep : too_deep l.rule (l.row (home e)).delta ≡ true → outcome (said_refused (why 8 0 0)) t ≡ step_at n e t
        step-deep h = refused-step 7 (unfold returned in rw (named, fits, leaves, intime, h))

        module _ (shallow : too_deep l.rule (l.row (home e)).delta ≡ false) where
          pub step-full : crowded n l (cleared (load n t) e (home e)) ≡ true → outcome (said_refused (why 9 0 0)) t ≡ step_at n e t
          step-full h = refused-step 8 (unfold returned in rw (named, fits, leaves, intime, shallow, h))

          pub step-done : crowded n l (cleared (load n t) e (home e)) ≡ false
              → outcome (said_rule l.rule (set_of n l.sent)) (tables_of n (commit (load n t) (home e) l (cleared (load n t) e))) ≡ step_at n e t
          unfolding step_at answer next accepts step
          step-done h =
              let r : returned n (load n t) e ≡ 0 = unfold returned in rw (named, fits, leaves, intime, shallow, h) in rw (r, leaves)

-- ---- the moved clock, as `Time::after` answers it

pub moved_to : (c s : ℕ) (t : Time) → said_moved (Ok t) ≡ clock_after c s → (t.0 ≡ suc (max c s)) × (suc (max c s) ≤ last_time)
moved_to c s t e =
    let q = clock-moved c s (sym (ap (λ (m : Answered ℕ). m.why.number) e)) in
    (ap (λ (m : Answered ℕ). m.value) e ∙ q.1, q.0)

pub moved-end : (c s : ℕ) (r : Refusal) → said_moved (Err r) ≡ clock_after c s → (last_time ≤ max c s) × (why_of r ≡ why 7 0 0)
moved-end c s r e = go (choice (ltb (max c s) last_time))
  where
    go : Choice (ltb (max c s) last_time) → (last_time ≤ max c s) × (why_of r ≡ why 7 0 0)
    go (no! h) =
        let over : last_time ≤ max c s = ltb-false (max c s) last_time h in
        (over, ap (λ (m : Answered ℕ). m.why) (e ∙ clock-ends c s over))
    go (yes! h) =
        clash (ap (λ (m : Answered ℕ). eqb m.why.number 0) (e ∙ clock-moves c s (ltb-true (max c s) last_time h))) (never-0 r)
