-- An event on any tables, by what the check of the tables answers: refusal 1, refusal 2 or 18 with its pair, or on to `step_at` on tables that fit.
use Prim.Native.Nat.{ℕ}
use mathlib.Core.Path.{◌≡◌, sym, ap, ◌∙◌}
use Rattle.std.specs.Prelude.{Result, Ok, Err, ⊤}
use Rattle.lent.specs.Check.{said_check, check_on}
use Rattle.lent.proofs.SoundTables.{Words, sound-fits}
use Rattle.protocol.specs.Answer.{said_refused}
use Rattle.protocol.specs.Step.{Event}
use Rattle.refusal.specs.Outcome.{outcome}
use Rattle.refusal.specs.Refusal.{why_of}
use Rattle.refusal.specs.declared.Refusal.{Refusal}
use Rattle.refusal.specs.declared.Why.{Why}
use Rattle.refusal.proofs.RefusalLaws.{never-0}
use Rattle.tables.specs.Tables.{Tables}
use Rattle.tables.specs.inner.Fit.{TablesFit}
use Rattle.election.specs.StepOn.{step_at, step_checked, step_on}

module _ (n : ℕ) (t : Tables) {r : Result ⊤ Refusal} (answers : said_check r ≡ check_on n t) where
  pub checked-fits : r ≡ Ok tt → Words t → TablesFit n t
  checked-fits h words = sound-fits n t words (ap (λ (s : Why). s.number) (sym answers ∙ ap said_check h))

  module _ (e : Event) where
    step_by : {x : Result ⊤ Refusal} → r ≡ x → step_checked n e t (said_check x) ≡ step_on n e t
    unfolding step_on
    step_by h = ap (step_checked n e t) (ap said_check (sym h) ∙ answers)

    pub checked_refused : {why : Refusal} → r ≡ Err why → outcome (said_refused (why_of why)) t ≡ step_on n e t
    unfolding step_checked
    checked_refused {why} h = rw (never-0 why) at (step_by h)

    pub checked-sound : r ≡ Ok tt → step_at n e t ≡ step_on n e t
    unfolding step_checked
    checked-sound h = step_by h
