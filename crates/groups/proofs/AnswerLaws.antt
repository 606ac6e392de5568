-- What the check answered, carried on: refusals 1, 2 and 18, or tables that pass.
use Prim.Native.Nat.{ℕ}
use mathlib.Core.Bool.{Bool, cond}
use mathlib.Core.Path.{◌≡◌, sym, ap, ◌∙◌}
use Rattle.std.specs.Prelude.{Result, Ok, Err, ⊤}
use Rattle.lent.specs.Check.{said_check, check_on}
use Rattle.refusal.specs.Outcome.{Answered, refused_with, after_check}
use Rattle.refusal.specs.Refusal.{why_of}
use Rattle.refusal.specs.declared.Refusal.{Refusal}
use Rattle.refusal.specs.declared.Why.{Why}
use Rattle.refusal.proofs.RefusalLaws.{never-0}
use Rattle.tables.specs.Tables.{Tables}

module _ (n : ℕ) (t : Tables) {r : Result ⊤ Refusal} (e : said_check r ≡ check_on n t) where
  pub checked_refused : {A : Type 0} (none : A) (x : Answered A) {why : Refusal} → r ≡ Err why
      → refused_with none (why_of why) ≡ after_check none (check_on n t) x
  checked_refused none x {why} q =
      sym (ap (λ (b : Bool). cond b x (refused_with none (why_of why))) (never-0 why))
      ∙ ap (λ (s : Why). after_check none s x) (ap said_check (sym q) ∙ e)

  pub checked-sound : {A : Type 0} (none : A) (x : Answered A) → r ≡ Ok tt → x ≡ after_check none (check_on n t) x
  checked-sound none x q = ap (λ (s : Why). after_check none s x) (ap said_check (sym q) ∙ e)
