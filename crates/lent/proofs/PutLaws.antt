-- Bytes made of lent tables, by what the check of them answers: its refusal, or the bytes to the front.
use Prim.Native.Nat.{ℕ}
use mathlib.Core.List.{List}
use mathlib.Core.Path.{◌≡◌, sym, ap, ◌∙◌}
use Rattle.refusal.specs.Outcome.{outcome, put_front, put_checked, refused_with}
use Rattle.refusal.specs.Refusal.{why_of}
use Rattle.refusal.specs.declared.Refusal.{Refusal}
use Rattle.refusal.specs.declared.Why.{Why}
use Rattle.refusal.proofs.OutcomeLaws.{put-passed, put_refused}
use Rattle.tables.specs.Tables.{Tables}
use Rattle.lent.specs.Check.{said_check, check_on}
use Rattle.std.specs.Prelude.{Result, Ok, Err, ⊤}

module _ (n : ℕ) (t : Tables) {r : Result ⊤ Refusal} (answers : said_check r ≡ check_on n t) where
  pub passes : r ≡ Ok tt → (check_on n t).number ≡ 0
  passes h = ap (λ (s : Why). s.number) (sym answers ∙ ap said_check h)

  module _ (b out : List ℕ) where
    pub put-sound : r ≡ Ok tt → put_front b out ≡ put_checked (check_on n t) b out
    put-sound h = put-passed b out (check_on n t) (passes h)

    pub put-turned-away : {why : Refusal} → r ≡ Err why → outcome (refused_with 0 (why_of why)) out ≡ put_checked (check_on n t) b out
    put-turned-away {why} h = put_refused b out (check_on n t) why (ap said_check (sym h) ∙ answers)
