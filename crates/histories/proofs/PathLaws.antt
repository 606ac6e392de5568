-- One candidate and whole paths on tables: what the meaning leaves.
-- Assumes 1 to 16 nodes.
use Prim.Native.Nat.{ℕ, zero, suc, ◌-◌, ◌/◌, ◌%◌, ◌≤◌}
use native.Mathlib.Omega.{arith}
use mathlib.Core.Bool.{Bool}
use Rattle.std.proofs.Common.{Ok, Err}
use Rattle.std.specs.Result.{is_ok}
use mathlib.Core.List.{List, [], ◌∷◌, ◌++◌}
use mathlib.Core.Path.{◌≡◌, refl, sym, ap, ◌∙◌}
use lib.Dec.{eqb}
use Rattle.basics.specs.Functions.{after_all}
use Rattle.election.specs.StepOn.{step_on}
use Rattle.refusal.specs.Outcome.{Outcome, outcome}
use Rattle.election.proofs.RunLaws.{own-call}
use Rattle.protocol.specs.Answer.{Answer, Said, said, said_rule}
use Rattle.protocol.specs.declared.Rule.{Rule}
use Rattle.protocol.proofs.Said.{rule-said}
use Rattle.refusal.proofs.RefusalLaws.{never-0}
use Rattle.calls.specs.History.{State, started, advance, grown}
use Rattle.protocol.specs.Network.{fresh}
use Rattle.protocol.specs.Refusal.{answer, next}
use Rattle.protocol.specs.Step.{Event}
use Rattle.calls.proofs.Good.{good-grown}
use Rattle.tables.specs.Load.{tables_of}
use Rattle.tables.specs.Tables.{Tables}
use Rattle.histories.specs.inner.Walk.{event_at, path_events, reached_by}

-- what is carried out says 0, and no reason does
rule-0 : (r : Rule) (set : ℕ) → (said_rule r set).why.number ≡ 0
rule-0 r set = ap (λ (s : Said). s.why.number) (rule-said r set)

pub ok-number : (a : Answer) → is_ok a ≡ eqb (said a).why.number 0
ok-number (Ok d) = rw (rule-0 d.rule d.sent_to) refl
ok-number (Err r) = sym (never-0 r)

pub stepped : (n c : ℕ) (t : Tables) (a : Answer) {e : Event} {u : Tables} {b : Bool} → event_at c ≡ e → outcome (said a) u ≡ step_on n e t → b ≡ is_ok a
    → (b ≡ eqb (step_on n (event_at c) t).said.why.number 0) × (u ≡ (step_on n (event_at c) t).after)
stepped n c t a i q m =
    let o = q ∙ ap (λ (f : Event). step_on n f t) (sym i) in
    (m ∙ ok-number a ∙ ap (λ (o : Outcome Said Tables). eqb o.said.why.number 0) o, ap (λ (o : Outcome Said Tables). o.after) o)

-- ---- paths

advanced-last : (n : ℕ) (s : State) (es : List Event) (e : Event)
    → after_all (advance n) s (es ++ (e ∷ [])) ≡ advance n (after_all (advance n) s es) e
advanced-last n s [] e = refl
advanced-last n s (f ∷ es) e = advanced-last n (advance n s f) es e

pub grown-last : (n : ℕ) (es : List Event) (e : Event) → (grown n (es ++ (e ∷ []))).network ≡ next n (grown n es).network e
unfolding advance
grown-last n es e = ap (λ (s : State). s.network) (advanced-last n started es e)

-- the tables of what a path reaches, after one event more
pub call-reached : (n d x : ℕ) → 1 ≤ n → n ≤ 16 → (e : Event)
    → step_on n e (tables_of n (reached_by n d x)) ≡ outcome (answer n (reached_by n d x) e) (tables_of n (next n (reached_by n d x) e))
unfolding reached_by
call-reached n d x low few e = own-call n low few (grown n (path_events d x)) (good-grown n (path_events d x)) e

reached-suc : (n d x : ℕ) → reached_by n (suc d) x ≡ next n (reached_by n d (x / 27)) (event_at (x % 27))
unfolding reached_by path_events
reached-suc n d x = grown-last n (path_events d (x / 27)) (event_at (x % 27))

pub reached-none : (n d x : ℕ) → d ≡ 0 → fresh ≡ reached_by n d x
unfolding reached_by path_events
reached-none n zero x e = refl
reached-none n (suc d) x e = absurd (omega arith)

pub reached-more : (n d x : ℕ) → (d ≡ 0 → ⊥) → reached_by n d x ≡ next n (reached_by n (d - 1) (x / 27)) (event_at (x % 27))
reached-more n zero x h = absurd (h refl)
reached-more n (suc d) x h = reached-suc n d x ∙ ap (λ (k : ℕ). next n (reached_by n k (x / 27)) (event_at (x % 27))) (let e : d ≡ suc d - 1 = omega arith in e)

pub replay-none : (n d x : ℕ) → d ≡ 0 → (u : Tables) → u ≡ tables_of n fresh → u ≡ tables_of n (reached_by n d x)
replay-none n d x e u i = i ∙ ap (tables_of n) (reached-none n d x e)

pub replay-more : (n d x : ℕ) → 1 ≤ n → n ≤ 16 → (d ≡ 0 → ⊥) → (t u : Tables) → t ≡ tables_of n (reached_by n (d - 1) (x / 27))
    → u ≡ (step_on n (event_at (x % 27)) t).after → u ≡ tables_of n (reached_by n d x)
replay-more n d x low few h t u e i =
    i ∙ ap (λ (s : Tables). (step_on n (event_at (x % 27)) s).after) e
    ∙ ap (λ (o : Outcome Said Tables). o.after) (call-reached n (d - 1) (x / 27) low few (event_at (x % 27)))
    ∙ ap (tables_of n) (sym (reached-more n d x h))
