-- What is found behind a path, candidate by candidate.
-- Assumes 1 to 3 nodes.
use Prim.Native.Nat.{ℕ, zero, suc, ◌+◌, ◌-◌, ◌*◌, ◌/◌, ◌%◌, ◌^◌, ◌≤◌, ◌<◌}
use native.Mathlib.Nat.{add-zero, pos_of_ne-zero}
use native.Mathlib.Numerals.{add-one}
use native.Mathlib.Omega.{arith}
use mathlib.Core.Bool.{Bool, true, false, cond}
use mathlib.Core.List.{List, [], ◌∷◌, ◌++◌, map, append_assoc, append-nil}
use mathlib.Core.Path.{◌≡◌, refl, sym, ap, ap₂, subst, ◌∙◌}
use lib.Dec.{eqb}
use lib.ListN.{length, length-append}
use Rattle.text.proofs.PourLaws.{Poured, both, then}
use Rattle.election.specs.StepOn.{step_on}
use Rattle.refusal.specs.Outcome.{Outcome, outcome}
use Rattle.calls.specs.History.{grown}
use Rattle.calls.proofs.Good.{answer-number}
use Rattle.protocol.specs.Network.{Network, fresh}
use Rattle.protocol.specs.Refusal.{misnamed, returned, accepts, answer, next}
use Rattle.protocol.specs.Step.{Event, step}
use Rattle.protocol.specs.Answer.{Said}
use Rattle.tables.specs.Load.{tables_of}
use Rattle.tables.specs.Tables.{Tables}
use Rattle.tables.specs.inner.Fit.{Sized}
use Rattle.tables.proofs.Back.{tables-sized}
use Rattle.text.specs.Text.{in_turn}
use Rattle.text.specs.inner.Poured.{poured}
use Rattle.text.proofs.TextLaws.{length-poured}
use Rattle.enumeration.specs.Histories.{pairs_of, candidates, begun_with, begun, histories}
use Rattle.enumeration.specs.Texts.{input_text, list_text}
use Rattle.histories.specs.inner.Walk.{event_at, path_events, reached_by, behind_text, text_from, branch_text, codes_from, turns_text, Exploring, Branching}
use Rattle.histories.proofs.PathLaws.{grown-last, call-reached, reached-none}

-- ---- texts

pub behind-append : (n : ℕ) (es : List Event) (a b : List (List Event)) → behind_text n es (a ++ b) ≡ behind_text n es a ++ behind_text n es b
unfolding behind_text
behind-append n es [] b = refl
behind-append n es (h ∷ a) b =
    ap (λ (t : List ℕ). input_text n (es ++ h) ++ t) (behind-append n es a b) ∙ sym (append_assoc (input_text n (es ++ h)) (behind_text n es a) (behind_text n es b))

behind-map : (n : ℕ) (es : List Event) (e : Event) (hs : List (List Event)) → behind_text n es (map (λ h. e ∷ h) hs) ≡ behind_text n (es ++ (e ∷ [])) hs
unfolding behind_text
behind-map n es e [] = refl
behind-map n es e (h ∷ hs) =
    ap₂ (λ (a b : List ℕ). a ++ b) (ap (input_text n) (sym (append_assoc es (e ∷ []) h))) (behind-map n es e hs)

pub behind-none : (n : ℕ) (hs : List (List Event)) → behind_text n [] hs ≡ list_text n hs
unfolding behind_text list_text
behind-none n [] = refl
behind-none n (h ∷ hs) = ap (λ (t : List ℕ). input_text n h ++ t) (behind-none n hs)

-- the whole list
pub text-whole : (n k : ℕ) → text_from n k 0 0 ≡ list_text n (histories n k fresh)
unfolding text_from path_events
text-whole n k = behind-none n (histories n k (reached_by n 0 0)) ∙ ap (λ (p : Network). list_text n (histories n k p)) (sym (reached-none n 0 0 refl))

-- nothing left: the path itself
pub text-end : (n left d x : ℕ) → left ≡ 0 → input_text n (path_events d x) ≡ text_from n left d x
unfolding text_from histories behind_text
text-end n zero d x e = sym (append-nil (input_text n (path_events d x ++ [])) ∙ ap (input_text n) (append-nil (path_events d x)))
text-end n (suc left) d x e = absurd (omega arith)

-- ---- candidates by their codes: for fewer than three nodes the others are refused

pub three : (rest : Network → List (List Event)) (n : ℕ) (p : Network) → 1 ≤ n → n ≤ 3 → begun rest n p (candidates n) ≡ begun rest n p (codes_from 27 0)
unfolding begun candidates pairs_of in_turn codes_from event_at accepts returned misnamed
three rest zero p l h = absurd (omega arith)
three rest (suc zero) p l h = refl
three rest (suc (suc zero)) p l h = refl
three rest (suc (suc (suc zero))) p l h = refl
three rest (suc (suc (suc (suc n)))) p l h = absurd (omega arith)

pub turns-start : (n left d x : ℕ) → 1 ≤ n → n ≤ 3 → (left ≡ 0 → ⊥) → text_from n left d x ≡ turns_text n (left - 1) d x 0
unfolding text_from turns_text histories
turns-start n zero d x low few h = absurd (h refl)
turns-start n (suc left) d x low few h =
    ap (behind_text n (path_events d x)) (three (histories n left) n (reached_by n d x) low few)
    ∙ ap (λ (k : ℕ). behind_text n (path_events d x) (begun (histories n k) n (reached_by n d x) (codes_from 27 0))) (let e : left ≡ suc left - 1 = omega arith in e)

codes-next : (c : ℕ) → c < 27 → codes_from (27 - c) c ≡ event_at c ∷ codes_from (27 - (c + 1)) (c + 1)
unfolding codes_from
codes-next c h =
    let e : 27 - c ≡ suc (27 - (c + 1)) = omega arith in
    ap (λ (m : ℕ). codes_from m c) e ∙ ap (λ (m : ℕ). event_at c ∷ codes_from (27 - (c + 1)) m) (sym (add-one c))

pub turns_next : (n left d x c : ℕ) → c < 27 → turns_text n left d x c ≡ branch_text n left d x c ++ turns_text n left d x (c + 1)
unfolding turns_text branch_text begun
turns_next n left d x c h =
    ap (λ (l : List Event). behind_text n (path_events d x) (begun (histories n left) n (reached_by n d x) l)) (codes-next c h)
    ∙ behind-append n (path_events d x) (begun_with (histories n left) n (reached_by n d x) (event_at c))
    (begun (histories n left) n (reached_by n d x) (codes_from (27 - (c + 1)) (c + 1)))

pub turns-end : (n left d x c : ℕ) → 27 ≤ c → turns_text n left d x c ≡ []
unfolding turns_text codes_from begun behind_text
turns-end n left d x c h =
    let e : 27 - c ≡ 0 = omega arith in
    ap (λ (m : ℕ). behind_text n (path_events d x) (begun (histories n left) n (reached_by n d x) (codes_from m c))) e

-- ---- one candidate

path-next : (d x c : ℕ) → c < 27 → path_events (d + 1) (27 * x + c) ≡ path_events d x ++ (event_at c ∷ [])
unfolding path_events
path-next d x c h =
    let q : (27 * x + c) / 27 ≡ x = omega arith in
    let r : (27 * x + c) % 27 ≡ c = omega arith in
    ap (λ (k : ℕ). path_events k (27 * x + c)) (add-one d) ∙ ap₂ (λ (a b : ℕ). path_events d a ++ (event_at b ∷ [])) q r

pub reached-next : (n d x c : ℕ) → c < 27 → reached_by n (d + 1) (27 * x + c) ≡ next n (reached_by n d x) (event_at c)
unfolding reached_by
reached-next n d x c h = ap (λ (es : List Event). (grown n es).network) (path-next d x c h) ∙ grown-last n (path_events d x) (event_at c)

pub branch-accepted : (n left d x c : ℕ) → c < 27 → accepts n (reached_by n d x) (event_at c) ≡ true
    → text_from n left (d + 1) (27 * x + c) ≡ branch_text n left d x c
unfolding text_from branch_text
branch-accepted n left d x c h i =
    ap₂ (λ (es : List Event) (p : Network). behind_text n es (histories n left p)) (path-next d x c h) (reached-next n d x c h)
    ∙ sym (behind-map n (path_events d x) (event_at c) (histories n left (next n (reached_by n d x) (event_at c))))
    ∙ ap (λ (b : Bool). behind_text n (path_events d x) (cond b (map (λ h. event_at c ∷ h) (histories n left (next n (reached_by n d x) (event_at c)))) [])) (sym i)

pub branch-refused : (n left d x c : ℕ) → accepts n (reached_by n d x) (event_at c) ≡ false → branch_text n left d x c ≡ []
unfolding branch_text behind_text
branch-refused n left d x c i = rw i

-- ---- the call on tables tells whether it is accepted

module _ (n d x c : ℕ) (low : 1 ≤ n) (few : n ≤ 16) (t u : Tables) (b : Bool) (start : t ≡ tables_of n (reached_by n d x))
    (told : b ≡ eqb (step_on n (event_at c) t).said.why.number 0) (after : u ≡ (step_on n (event_at c) t).after) where
  call : step_on n (event_at c) t ≡ outcome (answer n (reached_by n d x) (event_at c)) (tables_of n (next n (reached_by n d x) (event_at c)))
  call = ap (step_on n (event_at c)) start ∙ call-reached n d x low few (event_at c)

  pub told-accepts : b ≡ accepts n (reached_by n d x) (event_at c)
  unfolding accepts
  told-accepts = told ∙ ap (λ (o : Outcome Said Tables). eqb o.said.why.number 0) call ∙ ap (λ (k : ℕ). eqb k 0) (answer-number n (reached_by n d x) (event_at c))

  pub after_next : u ≡ tables_of n (next n (reached_by n d x) (event_at c))
  after_next = after ∙ ap (λ (o : Outcome Said Tables). o.after) call

  pub after-refused : b ≡ false → u ≡ t
  unfolding next
  after-refused i =
      after_next ∙ ap (λ (a : Bool). tables_of n (cond a (step n (reached_by n d x) (event_at c)) (reached_by n d x))) (sym told-accepts ∙ i) ∙ sym start

  pub after-reached : c < 27 → u ≡ tables_of n (reached_by n (d + 1) (27 * x + c))
  after-reached h = after_next ∙ ap (tables_of n) (sym (reached-next n d x c h))

-- ---- numbers of paths

pub small : (d x : ℕ) → d < 5 → x < 27 ^ d → x < 531441
small zero x h i = omega (arith, i)
small (suc zero) x h i = omega (arith, i)
small (suc (suc zero)) x h i = omega (arith, i)
small (suc (suc (suc zero))) x h i = omega (arith, i)
small (suc (suc (suc (suc zero)))) x h i = omega (arith, i)
small (suc (suc (suc (suc (suc d))))) x h i = absurd (omega arith)

pub longer : (d x c : ℕ) → x < 27 ^ d → c < 27 → 27 * x + c < 27 ^ (d + 1)
longer d x c h i =
    let e : 27 ^ (d + 1) ≡ 27 ^ suc d = ap (λ (k : ℕ). 27 ^ k) (add-one d) in
    omega (arith, e, h, i)

-- ---- branch: refused, or explored and gone back

module _ {n left d x c : ℕ} {t : Tables} {at : ℕ} (h : Branching n left d x c t at) {u : Tables} {b : Bool}
    (told : b ≡ eqb (step_on n (event_at c) t).said.why.number 0) (after : u ≡ (step_on n (event_at c) t).after) where
  few16 : n ≤ 16
  few16 = omega (arith, h.few)

  pub refused-done : b ≡ false → (out : List ℕ)
      → (out ≡ poured out at (branch_text n left d x c)) × (at ≡ at + length (branch_text n left d x c)) × (u ≡ t)
  unfolding poured
  refused-done i out =
      let none = branch-refused n left d x c (sym (told-accepts n d x c h.low few16 t u b h.start told after) ∙ i) in
      let e : at ≡ at + length (branch_text n left d x c) = sym (ap (λ (l : List ℕ). at + length l) none ∙ add-zero at) in
      (sym (ap (poured out at) none), e, after-refused n d x c h.low few16 t u b h.start told after i)

  is-text : b ≡ true → text_from n left (d + 1) (27 * x + c) ≡ branch_text n left d x c
  is-text i = branch-accepted n left d x c h.code (sym (told-accepts n d x c h.low few16 t u b h.start told after) ∙ i)

  pub explored : b ≡ true → Exploring n left (d + 1) (27 * x + c) u at
  explored i = record {
    low = h.low;
    few = h.few;
    short = omega (arith, h.short);
    path = longer d x c h.path h.code;
    start = after-reached n d x c h.low few16 t u b h.start told after h.code;
    room = let e = ap length (is-text i) in omega (arith, e, h.room);
  }

  pub explored-sized : {v : Tables} → v ≡ u → Sized n v
  explored-sized e =
      let s = tables-sized n (next n (reached_by n d x) (event_at c)) h.low few16 in
      let q = e ∙ after_next n d x c h.low few16 t u b h.start told after in
      subst (Sized n) (sym q) s

  pub accepted-done : b ≡ true → (out : List ℕ) {o : List ℕ} {r : ℕ} {w : Tables}
      → o ≡ poured out at (text_from n left (d + 1) (27 * x + c)) → r ≡ at + length (text_from n left (d + 1) (27 * x + c))
      → w ≡ tables_of n (reached_by n d x)
      → (o ≡ poured out at (branch_text n left d x c)) × (r ≡ at + length (branch_text n left d x c)) × (w ≡ t)
  accepted-done i out p q e =
      (p ∙ ap (poured out at) (is-text i), q ∙ ap (λ (l : List ℕ). at + length l) (is-text i), e ∙ sym h.start)

-- ---- explore: nothing left

module _ {n left d x : ℕ} {t : Tables} {at : ℕ} (h : Exploring n left d x t at) where
  pub end-room : left ≡ 0 → at + length (input_text n (path_events d x)) < 2 ^ 30
  end-room e = let i = ap length (text-end n left d x e) in omega (arith, i, h.room)

  pub end-done : left ≡ 0 → (out : List ℕ) {o : List ℕ} {r : ℕ} → o ≡ poured out at (input_text n (path_events d x))
      → r ≡ at + length (input_text n (path_events d x))
      → (o ≡ poured out at (text_from n left d x)) × (r ≡ at + length (text_from n left d x)) × (t ≡ t)
  end-done e out p q =
      (p ∙ ap (poured out at) (text-end n left d x e), q ∙ ap (λ (l : List ℕ). at + length l) (text-end n left d x e), refl)

-- ---- explore: candidate after candidate

pub record Turning (n left d x : ℕ) (t₀ : Tables) (out₀ : List ℕ) (at : ℕ) (t : Tables) (out : List ℕ) (c place : ℕ) : Type 0 where
  pub so_far : List ℕ
  pub done : Poured out₀ at so_far out place
  pub whole : text_from n left d x ≡ so_far ++ turns_text n (left - 1) d x c
  pub same : t ≡ t₀

module _ {n left d x : ℕ} {t₀ : Tables} {at : ℕ} (h : Exploring n left d x t₀ at) (some : left ≡ 0 → ⊥) (out₀ : List ℕ) where
  pub turning-start : Turning n left d x t₀ out₀ at t₀ out₀ 0 at
  unfolding poured
  turning-start = record {
    so_far = [];
    done = record { bytes = refl; offset = sym (add-zero at) };
    whole = turns-start n left d x h.low h.few some;
    same = refl;
  }

  pub turning-branch : {t : Tables} {out : List ℕ} {c place : ℕ} → Turning n left d x t₀ out₀ at t out c place → c < 27
      → Branching n (left - 1) d x c t place
  turning-branch {t} {out} {c} {place} r l =
      let pos : 1 ≤ left = pos_of_ne-zero some in
      let e = ap length r.whole in
      let f = length-append r.so_far (turns_text n (left - 1) d x c) in
      let g = ap length (turns_next n (left - 1) d x c l) in
      let i = length-append (branch_text n (left - 1) d x c) (turns_text n (left - 1) d x (c + 1)) in
      record {
        low = h.low;
        few = h.few;
        short = omega (arith, h.short, pos);
        path = h.path;
        code = l;
        start = r.same ∙ h.start;
        room = omega (arith, r.done.offset, e, f, g, i, h.room);
      }

  pub turning-next : {t u : Tables} {out o : List ℕ} {c place p : ℕ} → Turning n left d x t₀ out₀ at t out c place → c < 27
      → o ≡ poured out place (branch_text n (left - 1) d x c) → p ≡ place + length (branch_text n (left - 1) d x c) → u ≡ t
      → Turning n left d x t₀ out₀ at u o (c + 1) p
  turning-next {c = c} r l b q e = record {
    so_far = r.so_far ++ branch_text n (left - 1) d x c;
    done = then r.done (both b q);
    whole =
        r.whole ∙ ap (λ (y : List ℕ). r.so_far ++ y) (turns_next n (left - 1) d x c l)
        ∙ sym (append_assoc r.so_far (branch_text n (left - 1) d x c) (turns_text n (left - 1) d x (c + 1)));
    same = e ∙ r.same;
  }

  pub turning-done : {t : Tables} {out : List ℕ} {c place : ℕ} → Turning n left d x t₀ out₀ at t out c place → 27 ≤ c
      → (out ≡ poured out₀ at (text_from n left d x)) × (place ≡ at + length (text_from n left d x)) × (t ≡ t₀)
  turning-done {c = c} r l =
      let text : r.so_far ≡ text_from n left d x =
      sym (r.whole ∙ ap (λ (y : List ℕ). r.so_far ++ y) (turns-end n (left - 1) d x c l) ∙ append-nil r.so_far) in
      (r.done.bytes ∙ ap (poured out₀ at) text, r.done.offset ∙ ap (λ (y : List ℕ). at + length y) text, r.same)

pub turning-length : {n left d x : ℕ} {t₀ : Tables} {out₀ : List ℕ} {at : ℕ} {t : Tables} {out : List ℕ} {c place : ℕ}
    → Turning n left d x t₀ out₀ at t out c place → length out ≡ length out₀
turning-length {out₀ = out₀} {at = at} r = ap length r.done.bytes ∙ length-poured out₀ at r.so_far

pub turning-nodes : {n left d x : ℕ} {t₀ : Tables} {out₀ : List ℕ} {at : ℕ} {t : Tables} {out : List ℕ} {c place : ℕ}
    → Turning n left d x t₀ out₀ at t out c place → length t.nodes ≡ length t₀.nodes
turning-nodes r = ap (λ (t : Tables). length t.nodes) r.same

pub turning-channels : {n left d x : ℕ} {t₀ : Tables} {out₀ : List ℕ} {at : ℕ} {t : Tables} {out : List ℕ} {c place : ℕ}
    → Turning n left d x t₀ out₀ at t out c place → length t.channels ≡ length t₀.channels
turning-channels r = ap (λ (t : Tables). length t.channels) r.same
