-- The ups of a sketch line by line, after those of lines done before: each is carried out, and exactly the channels named are up.
-- Assumes at most 16 nodes and links that hold.
use Prim.Native.Nat.{ℕ, ◌≤◌}
use mathlib.Core.Bool.{Bool, true, false, not, ◌&&◌, ◌||◌}
use mathlib.Core.List.{List, [], ◌∷◌, map}
use mathlib.Core.Path.{◌≡◌, refl, sym, ap₂, fun_ext, ◌∙◌}
use borrow.Author.Tests.{ne_eqb, not-true}
use lib.Dec.{eqb}
use Rattle.basics.specs.Functions.{after_all, say_all}
use Rattle.basics.proofs.Tests.{and_left, and_right}
use Rattle.calls.specs.History.{State, advance}
use Rattle.dot.specs.declared.Edge.{Edge}
use Rattle.protocol.specs.Network.{Two}
use Rattle.protocol.specs.Refusal.{answer}
use Rattle.protocol.specs.Step.{up, peer}
use Rattle.drawing.specs.Links.{is_link, names, named_by, links_hold, ups_of}
use Rattle.drawing.proofs.Marks.{link-two}
use Rattle.drawing.proofs.Rising.{Rising, raise, raised_to, up-said, up-rises}

-- f with both channels of a line besides
names-raised : (f : ℕ → ℕ → Bool) (e : Edge) (u v : ℕ)
    → raise (raise f e.first e.second) e.second e.first u v ≡ (names e u v || f u v)
unfolding names
names-raised f e u v = swap (eqb u e.second && eqb v e.first) (eqb u e.first && eqb v e.second) (f u v)
  where
    swap : (a b c : Bool) → (a || (b || c)) ≡ (b || a || c)
    swap true true c = refl
    swap true false c = refl
    swap false true c = refl
    swap false false c = refl

-- what was named before does not count twice
pub more-drawn : (e : Edge) (es done : List Edge) (u v : ℕ) → (named_by es u v || named_by (e ∷ done) u v) ≡ (named_by (e ∷ es) u v || named_by done u v)
unfolding named_by
more-drawn e es done u v = turn (named_by es u v) (names e u v) (named_by done u v)
  where
    turn : (a b c : Bool) → (a || (b || c)) ≡ (b || a || c)
    turn true true c = refl
    turn true false c = refl
    turn false true c = refl
    turn false false c = refl

-- both orders are named at once
pub turned : (es : List Edge) (u v : ℕ) → named_by es v u ≡ named_by es u v
unfolding named_by names
turned [] u v = refl
turned (e ∷ es) u v =
    ap₂ (λ (a b : Bool). a || b)
    (flip (eqb v e.first) (eqb u e.second) (eqb v e.second) (eqb u e.first)) (turned es u v)
  where
    flip : (a b c d : Bool) → (a && b || c && d) ≡ (d && c || b && a)
    flip true true true true = refl
    flip true true true false = refl
    flip true true false true = refl
    flip true true false false = refl
    flip true false true true = refl
    flip true false true false = refl
    flip true false false true = refl
    flip true false false false = refl
    flip false true true true = refl
    flip false true true false = refl
    flip false true false true = refl
    flip false true false false = refl
    flip false false true true = refl
    flip false false true false = refl
    flip false false false true = refl
    flip false false false false = refl

same-rising : (n : ℕ) (s : State) (f g : ℕ → ℕ → Bool) → ((u v : ℕ) → f u v ≡ g u v) → Rising n s f → Rising n s g
same-rising n s f g e r = let q : f ≡ g = fun_ext (λ u. fun_ext (e u)) in rw (← q) r

none-drawn : (done : List Edge) (u v : ℕ) → named_by done u v ≡ (named_by [] u v || named_by done u v)
unfolding named_by
none-drawn done u v = refl

one-drawn : (e : Edge) (done : List Edge) (u v : ℕ)
    → raise (raise (named_by done) e.first e.second) e.second e.first u v ≡ named_by (e ∷ done) u v
unfolding named_by
one-drawn e done u v = names-raised (named_by done) e u v

-- after all lines, those done before among them
pub record Risen (n : ℕ) (s : State) (done es : List Edge) : Type 0 where
  pub rising : Rising n (after_all (advance n) s (ups_of es)) (λ u v. named_by es u v || named_by done u v)
  pub answers : say_all (advance n) (λ s e. answer n s.network e) s (ups_of es) ≡ map (λ e. raised_to n (peer e)) (ups_of es)

pub risen : (n : ℕ) → n ≤ 16 → (s : State) (done es : List Edge) → links_hold n done es ≡ true → Rising n s (named_by done) → Risen n s done es
unfolding links_hold ups_of
risen n few s done [] h r = record { rising = same-rising n s (named_by done) (λ u v. named_by [] u v || named_by done u v) nothing r; answers = refl }
  where
    nothing : (u v : ℕ) → named_by done u v ≡ (named_by [] u v || named_by done u v)
    nothing u v = none-drawn done u v
risen n few s done (e ∷ es) h r =
    let new = and_left (is_link n e && not (named_by done e.first e.second)) (links_hold n (e ∷ done) es) h in
    let two = link-two n e (and_left (is_link n e) (not (named_by done e.first e.second)) new) in
    let off : named_by done e.first e.second ≡ false =
    not-true (named_by done e.first e.second) (and_right (is_link n e) (not (named_by done e.first e.second)) new) in
    let first = up-rises n few s (named_by done) r e.first e.second two off in
    let back : Two n e.second e.first = record { one = two.other; other = two.one; differ = λ q. two.differ (sym q) } in
    let s₁ = advance n s (up e.first e.second) in
    let off₂ : raise (named_by done) e.first e.second e.second e.first ≡ false =
    rw (ne_eqb e.second e.first back.differ) (turned done e.first e.second ∙ off) in
    let second = up-rises n few s₁ (raise (named_by done) e.first e.second) first e.second e.first back off₂ in
    let s₂ = advance n s₁ (up e.second e.first) in
    let both = same-rising n s₂ (raise (raise (named_by done) e.first e.second) e.second e.first) (named_by (e ∷ done)) (one-drawn e done) second in
    let rest = risen n few s₂ (e ∷ done) es (and_right (is_link n e && not (named_by done e.first e.second)) (links_hold n (e ∷ done) es) h) both in
    let said₁ = up-said n few s (named_by done) r e.first e.second two off in
    let said₂ = up-said n few s₁ (raise (named_by done) e.first e.second) first e.second e.first back off₂ in
    record {
      rising = same-rising n (after_all (advance n) s₂ (ups_of es)) (λ u v. named_by es u v || named_by (e ∷ done) u v)
          (λ u v. named_by (e ∷ es) u v || named_by done u v) (more-drawn e es done) rest.rising;
      answers = rw (said₁, said₂, rest.answers) refl;
    }
