-- Candidates by their codes, and the lines of a path, poured piece by piece.
use Prim.Native.Nat.{ℕ, zero, suc, ◌+◌, ◌-◌, ◌/◌, ◌%◌, ◌^◌, ◌≤◌, ◌<◌}
use native.Mathlib.Nat.{add-zero}
use native.Mathlib.Omega.{arith}
use mathlib.Core.Bool.{Bool, true, false, cond}
use mathlib.Core.List.{List, [], ◌∷◌, ◌++◌, map, append_assoc}
use mathlib.Core.Path.{◌≡◌, refl, sym, ap, ◌∙◌}
use borrow.Author.Tests.{lt-ltb, le-ltb}
use lib.Dec.{ltb}
use lib.ListN.{length, length-append}
use Rattle.text.proofs.PourLaws.{Poured, then, named-so}
use Rattle.protocol.specs.Step.{Event, up, down, receive}
use Rattle.text.specs.Text.{decimal}
use Rattle.text.specs.inner.Poured.{poured}
use Rattle.enumeration.specs.Order.{line_of}
use Rattle.enumeration.specs.Texts.{event_text, head_text, lines_text, input_text}
use Rattle.histories.specs.inner.Walk.{event_at, path_events, path_text}

-- ---- candidates

pub event-up : (c : ℕ) → c < 9 → event_at c ≡ up (c / 3 % 3 + 1) (c % 3 + 1)
unfolding event_at
event-up c h = rw (lt-ltb c 9 h)

pub event-down : (c : ℕ) → 9 ≤ c → c < 18 → event_at c ≡ down (c / 3 % 3 + 1) (c % 3 + 1)
unfolding event_at
event-down c l h = rw (le-ltb c 9 l, lt-ltb c 18 h)

pub event-receive : (c : ℕ) → 9 ≤ c → 18 ≤ c → event_at c ≡ receive (c / 3 % 3 + 1) (c % 3 + 1)
unfolding event_at
event-receive c l h = rw (le-ltb c 9 l, le-ltb c 18 h)

-- whatever holds of the three forms
at_code : (P : Event → Type 0) (c : ℕ) → P (up (c / 3 % 3 + 1) (c % 3 + 1)) → P (down (c / 3 % 3 + 1) (c % 3 + 1)) → P (receive (c / 3 % 3 + 1) (c % 3 + 1))
    → P (event_at c)
unfolding event_at
at_code P c a b d = go (ltb c 9) (ltb c 18)
  where
    go : (s t : Bool) → P (cond s (up (c / 3 % 3 + 1) (c % 3 + 1)) (cond t (down (c / 3 % 3 + 1) (c % 3 + 1)) (receive (c / 3 % 3 + 1) (c % 3 + 1))))
    go true t = a
    go false true = b
    go false false = d

pub first-at : (c : ℕ) → (line_of (event_at c)).first ≡ c / 3 % 3 + 1
first-at c = at_code (λ e. (line_of e).first ≡ c / 3 % 3 + 1) c refl refl refl

pub second_at : (c : ℕ) → (line_of (event_at c)).second ≡ c % 3 + 1
second_at c = at_code (λ e. (line_of e).second ≡ c % 3 + 1) c refl refl refl

-- ---- lines

pub head_done : (n : ℕ) {out o p : List ℕ} {at a b : ℕ} → Poured out at (78 ∷ 32 ∷ []) o a → Poured o a (decimal n ++ (10 ∷ [])) p b
    → (p ≡ poured out at (head_text n ++ (10 ∷ []))) × (b ≡ at + length (head_text n ++ (10 ∷ [])))
unfolding head_text
head_done n x y = named-so (then x y) refl

event-pieces : (l a b : ℕ)
    → (l ∷ 32 ∷ []) ++ ((decimal a ++ (32 ∷ [])) ++ (decimal b ++ (10 ∷ []))) ≡ (l ∷ 32 ∷ (decimal a ++ (32 ∷ decimal b))) ++ (10 ∷ [])
event-pieces l a b =
    ap (λ (t : List ℕ). l ∷ 32 ∷ t) (append_assoc (decimal a) (32 ∷ []) (decimal b ++ (10 ∷ [])) ∙ sym (append_assoc (decimal a) (32 ∷ decimal b) (10 ∷ [])))

pub event-done : (c l : ℕ) {out o p q : List ℕ} {at a b d : ℕ} → l ≡ (line_of (event_at c)).letter → Poured out at (l ∷ 32 ∷ []) o a
    → Poured o a (decimal (c / 3 % 3 + 1) ++ (32 ∷ [])) p b → Poured p b (decimal (c % 3 + 1) ++ (10 ∷ [])) q d
    → (q ≡ poured out at (event_text (event_at c) ++ (10 ∷ []))) × (d ≡ at + length (event_text (event_at c) ++ (10 ∷ [])))
unfolding event_text
event-done c l e x y z = named-so (then x (then y z)) (event-pieces l (c / 3 % 3 + 1) (c % 3 + 1) ∙ rw (e, first-at c, second_at c))

-- ---- texts of paths

text-append : (a b : List (List ℕ)) → lines_text (a ++ b) ≡ lines_text a ++ lines_text b
unfolding lines_text
text-append [] b = refl
text-append (l ∷ a) b = ap (λ (t : List ℕ). l ++ (10 ∷ t)) (text-append a b) ∙ sym (append_assoc l (10 ∷ lines_text a) (lines_text b))

map-append : (a b : List Event) → map event_text (a ++ b) ≡ map event_text a ++ map event_text b
map-append [] b = refl
map-append (e ∷ a) b = ap (λ (t : List (List ℕ)). event_text e ∷ t) (map-append a b)

path-suc : (d x : ℕ) → path_text (suc d) x ≡ path_text d (x / 27) ++ (event_text (event_at (x % 27)) ++ (10 ∷ []))
unfolding path_text path_events lines_text
path-suc d x =
    ap lines_text (map-append (path_events d (x / 27)) (event_at (x % 27) ∷ [])) ∙ text-append (map event_text (path_events d (x / 27))) (event_text (event_at (x % 27)) ∷ [])

pub path-more : (d x : ℕ) → (d ≡ 0 → ⊥) → path_text d x ≡ path_text (d - 1) (x / 27) ++ (event_text (event_at (x % 27)) ++ (10 ∷ []))
path-more zero x h = absurd (h refl)
path-more (suc d) x h = path-suc d x ∙ ap (λ (k : ℕ). path_text k (x / 27) ++ (event_text (event_at (x % 27)) ++ (10 ∷ []))) (let e : d ≡ suc d - 1 = omega arith in e)

pub path-none : (d x : ℕ) → d ≡ 0 → (out : List ℕ) (at : ℕ) → (out ≡ poured out at (path_text d x)) × (at ≡ at + length (path_text d x))
unfolding path_text path_events lines_text poured
path-none zero x e out at = (refl, sym (add-zero at))
path-none (suc d) x e out at = absurd (omega arith)

pub path_room : (d x at : ℕ) → (d ≡ 0 → ⊥) → at + length (path_text d x) < 2 ^ 30 → at + length (path_text (d - 1) (x / 27)) < 2 ^ 30
path_room d x at h i =
    omega (arith, i, ap length (path-more d x h), length-append (path_text (d - 1) (x / 27)) (event_text (event_at (x % 27)) ++ (10 ∷ [])))

pub path-done : (d x : ℕ) → (d ≡ 0 → ⊥) → {out o p : List ℕ} {at a b : ℕ} → Poured out at (path_text (d - 1) (x / 27)) o a
    → Poured o a (event_text (event_at (x % 27)) ++ (10 ∷ [])) p b → (p ≡ poured out at (path_text d x)) × (b ≡ at + length (path_text d x))
path-done d x h y z = named-so (then y z) (sym (path-more d x h))

-- ---- an input: the head, then the path

input-pieces : (n d x : ℕ) → (head_text n ++ (10 ∷ [])) ++ path_text d x ≡ input_text n (path_events d x)
unfolding input_text lines_text path_text
input-pieces n d x = append_assoc (head_text n) (10 ∷ []) (lines_text (map event_text (path_events d x)))

pub input-done : (n d x : ℕ) {out o p : List ℕ} {at a b : ℕ} → Poured out at (head_text n ++ (10 ∷ [])) o a → Poured o a (path_text d x) p b
    → (p ≡ poured out at (input_text n (path_events d x))) × (b ≡ at + length (input_text n (path_events d x)))
input-done n d x y z = named-so (then y z) (input-pieces n d x)

pub input-room : (n d x at a : ℕ) → a ≡ at + length (head_text n ++ (10 ∷ [])) → at + length (input_text n (path_events d x)) < 2 ^ 30
    → a + length (path_text d x) < 2 ^ 30
input-room n d x at a e i =
    omega (arith, e, i, ap length (input-pieces n d x), length-append (head_text n ++ (10 ∷ [])) (path_text d x))
