-- The histories stand in strict dictionary order.
use Prim.Native.Nat.{ℕ, zero, suc, ◌<◌}
use native.Mathlib.Omega.{arith}
use mathlib.Core.Bool.{true}
use mathlib.Core.List.Memᴰ
use mathlib.Core.List.{List, [], ◌∷◌, ◌++◌, map, Memᴰ}
use mathlib.Core.Logic.{⊎_elim}
use mathlib.Core.Path.{◌≡◌, refl, sym, ap, ap₂, subst, ◌∙◌}
use lib.IntN.{ℤ, pos}
use Rattle.basics.proofs.Tests.{Choice, yes!, no!, choice}
use Rattle.height.specs.Order.{before}
use Rattle.height.proofs.OrderLaws.{before-less, before-equal, before-append, lt_z-pos}
use Rattle.protocol.specs.Network.{Network}
use Rattle.protocol.specs.Refusal.{accepts, next}
use Rattle.protocol.specs.Step.{Event, up, down, receive}
use Rattle.text.specs.Text.{in_turn}
use Rattle.enumeration.specs.Histories.{pairs_of, candidates, begun, histories}
use Rattle.enumeration.specs.Order.{event_key, history_key, earlier}
use Rattle.enumeration.proofs.SortedLaws.{turn_one, only_one, Sorted, empty, leads, sorted-one, sorted-append, sorted-turn}
use Rattle.enumeration.proofs.Members.{map-behind, begun_by, begun-with, begun-is}

abbrev pub EventBefore : Event → Event → Type 0
EventBefore e f = before (event_key e) (event_key f) ≡ true

abbrev pub Earlier : List Event → List Event → Type 0
Earlier g h = earlier g h ≡ true

-- ---- the candidates

abbrev key : ℕ → ℕ → ℕ → List ℤ
key c u v = pos c ∷ pos u ∷ pos v ∷ []

key-kind : (c d u v x y : ℕ) → c < d → before (key c u v) (key d x y) ≡ true
key-kind c d u v x y h = before-less (pos c) (pos d) (pos u ∷ pos v ∷ []) (pos x ∷ pos y ∷ []) (lt_z-pos c d h)

key-first : (c u v x y : ℕ) → u < x → before (key c u v) (key c x y) ≡ true
key-first c u v x y h =
    before-equal (pos c) (pos u ∷ pos v ∷ []) (pos x ∷ pos y ∷ []) ∙ before-less (pos u) (pos x) (pos v ∷ []) (pos y ∷ []) (lt_z-pos u x h)

key-second : (c u v y : ℕ) → v < y → before (key c u v) (key c u y) ≡ true
key-second c u v y h =
    before-equal (pos c) (pos u ∷ pos v ∷ []) (pos u ∷ pos y ∷ []) ∙ before-equal (pos u) (pos v ∷ []) (pos y ∷ [])
    ∙ before-less (pos v) (pos y) [] [] (lt_z-pos v y h)

-- the events f u v of one kind, with the key c u v
module _ (n c : ℕ) (f : ℕ → ℕ → Event) (keyed : (u v : ℕ) → event_key (f u v) ≡ key c u v) where
  before_of : (u v x y : ℕ) → before (key c u v) (key c x y) ≡ true → EventBefore (f u v) (f x y)
  before_of u v x y h = ap₂ (λ (a b : List ℤ). before a b) (keyed u v) (keyed x y) ∙ h

  row : ℕ → List Event
  row u = in_turn n (λ v. f u v ∷ [])

  sorted-row : (u : ℕ) → Sorted EventBefore (row u)
  unfolding row
  sorted-row u =
      sorted-turn (λ v. f u v ∷ []) n (λ v. sorted-one (f u v))
      (λ s t h x y i j. subst (λ (z : Event). EventBefore z y) (sym (only_one x (f u s) i))
      (subst (EventBefore (f u s)) (sym (only_one y (f u t) j)) (before_of u s u t (key-second c u s t h))))

  in_row : (u : ℕ) (x : Event) → Memᴰ x (row u) → (v : ℕ) × (x ≡ f u v)
  unfolding row
  in_row u x m = let t = turn_one (λ v. f u v ∷ []) n x m in (t.which, only_one x (f u t.which) t.mem)

  pub sorted-pairs : Sorted EventBefore (pairs_of n f)
  unfolding pairs_of row
  sorted-pairs =
      sorted-turn row n sorted-row
      (λ s t h x y i j. let a = in_row s x i in let b = in_row t y j in
      subst (λ (z : Event). EventBefore z y) (sym a.1) (subst (EventBefore (f s a.0)) (sym b.1)
      (before_of s a.0 t b.0 (key-first c s a.0 t b.0 h))))

  pub in-pairs-key : (x : Event) → Memᴰ x (pairs_of n f) → (u : ℕ) × (v : ℕ) × (event_key x ≡ key c u v)
  unfolding pairs_of row
  in-pairs-key x m =
      let t = turn_one row n x m in
      let s = in_row t.which x t.mem in
      (t.which, s.0, ap event_key s.1 ∙ keyed t.which s.0)

kinds-before : (c d : ℕ) → c < d → (x y : Event) → (u : ℕ) × (v : ℕ) × (event_key x ≡ key c u v)
    → (u : ℕ) × (v : ℕ) × (event_key y ≡ key d u v) → EventBefore x y
kinds-before c d h x y a b =
    ap₂ (λ (a b : List ℤ). before a b) a.2 b.2 ∙ key-kind c d a.0 a.1 b.0 b.1 h

pub sorted-candidates : (n : ℕ) → Sorted EventBefore (candidates n)
unfolding candidates
sorted-candidates n =
    sorted-append (pairs_of n up) (pairs_of n down ++ pairs_of n receive) (sorted-pairs n 0 up (λ u v. refl))
    (sorted-append (pairs_of n down) (pairs_of n receive) (sorted-pairs n 1 down (λ u v. refl)) (sorted-pairs n 2 receive (λ u v. refl))
    (λ x y i j. kinds-before 1 2 (omega arith) x y (downs x i) (receipts y j)))
    (λ x y i j. ⊎_elim (λ k. kinds-before 0 1 (omega arith) x y (ups x i) (downs y k)) (λ k. kinds-before 0 2 (omega arith) x y (ups x i) (receipts y k))
    (Memᴰ.append_cases (pairs_of n down) j))
  where
    ups : (x : Event) → Memᴰ x (pairs_of n up) → (u : ℕ) × (v : ℕ) × (event_key x ≡ key 0 u v)
    ups x m = in-pairs-key n 0 up (λ u v. refl) x m

    downs : (x : Event) → Memᴰ x (pairs_of n down) → (u : ℕ) × (v : ℕ) × (event_key x ≡ key 1 u v)
    downs x m = in-pairs-key n 1 down (λ u v. refl) x m

    receipts : (x : Event) → Memᴰ x (pairs_of n receive) → (u : ℕ) × (v : ℕ) × (event_key x ≡ key 2 u v)
    receipts x m = in-pairs-key n 2 receive (λ u v. refl) x m

-- ---- the histories

front_same : (a xs ys : List ℤ) → before (a ++ xs) (a ++ ys) ≡ before xs ys
front_same [] xs ys = refl
front_same (z ∷ a) xs ys = before-equal z (a ++ xs) (a ++ ys) ∙ front_same a xs ys

earlier-behind : (e : Event) (g h : List Event) → Earlier g h → Earlier (e ∷ g) (e ∷ h)
unfolding earlier history_key
earlier-behind e g h i = front_same (event_key e) (history_key g) (history_key h) ∙ i

earlier-event : (e f : Event) (g h : List Event) → EventBefore e f → Earlier (e ∷ g) (f ∷ h)
unfolding earlier history_key
earlier-event e f g h i = before-append (event_key e) (event_key f) i (history_key g) (history_key h)

sorted-map : (e : Event) (hs : List (List Event)) → Sorted Earlier hs → Sorted Earlier (map (λ h. e ∷ h) hs)
sorted-map e hs empty = empty
sorted-map e hs (leads {x = g} {l = l} f s) =
    leads (λ y i. let t = map-behind e l y i in
    subst (Earlier (e ∷ g)) (sym t.is) (earlier-behind e g t.rest (f t.rest t.mem)))
    (sorted-map e l s)

sorted-begun : (rest : Network → List (List Event)) (n : ℕ) (p : Network) (cs : List Event) → ((q : Network) → Sorted Earlier (rest q))
    → Sorted EventBefore cs → Sorted Earlier (begun rest n p cs)
unfolding begun
sorted-begun rest n p cs own empty = empty
sorted-begun rest n p cs own (leads {x = e} {l = l} f s) =
    sorted-append (begun_by rest n p e (accepts n p e)) (begun rest n p l) (first (choice (accepts n p e))) (sorted-begun rest n p l own s)
    (λ x y i j. let a = (begun-with rest n p e x i).1 in let b = begun-is rest n p l y j in
    subst (λ (z : List Event). Earlier z y) (sym a.is) (subst (Earlier (e ∷ a.rest)) (sym b.behind.is)
    (earlier-event e b.event a.rest b.behind.rest (f b.event b.among))))
  where
    first : Choice (accepts n p e) → Sorted Earlier (begun_by rest n p e (accepts n p e))
    first (yes! i) = rw i (sorted-map e (rest (next n p e)) (own (next n p e)))
    first (no! i) = rw i empty

pub sorted-histories : (n k : ℕ) (p : Network) → Sorted Earlier (histories n k p)
unfolding histories
sorted-histories n zero p = sorted-one []
sorted-histories n (suc k) p = sorted-begun (histories n k) n p (candidates n) (sorted-histories n k) (sorted-candidates n)
