-- `histories n k p` holds each list of k events, of any numbers, that are all accepted one after the other from p, and no other.
use Prim.Native.Nat.{ℕ, zero, suc}
use native.Mathlib.Omega.{arith}
use mathlib.Core.Bool.{Bool, true, cond}
use mathlib.Core.List.{List, [], ◌∷◌, ◌++◌, map, Memᴰ}
use mathlib.Core.Logic.{⊎_elim}
use mathlib.Core.Path.{◌≡◌, refl, ap, subst}
use lib.ListN.{length}
use Rattle.basics.proofs.Tests.{Choice, yes!, no!, choice, and_left, and_right, and_both}
use Rattle.protocol.specs.Refusal.{accepts, next}
use Rattle.protocol.specs.Step.{Event, up, down, receive, home, peer}
use Rattle.protocol.specs.Network.{Node, Network}
use Rattle.protocol.proofs.Accepted.{home-node, peer-node, accepts-accepted}
use Rattle.text.specs.Text.{in_turn}
use Rattle.enumeration.specs.Histories.{all_accepted, pairs_of, candidates, begun, histories}
use Rattle.enumeration.proofs.SortedLaws.{one-turn, only_one}

-- ---- behind a first event

pub record Behind (e : Event) (hs : List (List Event)) (es : List Event) : Type 0 where
  pub rest : List Event
  pub is : es ≡ e ∷ rest
  pub mem : Memᴰ rest hs

pub map-behind : (e : Event) (hs : List (List Event)) (es : List Event) → Memᴰ es (map (λ h. e ∷ h) hs) → Behind e hs es
map-behind e [] es m = absurd (mathlib.Core.List.Memᴰ.not-nil m)
map-behind e (h ∷ hs) es m =
    ⊎_elim (λ i. record { rest = h; is = i; mem = mathlib.Core.List.Memᴰ.head refl })
    (λ i. let t = map-behind e hs es i in record { rest = t.rest; is = t.is; mem = mathlib.Core.List.Memᴰ.tail t.mem }) (mathlib.Core.List.Memᴰ.cases_cons m)

behind-map : (e : Event) (hs : List (List Event)) (h : List Event) → Memᴰ h hs → Memᴰ (e ∷ h) (map (λ g. e ∷ g) hs)
behind-map e [] h m = elim m [ ]
behind-map e (g ∷ hs) h (mathlib.Core.List.Memᴰ.head i) = mathlib.Core.List.Memᴰ.head (ap (λ (l : List Event). e ∷ l) i)
behind-map e (g ∷ hs) h (mathlib.Core.List.Memᴰ.tail m) = mathlib.Core.List.Memᴰ.tail (behind-map e hs h m)

-- ---- begun with one event of a list

pub record Begun (rest : Network → List (List Event)) (n : ℕ) (p : Network) (cs : List Event) (es : List Event) : Type 0 where
  pub event : Event
  pub among : Memᴰ event cs
  pub accepted : accepts n p event ≡ true
  pub behind : Behind event (rest (next n p event)) es

-- `begun_with` by what the test answers
abbrev pub begun_by : (Network → List (List Event)) → ℕ → Network → Event → Bool → List (List Event)
begun_by rest n p e b = cond b (map (λ h. e ∷ h) (rest (next n p e))) []

pub begun-with : (rest : Network → List (List Event)) (n : ℕ) (p : Network) (e : Event) (es : List Event)
    → Memᴰ es (begun_by rest n p e (accepts n p e)) → (accepts n p e ≡ true) × Behind e (rest (next n p e)) es
begun-with rest n p e es m = go (choice (accepts n p e))
  where
    go : Choice (accepts n p e) → (accepts n p e ≡ true) × Behind e (rest (next n p e)) es
    go (yes! i) = (i, map-behind e (rest (next n p e)) es (subst (λ (b : Bool). Memᴰ es (begun_by rest n p e b)) i m))
    go (no! i) = absurd (mathlib.Core.List.Memᴰ.not-nil (subst (λ (b : Bool). Memᴰ es (begun_by rest n p e b)) i m))

pub begun-is : (rest : Network → List (List Event)) (n : ℕ) (p : Network) (cs : List Event) (es : List Event) → Memᴰ es (begun rest n p cs)
    → Begun rest n p cs es
unfolding begun
begun-is rest n p [] es m = absurd (mathlib.Core.List.Memᴰ.not-nil m)
begun-is rest n p (e ∷ cs) es m =
    ⊎_elim (λ i. let t = begun-with rest n p e es i in record { event = e; among = mathlib.Core.List.Memᴰ.head refl; accepted = t.0; behind = t.1 })
    (λ i. let t = begun-is rest n p cs es i in record { event = t.event; among = mathlib.Core.List.Memᴰ.tail t.among; accepted = t.accepted; behind = t.behind })
    (mathlib.Core.List.Memᴰ.append_cases (begun_by rest n p e (accepts n p e)) m)

pub is-begun : (rest : Network → List (List Event)) (n : ℕ) (p : Network) (cs : List Event) (e : Event) (h : List Event) → Memᴰ e cs
    → accepts n p e ≡ true → Memᴰ h (rest (next n p e)) → Memᴰ (e ∷ h) (begun rest n p cs)
unfolding begun
is-begun rest n p [] e h i a m = elim i [ ]
is-begun rest n p (f ∷ cs) e h (mathlib.Core.List.Memᴰ.head i) a m =
    let here : Memᴰ (e ∷ h) (begun_by rest n p e (accepts n p e)) = rw a (behind-map e (rest (next n p e)) h m) in
    mathlib.Core.List.Memᴰ.append_left (begun rest n p cs) (subst (λ (x : Event). Memᴰ (e ∷ h) (begun_by rest n p x (accepts n p x))) i here)
is-begun rest n p (f ∷ cs) e h (mathlib.Core.List.Memᴰ.tail i) a m =
    mathlib.Core.List.Memᴰ.append_right (begun_by rest n p f (accepts n p f)) (is-begun rest n p cs e h i a m)

-- ---- an accepted event is a candidate

in_pairs : (n : ℕ) (f : ℕ → ℕ → Event) (u v : ℕ) → Node n u → Node n v → Memᴰ (f u v) (pairs_of n f)
unfolding pairs_of
in_pairs n f u v a b =
    one-turn (λ u. in_turn n (λ v. f u v ∷ [])) n (f u v) u a.low a.high
    (one-turn (λ v. f u v ∷ []) n (f u v) v b.low b.high (mathlib.Core.List.Memᴰ.head refl))

in-candidates : (n : ℕ) (e : Event) → Node n (home e) → Node n (peer e) → Memᴰ e (candidates n)
unfolding candidates
in-candidates n (up u v) a b = mathlib.Core.List.Memᴰ.append_left (pairs_of n down ++ pairs_of n receive) (in_pairs n up u v a b)
in-candidates n (down u v) a b = mathlib.Core.List.Memᴰ.append_right (pairs_of n up) (mathlib.Core.List.Memᴰ.append_left (pairs_of n receive) (in_pairs n down u v a b))
in-candidates n (receive v u) a b = mathlib.Core.List.Memᴰ.append_right (pairs_of n up) (mathlib.Core.List.Memᴰ.append_right (pairs_of n down) (in_pairs n receive v u b a))

pub accepted-candidate : (n : ℕ) (p : Network) (e : Event) → accepts n p e ≡ true → Memᴰ e (candidates n)
accepted-candidate n p e i =
    let ok = accepts-accepted n p e i in
    in-candidates n e (home-node n p e ok) (peer-node n p e ok)

-- ---- none left out

pub none-left-out : (n k : ℕ) (p : Network) (es : List Event) → length es ≡ k → all_accepted n p es ≡ true → Memᴰ es (histories n k p)
unfolding all_accepted histories
none-left-out n zero p [] l a = mathlib.Core.List.Memᴰ.head refl
none-left-out n zero p (e ∷ es) l a = absurd (omega arith)
none-left-out n (suc k) p [] l a = absurd (omega arith)
none-left-out n (suc k) p (e ∷ es) l a =
    let i = and_left (accepts n p e) (all_accepted n (next n p e) es) a in
    let j = and_right (accepts n p e) (all_accepted n (next n p e) es) a in
    is-begun (histories n k) n p (candidates n) e es (accepted-candidate n p e i) i (none-left-out n k (next n p e) es (omega arith) j)

-- ---- no other

pub no_other : (n k : ℕ) (p : Network) (es : List Event) → Memᴰ es (histories n k p) → (length es ≡ k) × (all_accepted n p es ≡ true)
unfolding all_accepted histories
no_other n zero p es m = let i = only_one es [] m in rw i (refl, refl)
no_other n (suc k) p es m =
    let t = begun-is (histories n k) n p (candidates n) es m in
    let r = no_other n k (next n p t.event) t.behind.rest t.behind.mem in
    rw t.behind.is (ap suc r.0, and_both t.accepted r.1)
