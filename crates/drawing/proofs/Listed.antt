-- Which edges a drawing lists: exactly the arrows between the nodes of 1 to n. All their numbers are below 100.
use Prim.Native.Nat.{ℕ, zero, suc, ◌≤◌}
use native.Mathlib.Omega.{arith}
use mathlib.Core.Bool.{Bool, true, false, ◌&&◌, ◌||◌, or-false}
use mathlib.Core.List.{List, [], ◌∷◌, ◌++◌}
use mathlib.Core.Logic.{inl, inr}
use mathlib.Core.Path.{◌≡◌, refl, sym, ap, ◌∙◌}
use borrow.Author.Tests.{eq-eqb, ne_eqb, lt-ltb}
use lib.Dec.{eqb, ltb}
use Rattle.basics.specs.Functions.{all}
use Rattle.basics.proofs.Tests.{iff, and_left, and_right, and_both, Choice, yes!, no!, choice, SameOrNot, equal?}
use Rattle.dot.specs.Sketch.{numbered}
use Rattle.dot.specs.declared.Edge.{Edge}
use Rattle.protocol.specs.Network.{Network, is_node}
use Rattle.protocol.proofs.NodeLaws.{is-node, node-passes, other-fails}
use Rattle.text.specs.Text.{in_turn}
use Rattle.drawing.specs.Drawing.{points, arrow_to, arrows_of}

-- the edge is the one from a to b
unfoldable pub is_edge : Edge → ℕ → ℕ → Bool
is_edge e a b = eqb a e.first && eqb b e.second

-- one of the edges is
unfoldable pub lists : List Edge → ℕ → ℕ → Bool
lists [] a b = false
lists (e ∷ es) a b = is_edge e a b || lists es a b

-- ---- pieces one behind the other

or_assoc : (x y z : Bool) → ((x || y) || z) ≡ (x || (y || z))
or_assoc true y z = refl
or_assoc false y z = refl

and_assoc : (x y z : Bool) → (x && (y && z)) ≡ (x && y && z)
and_assoc true y z = refl
and_assoc false y z = refl

and-swap : (x y z : Bool) → (x && (y && z)) ≡ (y && (x && z))
and-swap true y z = refl
and-swap false true z = refl
and-swap false false z = refl

lists-append : (es fs : List Edge) (a b : ℕ) → lists (es ++ fs) a b ≡ (lists es a b || lists fs a b)
unfolding lists
lists-append [] fs a b = refl
lists-append (e ∷ es) fs a b =
    ap (λ (t : Bool). is_edge e a b || t) (lists-append es fs a b) ∙ sym (or_assoc (is_edge e a b) (lists es a b) (lists fs a b))

-- a node of 1 to n + 1 is one of 1 to n or n + 1
node-more : (n c : ℕ) (x : Bool) (t : ℕ → Bool) → x ≡ (is_node n c && t c) → (x || (eqb c (suc n) && t (suc n))) ≡ (is_node (suc n) c && t c)
node-more n c x t h = go (equal? c (suc n))
  where
    go : SameOrNot c (suc n) → (x || (eqb c (suc n) && t (suc n))) ≡ (is_node (suc n) c && t c)
    go (inl e) =
        let out : is_node n c ≡ false = other-fails n c (λ a. omega (arith, a.high)) in
        let in! : is_node (suc n) c ≡ true = node-passes (suc n) c (record { low = omega (arith, e); high = omega (arith, e) }) in
        rw (h, out, in!, eq-eqb c (suc n) e) (ap t (sym e))
    go (inr d) =
        let same : is_node n c ≡ is_node (suc n) c = iff (is_node n c) (is_node (suc n) c)
        (λ i. let a = is-node n c i in node-passes (suc n) c (record { low = a.low; high = omega (arith, a.high) }))
        (λ i. let a = is-node (suc n) c i in node-passes n c (record { low = a.low; high = omega (arith, a.high) })) in
        rw (h, same, ne_eqb c (suc n) d) (or-false (is_node (suc n) c && t c))

-- pieces of which piece k lists a, b exactly when k is c and t k holds
one_piece : (n : ℕ) (f : ℕ → List Edge) (c a b : ℕ) (t : ℕ → Bool) → ((k : ℕ) → lists (f k) a b ≡ (eqb c k && t k))
    → lists (in_turn n f) a b ≡ (is_node n c && t c)
unfolding in_turn lists
one_piece zero f c a b t h = rw (other-fails 0 c (λ x. omega (arith, x.low, x.high))) refl
one_piece (suc n) f c a b t h =
    lists-append (in_turn n f) (f (suc n)) a b
    ∙ (ap (λ (x : Bool). lists (in_turn n f) a b || x) (h (suc n)) ∙ node-more n c (lists (in_turn n f) a b) t (one_piece n f c a b t h))

module _ (n : ℕ) (p : Network) (a b : ℕ) where
  arrow-listed : (x k : ℕ) → lists (arrow_to p x k) a b ≡ (eqb b k && (eqb a x && points p x k))
  unfolding arrow_to lists is_edge
  arrow-listed x k = go (choice (points p x k))
    where
      there : (y z : Bool) → (y && z || false) ≡ (z && (y && true))
      there true true = refl
      there true false = refl
      there false true = refl
      there false false = refl

      absent : (y z : Bool) → false ≡ (z && (y && false))
      absent y false = refl
      absent true true = refl
      absent false true = refl

      go : Choice (points p x k) → lists (arrow_to p x k) a b ≡ (eqb b k && (eqb a x && points p x k))
      go (yes! h) = rw h (there (eqb a x) (eqb b k))
      go (no! h) = rw h (absent (eqb a x) (eqb b k))

  row_listed : (x : ℕ) → lists (in_turn n (arrow_to p x)) a b ≡ (eqb a x && (is_node n b && points p x b))
  row_listed x =
      one_piece n (arrow_to p x) b a b (λ k. eqb a x && points p x k) (arrow-listed x)
      ∙ and-swap (is_node n b) (eqb a x) (points p x b)

  pub arrows-listed : lists (arrows_of n p) a b ≡ (is_node n a && is_node n b && points p a b)
  unfolding arrows_of
  arrows-listed =
      one_piece n (λ x. in_turn n (arrow_to p x)) a a b (λ x. is_node n b && points p x b) row_listed
      ∙ and_assoc (is_node n a) (is_node n b) (points p a b)

-- ---- numbers

all_append : {A : Type 0} (q : A → Bool) (xs ys : List A) → all q xs ≡ true → all q ys ≡ true → all q (xs ++ ys) ≡ true
unfolding all
all_append q [] ys h k = k
all_append q (x ∷ xs) ys h k = and_both (and_left (q x) (all q xs) h) (all_append q xs ys (and_right (q x) (all q xs) h) k)

all-in-turn : {A : Type 0} (q : A → Bool) (n : ℕ) (f : ℕ → List A) → ((k : ℕ) → k ≤ n → all q (f k) ≡ true) → all q (in_turn n f) ≡ true
unfolding all in_turn
all-in-turn q zero f h = refl
all-in-turn q (suc n) f h = all_append q (in_turn n f) (f (suc n)) (all-in-turn q n f (λ k l. h k (omega arith))) (h (suc n) (omega arith))

arrow-numbered : (p : Network) (a b : ℕ) → a ≤ 16 → b ≤ 16 → all numbered (arrow_to p a b) ≡ true
unfolding all arrow_to numbered
arrow-numbered p a b i j = go (choice (points p a b))
  where
    both : (ltb a 100 && ltb b 100 && true) ≡ true
    both = rw (lt-ltb a 100 (omega arith), lt-ltb b 100 (omega arith)) refl

    go : Choice (points p a b) → all numbered (arrow_to p a b) ≡ true
    go (yes! h) = rw h both
    go (no! h) = rw h refl

pub arrows-numbered : (n : ℕ) (p : Network) → n ≤ 16 → all numbered (arrows_of n p) ≡ true
unfolding arrows_of
arrows-numbered n p few =
    all-in-turn numbered n (λ a. in_turn n (arrow_to p a)) (λ a i.
    all-in-turn numbered n (arrow_to p a) (λ b j. arrow-numbered p a b (omega arith) (omega arith)))
