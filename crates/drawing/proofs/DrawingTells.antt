-- A drawing tells the number of nodes, the arrows and so the links: equal drawings of at most 16 nodes show the same ones.
-- And it tells no more: where the arrows are the same, so are the drawings.
use Prim.Native.Nat.{ℕ, zero, suc, ◌≤◌}
use native.Mathlib.Omega.{arith}
use mathlib.Core.Bool.{Bool, true, cond, ◌&&◌, ◌||◌}
use mathlib.Core.List.{List, [], ◌∷◌, ◌++◌}
use mathlib.Core.Path.{◌≡◌, refl, sym, ap, ap₂, subst, ◌∙◌}
use Rattle.dot.specs.Graph.{edge, digraph_head, arrow, digraph_of}
use Rattle.dot.specs.declared.Edge.{Edge}
use Rattle.dot.proofs.Tells.{text-tells}
use Rattle.protocol.specs.Holds.{sound}
use Rattle.protocol.specs.Network.{Node, Network, up_to}
use Rattle.protocol.proofs.NodeLaws.{node-passes}
use Rattle.text.specs.Text.{in_turn}
use Rattle.drawing.specs.Drawing.{points, arrow_to, arrows_of, drawing}
use Rattle.drawing.proofs.Arrows.{linked-points}
use Rattle.drawing.proofs.Listed.{lists, arrows-listed, arrows-numbered}

-- ---- from the drawing to the arrows and the links

points-listed : (n : ℕ) (p : Network) (a b : ℕ) → Node n a → Node n b → lists (arrows_of n p) a b ≡ points p a b
points-listed n p a b i j =
    arrows-listed n p a b
    ∙ ap₂ (λ (x y : Bool). x && y && points p a b) (node-passes n a i) (node-passes n b j)

module _ (n m : ℕ) (p q : Network) (few : n ≤ 16) (few' : m ≤ 16) where
  pub drawing-tells : drawing n p ≡ drawing m q → (n ≡ m) × ((a b : ℕ) → Node n a → Node n b → points p a b ≡ points q a b)
  unfolding drawing
  drawing-tells e =
      let t = text-tells digraph_head arrow n m (arrows_of n p) (arrows_of m q) few few' (arrows-numbered n p few) (arrows-numbered m q few') e in (
        t.0,
        λ a b i j.
            sym (points-listed n p a b i j)
            ∙ (ap (λ (es : List Edge). lists es a b) t.1
            ∙ points-listed m q a b (subst (λ (k : ℕ). Node k a) t.0 i) (subst (λ (k : ℕ). Node k b) t.0 j)),
      )

  pub links-told : sound n p ≡ true → sound m q ≡ true → drawing n p ≡ drawing m q
      → (n ≡ m) × ((a b : ℕ) → Node n a → Node n b → (up_to p a b && up_to p b a) ≡ (up_to q a b && up_to q b a))
  links-told s s' e =
      let t = drawing-tells e in (
        t.0,
        λ a b i j.
            linked-points n p s a b i j
            ∙ (ap₂ (λ (x y : Bool). x || y) (t.1 a b i j) (t.1 b a j i)
            ∙ sym (linked-points m q s' a b (subst (λ (k : ℕ). Node k a) t.0 i) (subst (λ (k : ℕ). Node k b) t.0 j))),
      )

-- ---- from the arrows to the drawing

turns_same : {A : Type 0} (n : ℕ) (f g : ℕ → List A) → ((k : ℕ) → Node n k → f k ≡ g k) → in_turn n f ≡ in_turn n g
unfolding in_turn
turns_same zero f g h = refl
turns_same (suc n) f g h =
    let last : f (suc n) ≡ g (suc n) = h (suc n) (record { low = omega arith; high = omega arith }) in
    let before = turns_same n f g (λ k a. h k (record { low = a.low; high = omega (arith, a.high) })) in
    ap₂ (λ x y. x ++ y) before last

pub same-drawing : (n : ℕ) (p q : Network) → ((a b : ℕ) → Node n a → Node n b → points p a b ≡ points q a b) → drawing n p ≡ drawing n q
unfolding drawing arrows_of arrow_to
same-drawing n p q h =
    ap (digraph_of n) (turns_same n (λ a. in_turn n (arrow_to p a)) (λ a. in_turn n (arrow_to q a)) (λ a i.
    turns_same n (arrow_to p a) (arrow_to q a) (λ b j. ap (λ (t : Bool). cond t (edge a b ∷ []) []) (h a b i j))))
