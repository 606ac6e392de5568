-- The steps of writing: looks at tables in which the check found no fault, and the text poured line by line.
use Prim.Native.Nat.{ℕ, zero, suc, ◌≤◌}
use native.Mathlib.Nat.{add-zero, mul-le-mul}
use native.Mathlib.Omega.{arith}
use mathlib.Core.Bool.{Bool, true, false, ◌&&◌}
use mathlib.Core.List.{List, [], ◌∷◌, ◌++◌, append-nil, append_assoc, flat_map}
use mathlib.Core.Path.{◌≡◌, refl, sym, ap, ◌∙◌}
use lib.ListN.{length}
use Rattle.dot.specs.Graph.{edge, digraph_head, foot, node_line, arrow, edge_line, edge_lines, text_of}
use Rattle.dot.specs.declared.Edge.{Edge}
use Rattle.dot.proofs.Pieces.{edge-le, node-le}
use Rattle.height.specs.Height.{height_key}
use Rattle.height.specs.Order.{before}
use Rattle.height.specs.declared.Height.{Height}
use Rattle.protocol.specs.Network.{Network, up_to, own}
use Rattle.text.specs.Text.{in_turn}
use Rattle.text.specs.inner.Poured.{poured}
use Rattle.text.proofs.PourLaws.{Poured, in-turn-le, in-turn-same}
use Rattle.drawing.specs.Drawing.{points, arrow_to, arrows_of, drawing}

-- ---- looks

pub points-is : (p : Network) (a b : ℕ) {x y z : Bool} {low high : Height} → x ≡ up_to p a b → y ≡ up_to p b a → low ≡ own p b → high ≡ own p a
    → z ≡ before (height_key low) (height_key high) → (x && y && z) ≡ points p a b
unfolding points
points-is p a b x y l h z = rw (x, y, z, l, h) refl

-- ---- one arrow

module _ (p : Network) (a b : ℕ) (t : Bool) (said : t ≡ points p a b) where
  pub arrow-there : t ≡ true → edge_line arrow (edge a b) ≡ edge_lines arrow (arrow_to p a b)
  unfolding arrow_to edge_lines flat_map
  arrow-there h = rw (sym said ∙ h) (sym (append-nil (edge_line arrow (edge a b))))

  pub arrow-missing : t ≡ false → [] ≡ edge_lines arrow (arrow_to p a b)
  unfolding arrow_to edge_lines flat_map
  arrow-missing h = rw (sym said ∙ h) refl

arrow-le' : (p : Network) (a b : ℕ) (t : Bool) → t ≡ points p a b → length (edge_lines arrow (arrow_to p a b)) ≤ 28
arrow-le' p a b true e = omega (arith, edge-le arrow (edge a b), ap length (arrow-there p a b true e refl))
arrow-le' p a b false e = omega (arith, ap length (arrow-missing p a b false e refl))

pub arrow-le : (p : Network) (a b : ℕ) → length (edge_lines arrow (arrow_to p a b)) ≤ 28
arrow-le p a b = arrow-le' p a b (points p a b) refl

pub row-le : (n : ℕ) (p : Network) → n ≤ 16 → (a : ℕ) → length (in_turn n (λ b. edge_lines arrow (arrow_to p a b))) ≤ 448
row-le n p few a =
    omega (arith, in-turn-le 28 n (λ b. edge_lines arrow (arrow_to p a b)) (arrow-le p a), mul-le-mul few (le-28))
  where
    le-28 : 28 ≤ 28
    le-28 = omega arith

-- ---- all arrows

lines-append : (mark : ℕ) (xs ys : List Edge) → edge_lines mark (xs ++ ys) ≡ edge_lines mark xs ++ edge_lines mark ys
unfolding edge_lines flat_map
lines-append mark [] ys = refl
lines-append mark (x ∷ xs) ys =
    ap (λ (l : List ℕ). edge_line mark x ++ l) (lines-append mark xs ys) ∙ sym (append_assoc (edge_line mark x) (edge_lines mark xs) (edge_lines mark ys))

lines-in-turn : (mark n : ℕ) (f : ℕ → List Edge) → edge_lines mark (in_turn n f) ≡ in_turn n (λ k. edge_lines mark (f k))
unfolding in_turn edge_lines flat_map
lines-in-turn mark zero f = refl
lines-in-turn mark (suc n) f =
    lines-append mark (in_turn n f) (f (suc n)) ∙ ap (λ (l : List ℕ). l ++ edge_lines mark (f (suc n))) (lines-in-turn mark n f)

pub all-arrows : (n : ℕ) (p : Network) → in_turn n (λ a. in_turn n (λ b. edge_lines arrow (arrow_to p a b))) ≡ edge_lines arrow (arrows_of n p)
unfolding arrows_of
all-arrows n p =
    sym (lines-in-turn arrow n (λ a. in_turn n (arrow_to p a))
    ∙ in-turn-same n _ _ (λ i l. lines-in-turn arrow n (arrow_to p (suc i))))

-- ---- the whole text

pub drawing-parts : (n : ℕ) (p : Network) → digraph_head ++ (in_turn n node_line ++ (edge_lines arrow (arrows_of n p) ++ foot)) ≡ drawing n p
unfolding drawing text_of
drawing-parts n p = refl

pub nothing-poured : (out : List ℕ) (at : ℕ) → Poured out at [] out at
unfolding poured
nothing-poured out at = record { bytes = refl; offset = sym (add-zero at) }

-- a drawing is short
pub arrows-le : (n : ℕ) (p : Network) → n ≤ 16 → length (edge_lines arrow (arrows_of n p)) ≤ 7168
arrows-le n p few =
    let rows = in-turn-le 448 n (λ a. in_turn n (λ b. edge_lines arrow (arrow_to p a b))) (row-le n p few) in
    omega (arith, rows, ap length (all-arrows n p), few)

pub nodes-le : (n : ℕ) → n ≤ 16 → length (in_turn n node_line) ≤ 224
nodes-le n few = omega (arith, in-turn-le 14 n node_line node-le, few)
