-- How long a drawing can be: no drawing of n nodes is longer than `drawing_length n`, and where every two nodes are linked it is as long.
use Prim.Native.Nat.{ℕ, zero, suc, ◌+◌, ◌-◌, ◌*◌, ◌≤◌, ◌<◌}
use native.Mathlib.Nat.{mul-add}
use native.Mathlib.Omega.{arith}
use mathlib.Core.Bool.{true, false, not}
use mathlib.Core.List.{List, [], ◌∷◌, ◌++◌, flat_map}
use mathlib.Core.Path.{◌≡◌, refl, sym, ap, ◌∙◌}
use borrow.Author.Tests.{le-leb, lt-ltb, le-ltb, ltb-true, ltb-false}
use lib.Dec.{ltb}
use lib.ListN.{length, length-append}
use Rattle.basics.proofs.Tests.{and_both, Choice, yes!, no!, choice}
use Rattle.dot.specs.Graph.{edge, digraph_head, foot, line_end, node_line, arrow, edge_line, edge_lines, text_of}
use Rattle.dot.specs.declared.Edge.{Edge}
use Rattle.dot.proofs.Numbers.{decimal-one, decimal-two}
use Rattle.dot.proofs.Pieces.{edge-length}
use Rattle.protocol.specs.Holds.{sound}
use Rattle.protocol.specs.Network.{Two, Network, up_to}
use Rattle.text.specs.Text.{decimal, in_turn}
use Rattle.drawing.specs.Draw.{digits_to, drawing_length}
use Rattle.drawing.specs.Drawing.{points, arrow_to, arrows_of, drawing}
use Rattle.drawing.proofs.Arrows.{no-own-arrow, no-arrow-back, one-arrow}
use Rattle.drawing.proofs.Totals.{total, total_pairs, total-same, total-more, pairs-le, pairs-same}

-- ---- digits

-- how many digits k has
unfoldable pub width : ℕ → ℕ
width k = length (decimal k)

width_one : (k : ℕ) → k < 10 → width k ≡ 1
unfolding width
width_one k h = ap length (decimal-one k h)

width_two : (k : ℕ) → 10 ≤ k → k < 100 → width k ≡ 2
unfolding width
width_two k l h = ap length (decimal-two k l h)

digits-few : (n : ℕ) → n < 10 → digits_to n ≡ n
unfolding digits_to
digits-few n h = rw (lt-ltb n 10 h) refl

digits-many : (n : ℕ) → 10 ≤ n → digits_to n ≡ 2 * n - 9
unfolding digits_to
digits-many n h = rw (le-ltb n 10 h) refl

digits_more : (n : ℕ) → suc n < 100 → digits_to n + width (suc n) ≡ digits_to (suc n)
digits_more n h = go (choice (ltb n 10)) (choice (ltb (suc n) 10))
  where
    go : Choice (ltb n 10) → Choice (ltb (suc n) 10) → digits_to n + width (suc n) ≡ digits_to (suc n)
    go (yes! a) (yes! b) =
        let i = ltb-true n 10 a in
        let j = ltb-true (suc n) 10 b in
        omega (arith, digits-few n i, digits-few (suc n) j, width_one (suc n) j)
    go (yes! a) (no! b) =
        let i = ltb-true n 10 a in
        let j = ltb-false (suc n) 10 b in
        omega (arith, i, j, digits-few n i, digits-many (suc n) j, width_two (suc n) j h)
    go (no! a) b =
        let i = ltb-false n 10 a in
        let j : 10 ≤ suc n = omega (arith, i) in
        omega (arith, i, digits-many n i, digits-many (suc n) j, width_two (suc n) j h)

-- the digits of 1 to n
digits-total : (n : ℕ) → n < 100 → total n width ≡ digits_to n
unfolding total
digits-total zero h = sym (digits-few 0 (omega arith))
digits-total (suc n) h = ap (λ (x : ℕ). x + width (suc n)) (digits-total n (omega arith)) ∙ digits_more n h

-- ---- lengths as totals

turns-length : {A : Type 0} (n : ℕ) (f : ℕ → List A) → length (in_turn n f) ≡ total n (λ k. length (f k))
unfolding in_turn total
turns-length zero f = refl
turns-length (suc n) f = omega (arith, length-append (in_turn n f) (f (suc n)), turns-length n f)

lines-append : (es fs : List Edge) → length (edge_lines arrow (es ++ fs)) ≡ length (edge_lines arrow es) + length (edge_lines arrow fs)
unfolding edge_lines flat_map
lines-append [] fs = omega arith
lines-append (e ∷ es) fs =
    omega (
      arith,
      length-append (edge_line arrow e) (edge_lines arrow (es ++ fs)),
      length-append (edge_line arrow e) (edge_lines arrow es),
      lines-append es fs,
    )

lines-length : (n : ℕ) (f : ℕ → List Edge) → length (edge_lines arrow (in_turn n f)) ≡ total n (λ k. length (edge_lines arrow (f k)))
unfolding in_turn total edge_lines flat_map
lines-length zero f = refl
lines-length (suc n) f = omega (arith, lines-append (in_turn n f) (f (suc n)), lines-length n f)

node-length : (k : ℕ) → length (node_line k) ≡ 4 + width k
unfolding node_line width
node-length k = omega (arith, length-append (decimal k) line_end)

-- the length of the line from a to b, where there is one
unfoldable weight : Network → ℕ → ℕ → ℕ
weight p a b = length (edge_lines arrow (arrow_to p a b))

weight-some : (p : Network) (a b : ℕ) → points p a b ≡ true → weight p a b ≡ 8 + width b + width a
unfolding weight width arrow_to edge_lines flat_map
weight-some p a b h = rw h (omega (arith, length-append (edge_line arrow (edge a b)) [], edge-length arrow (edge a b)))

weight-none : (p : Network) (a b : ℕ) → points p a b ≡ false → weight p a b ≡ 0
unfolding weight arrow_to edge_lines flat_map
weight-none p a b h = rw h refl

module _ (n : ℕ) (p : Network) where
  arrows-length : length (edge_lines arrow (arrows_of n p)) ≡ total_pairs n (weight p)
  unfolding arrows_of total_pairs weight
  arrows-length =
      lines-length n (λ a. in_turn n (arrow_to p a))
      ∙ total-same n (λ a. length (edge_lines arrow (in_turn n (arrow_to p a)))) (λ a. total n (weight p a)) (λ a i. lines-length n (arrow_to p a))

  nodes-length : length (in_turn n node_line) ≡ n * 4 + total n width
  nodes-length =
      turns-length n node_line
      ∙ (total-same n (λ k. length (node_line k)) (λ k. 4 + width k) (λ k i. node-length k) ∙ total-more n 4 width)

  drawing-length : length (drawing n p) ≡ 17 + (total_pairs n (weight p) + 4 * n + total n width)
  unfolding drawing text_of
  drawing-length =
      omega (
        arith,
        length-append digraph_head (in_turn n node_line ++ (edge_lines arrow (arrows_of n p) ++ foot)),
        length-append (in_turn n node_line) (edge_lines arrow (arrows_of n p) ++ foot),
        length-append (edge_lines arrow (arrows_of n p)) foot,
        nodes-length,
        arrows-length,
      )

  most-is : 1 ≤ n → n ≤ 16 → drawing_length n ≡ 17 + (4 * (n * n) + n * total n width)
  unfolding drawing_length
  most-is low few =
      let d : total n width ≡ digits_to n = digits-total n (omega arith) in
      rw (and_both (le-leb 1 n low) (le-leb n 16 few), d) (omega (arith, mul-add n (4 * n) (digits_to n)))

  -- one of the two at most
  two-le : (a b : ℕ) → Two n a b → weight p a b + weight p b a ≤ 8 + width b + width a
  two-le a b t = go (choice (points p a b)) (choice (points p b a))
    where
      go : Choice (points p a b) → Choice (points p b a) → weight p a b + weight p b a ≤ 8 + width b + width a
      go (yes! h) k = omega (arith, weight-some p a b h, weight-none p b a (no-arrow-back p a b h))
      go (no! h) (yes! k) = omega (arith, weight-none p a b h, weight-some p b a k)
      go (no! h) (no! k) = omega (arith, weight-none p a b h, weight-none p b a k)

  pub drawing-fits : 1 ≤ n → n ≤ 16 → length (drawing n p) ≤ drawing_length n
  drawing-fits low few =
      let most = pairs-le (weight p) width n two-le (λ a i. weight-none p a a (no-own-arrow p a)) in
      omega (arith, drawing-length, most-is low few, most)

  -- one of the two exactly
  two-same : (a b : ℕ) → points p b a ≡ not (points p a b) → weight p a b + weight p b a ≡ 8 + width b + width a
  two-same a b e = go (choice (points p a b))
    where
      go : Choice (points p a b) → weight p a b + weight p b a ≡ 8 + width b + width a
      go (yes! h) = omega (arith, weight-some p a b h, weight-none p b a (no-arrow-back p a b h))
      go (no! h) = let k : points p b a ≡ true = e ∙ ap not h in omega (arith, weight-none p a b h, weight-some p b a k)

  pub longest-reached : 1 ≤ n → n ≤ 16 → ((a b : ℕ) → Two n a b → points p b a ≡ not (points p a b)) → length (drawing n p) ≡ drawing_length n
  longest-reached low few linked =
      let all = pairs-same (weight p) width n (λ a b t. two-same a b (linked a b t)) (λ a i. weight-none p a a (no-own-arrow p a)) in
      omega (arith, drawing-length, most-is low few, all)

-- every two linked, in a network that breaks no rule
pub full-drawing : (n : ℕ) (p : Network) → 1 ≤ n → n ≤ 16 → sound n p ≡ true → ((a b : ℕ) → Two n a b → up_to p a b ≡ true)
    → length (drawing n p) ≡ drawing_length n
full-drawing n p low few s h =
    longest-reached n p low few (λ a b t.
    let turned : Two n b a = record { one = t.other; other = t.one; differ = λ e. t.differ (sym e) } in
    one-arrow n p s a b t (h a b t) (h b a turned))
