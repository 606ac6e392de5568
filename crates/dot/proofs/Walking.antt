-- The steps of the walk over the lines of a text: a line written and compared, the node lines and the edge lines one by one, the end.
use Prim.Native.Nat.{ℕ, suc, ◌+◌, ◌-◌, ◌≤◌, ◌<◌}
use native.Mathlib.Nat.{zero-add}
use native.Mathlib.Numerals.{add-one}
use native.Mathlib.Omega.{arith}
use mathlib.Core.Bool.{Bool, true, false, not, cond, ◌&&◌, and-false}
use mathlib.Core.List.{List, [], ◌∷◌, ◌++◌, flat_map}
use mathlib.Core.Path.{◌≡◌, refl, sym, ap, ap₂, ◌∙◌}
use borrow.Author.Tests.{ne_eqb, not-true, not-false}
use lib.Dec.{eqb, ltb}
use lib.ListN.{length, take, drop, length-append, length-drop, drop_of_length-le}
use lib.Seq.{take-append_seam, drop-drop}
use Rattle.basics.specs.Bytes.{same_bytes}
use Rattle.basics.proofs.Tests.{Choice, yes!, no!, choice}
use Rattle.text.specs.Text.{decimal, in_turn}
use Rattle.text.specs.inner.Poured.{poured}
use Rattle.text.proofs.TextLaws.{length-poured, poured-all}
use Rattle.dot.specs.Graph.{foot, line_end, node_line, dash, edge_line, edge_lines}
use Rattle.dot.specs.Sketch.{starts_with, nodes_at, edge_at, numbered, starts_with_edge, edges_at, edges_of}
use Rattle.dot.specs.declared.Edge.{Edge}
use Rattle.dot.proofs.Edges.{edges-stop, edges_step, found-long, line-some}
use Rattle.dot.proofs.Starts.{starts-long}

-- ---- a line of at most 32 bytes, written to the front of 32

module _ (room line after : List ℕ) (size : ℕ) (wide : length room ≡ 32) (put : after ≡ poured room 0 line) (long : size ≡ 0 + length line)
    (short : length line ≤ 32) where
  size_is : size ≡ length line
  size_is = long ∙ zero-add (length line)

  pub line-fits : size ≤ length after
  line-fits = omega (arith, ap length put, length-poured room 0 line, size_is, wide, short)

  line-front : take size after ≡ line
  line-front =
      let all : after ≡ line ++ drop (length line) room = put ∙ poured-all room line (omega (arith, wide, short)) in
      ap₂ take size_is all ∙ take-append_seam line (drop (length line) room)

  pub front-size : size ≡ length (take size after)
  front-size = size_is ∙ sym (ap length line-front)

  module _ (ys : List ℕ) (t : Bool) (said : t ≡ starts_with (take size after) ys) where
    starts : t ≡ starts_with line ys
    starts = said ∙ ap (λ (l : List ℕ). starts_with l ys) line-front

    pub line-there : t ≡ true → size ≡ cond (starts_with line ys) (length line) 0
    line-there h = size_is ∙ sym (ap (λ (b : Bool). cond b (length line) 0) (sym starts ∙ h))

    pub line-not-there : t ≡ false → 0 ≡ cond (starts_with line ys) (length line) 0
    line-not-there h = sym (ap (λ (b : Bool). cond b (length line) 0) (sym starts ∙ h))

-- ---- an edge line: its numbers first

abbrev size_at : List ℕ → ℕ
size_at ys = cond (starts_with_edge dash ys) (length (edge_line dash (edge_at ys))) 0

module _ (ys : List ℕ) (e : Edge) (is : e ≡ edge_at ys) where
  pub edge-unfit : not (ltb e.first 100 && ltb e.second 100) ≡ true
      → 0 ≡ cond (starts_with_edge dash ys) (length (edge_line dash (edge_at ys))) 0
  unfolding starts_with_edge numbered
  edge-unfit h =
      let unfit : (ltb (edge_at ys).first 100 && ltb (edge_at ys).second 100) ≡ false =
      ap (λ (x : Edge). ltb x.first 100 && ltb x.second 100) (sym is) ∙ not-true (ltb e.first 100 && ltb e.second 100) h in
      rw unfit refl

  pub edge-fit : not (ltb e.first 100 && ltb e.second 100) ≡ false → (s : ℕ) → s ≡ cond (starts_with (edge_line dash e) ys) (length (edge_line dash e)) 0
      → s ≡ cond (starts_with_edge dash ys) (length (edge_line dash (edge_at ys))) 0
  unfolding starts_with_edge numbered
  edge-fit h s p =
      let fit : (ltb (edge_at ys).first 100 && ltb (edge_at ys).second 100) ≡ true =
      ap (λ (x : Edge). ltb x.first 100 && ltb x.second 100) (sym is) ∙ not-false (ltb e.first 100 && ltb e.second 100) h in
      p ∙ (ap (λ (x : Edge). cond (starts_with (edge_line dash x) ys) (length (edge_line dash x)) 0) is ∙ rw fit refl)

-- ---- the edge lines from `at` to `end`: what is found from `end` on is the rest

pub record EdgesTo (xs : List ℕ) (at end : ℕ) : Type 0 where
  pub inside : end ≤ length xs
  pub rest : end + length (edge_lines dash (edges_of dash (drop end xs))) ≡ at + length (edge_lines dash (edges_of dash (drop at xs)))

pub edges-start : (xs : List ℕ) (at : ℕ) → at ≤ length xs → EdgesTo xs at at
edges-start xs at h = record { inside = h; rest = refl }

none-long : (ys : List ℕ) → starts_with_edge dash ys ≡ false → length (edge_lines dash (edges_of dash ys)) ≡ 0
unfolding edge_lines flat_map
none-long ys h = ap (λ (es : List Edge). length (edge_lines dash es)) (edges-stop dash ys h)

one-long : (ys : List ℕ) → starts_with_edge dash ys ≡ true
    → length (edge_lines dash (edges_of dash ys))
    ≡ length (edge_line dash (edge_at ys)) + length (edge_lines dash (edges_of dash (drop (length (edge_line dash (edge_at ys))) ys)))
unfolding edge_lines flat_map
one-long ys h =
    let behind = drop (length (edge_line dash (edge_at ys))) ys in
    ap (λ (es : List Edge). length (edge_lines dash es)) (edges_step dash ys h)
    ∙ length-append (edge_line dash (edge_at ys)) (edge_lines dash (edges_of dash behind))

-- a size that is 0 exactly where no line stands
size_none : (ys : List ℕ) (s : ℕ) → s ≡ size_at ys → s ≡ 0 → starts_with_edge dash ys ≡ false
size_none ys s e z = go (choice (starts_with_edge dash ys))
  where
    go : Choice (starts_with_edge dash ys) → starts_with_edge dash ys ≡ false
    go (no! h) = h
    go (yes! h) = let f : s ≡ length (edge_line dash (edge_at ys)) = e ∙ rw h refl in absurd (omega (arith, f, z, line-some dash (edge_at ys)))

size-some : (ys : List ℕ) (s : ℕ) → s ≡ size_at ys → (s ≡ 0 → ⊥) → (starts_with_edge dash ys ≡ true) × (s ≡ length (edge_line dash (edge_at ys)))
size-some ys s e d = go (choice (starts_with_edge dash ys))
  where
    go : Choice (starts_with_edge dash ys) → (starts_with_edge dash ys ≡ true) × (s ≡ length (edge_line dash (edge_at ys)))
    go (yes! h) = (h, e ∙ rw h refl)
    go (no! h) = absurd (d (e ∙ rw h refl))

nothing-long : length (edge_lines dash (edges_of dash [])) ≡ 0
unfolding edges_of edges_at edge_lines flat_map
nothing-long = refl

module _ (xs : List ℕ) (at end : ℕ) (w : EdgesTo xs at end) where
  pub edges-over : length xs ≤ end → (end ≡ at + length (edge_lines dash (edges_of dash (drop at xs)))) × (end ≤ length xs)
  edges-over h =
      let none : length (edge_lines dash (edges_of dash (drop end xs))) ≡ 0 =
      ap (λ (l : List ℕ). length (edge_lines dash (edges_of dash l))) (drop_of_length-le xs h) ∙ nothing-long in
      (omega (arith, none, w.rest), w.inside)

  module _ (s : ℕ) (e : s ≡ size_at (drop end xs)) where
    pub edges-ended : s ≡ 0 → (end ≡ at + length (edge_lines dash (edges_of dash (drop at xs)))) × (end ≤ length xs)
    edges-ended z = (omega (arith, none-long (drop end xs) (size_none (drop end xs) s e z), w.rest), w.inside)

    pub edge-inside : end + s ≤ length xs
    edge-inside = go (choice (starts_with_edge dash (drop end xs)))
      where
        go : Choice (starts_with_edge dash (drop end xs)) → end + s ≤ length xs
        go (no! h) = let z : s ≡ 0 = e ∙ rw h refl in omega (arith, z, w.inside)
        go (yes! h) =
            let f : s ≡ length (edge_line dash (edge_at (drop end xs))) = e ∙ rw h refl in
            omega (arith, f, found-long dash (drop end xs) h, length-drop end xs, w.inside)

    pub edges-next : (s ≡ 0 → ⊥) → EdgesTo xs at (end + s)
    edges-next d =
        let some = size-some (drop end xs) s e d in
        let on : drop (length (edge_line dash (edge_at (drop end xs)))) (drop end xs) ≡ drop (end + s) xs =
        drop-drop (length (edge_line dash (edge_at (drop end xs)))) end xs ∙ ap (λ (k : ℕ). drop (end + k) xs) (sym some.1) in
        let long = one-long (drop end xs) some.0 ∙ ap (λ (l : List ℕ). length (edge_line dash (edge_at (drop end xs))) + length
        (edge_lines dash (edges_of dash l))) on in
        record { inside = edge-inside; rest = omega (arith, long, some.1, w.rest) }

-- ---- the node lines from `at` to `end`, the next being k

pub record NodesTo (xs : List ℕ) (at end k : ℕ) : Type 0 where
  pub low : 1 ≤ k
  pub high : k ≤ 17
  pub inside : end ≤ length xs
  pub place : end ≡ at + length (in_turn (k - 1) node_line)
  pub rest : (k - 1) + nodes_at (17 - k) k (drop end xs) ≡ nodes_at 16 1 (drop at xs)

pub nodes-start : (xs : List ℕ) (at : ℕ) → at ≤ length xs → NodesTo xs at at 1
unfolding in_turn
nodes-start xs at h = record { low = omega arith; high = omega arith; inside = h; place = omega arith; rest = zero-add _ }

abbrev node_size_at : ℕ → List ℕ → ℕ
node_size_at k ys = cond (starts_with (node_line k) ys) (length (node_line k)) 0

node-some : (k : ℕ) → 4 ≤ length (node_line k)
unfolding node_line
node-some k = omega (arith, length-append (decimal k) line_end)

module _ (xs : List ℕ) (at end k : ℕ) (w : NodesTo xs at end k) where
  pub nodes-full : 16 < k → (16 ≡ nodes_at 16 1 (drop at xs)) × (end ≡ at + length (in_turn 16 node_line)) × (end ≤ length xs)
  unfolding nodes_at
  nodes-full h =
      let e : k ≡ 17 = omega (arith, h, w.high) in
      let at17 : NodesTo xs at end 17 = rw (← e) w in
      (at17.rest, at17.place, at17.inside)

  module _ (few : k ≤ 16) (s : ℕ) (e : s ≡ node_size_at k (drop end xs)) where
    one_less : 17 - k ≡ suc (16 - k)
    one_less = omega (arith, few)

    here : nodes_at (17 - k) k (drop end xs)
        ≡ cond (starts_with (node_line k) (drop end xs)) (suc (nodes_at (16 - k) (suc k) (drop (length (node_line k)) (drop end xs)))) 0
    unfolding nodes_at
    here = ap (λ (m : ℕ). nodes_at m k (drop end xs)) one_less

    pub nodes-ended : s ≡ 0 → (k - 1 ≡ nodes_at 16 1 (drop at xs)) × (end ≡ at + length (in_turn (k - 1) node_line)) × (end ≤ length xs)
    nodes-ended z = (go (choice (starts_with (node_line k) (drop end xs))), w.place, w.inside)
      where
        go : Choice (starts_with (node_line k) (drop end xs)) → k - 1 ≡ nodes_at 16 1 (drop at xs)
        go (yes! h) = let f : s ≡ length (node_line k) = e ∙ rw h refl in absurd (omega (arith, f, z, node-some k))
        go (no! h) = let none : nodes_at (17 - k) k (drop end xs) ≡ 0 = here ∙ rw h refl in omega (arith, none, w.rest)

    pub node-inside : end + s ≤ length xs
    node-inside = go (choice (starts_with (node_line k) (drop end xs)))
      where
        go : Choice (starts_with (node_line k) (drop end xs)) → end + s ≤ length xs
        go (no! h) = let z : s ≡ 0 = e ∙ rw h refl in omega (arith, z, w.inside)
        go (yes! h) =
            let f : s ≡ length (node_line k) = e ∙ rw h refl in
            omega (arith, f, starts-long (node_line k) (drop end xs) h, length-drop end xs, w.inside)

    shifted : (ys : List ℕ) → nodes_at (17 - (k + 1)) (k + 1) ys ≡ nodes_at (16 - k) (suc k) ys
    shifted ys =
        let a : 17 - (k + 1) ≡ 16 - k = omega (arith, few) in
        ap₂ (λ (m j : ℕ). nodes_at m j ys) a (add-one k)

    one_line : length (in_turn (k + 1 - 1) node_line) ≡ length (in_turn (k - 1) node_line) + length (node_line k)
    unfolding in_turn
    one_line =
        let a : k + 1 - 1 ≡ suc (k - 1) = omega (arith, w.low) in
        let b : suc (k - 1) ≡ k = omega (arith, w.low) in
        ap (λ (j : ℕ). length (in_turn j node_line)) a
        ∙ (length-append (in_turn (k - 1) node_line) (node_line (suc (k - 1))) ∙ ap (λ (j : ℕ). length (in_turn (k - 1) node_line) + length (node_line j)) b)

    pub nodes-next : (s ≡ 0 → ⊥) → NodesTo xs at (end + s) (k + 1)
    nodes-next d = go (choice (starts_with (node_line k) (drop end xs)))
      where
        go : Choice (starts_with (node_line k) (drop end xs)) → NodesTo xs at (end + s) (k + 1)
        go (no! h) = absurd (d (e ∙ rw h refl))
        go (yes! h) =
            let f : s ≡ length (node_line k) = e ∙ rw h refl in
            let on : drop (length (node_line k)) (drop end xs) ≡ drop (end + s) xs =
            drop-drop (length (node_line k)) end xs ∙ ap (λ (j : ℕ). drop (end + j) xs) (sym f) in
            let some : nodes_at (17 - k) k (drop end xs) ≡ suc (nodes_at (16 - k) (suc k) (drop (end + s) xs)) =
            here ∙ (rw h refl ∙ ap (λ (l : List ℕ). suc (nodes_at (16 - k) (suc k) l)) on) in
            let kept : nodes_at (17 - (k + 1)) (k + 1) (drop (end + s) xs) ≡ nodes_at (16 - k) (suc k) (drop (end + s) xs) = shifted (drop (end + s) xs) in
            let lines : length (in_turn (k + 1 - 1) node_line) ≡ length (in_turn (k - 1) node_line) + length (node_line k) = one_line in
            record {
              low = omega arith;
              high = omega (arith, few);
              inside = node-inside;
              place = omega (arith, w.place, lines, f);
              rest = omega (arith, kept, some, w.rest, w.low);
            }

-- ---- the end

short-foot : (ys : List ℕ) → (eqb (length ys) 2 && starts_with foot ys) ≡ same_bytes ys foot
unfolding starts_with
short-foot [] = refl
short-foot (x ∷ []) = sym (and-false (eqb x 125))
short-foot (x ∷ y ∷ []) = refl
short-foot (x ∷ y ∷ z ∷ ys) =
    let long : eqb (length (x ∷ y ∷ z ∷ ys)) 2 ≡ false = ne_eqb (length (x ∷ y ∷ z ∷ ys)) 2 (λ e. omega (arith, e)) in
    rw long (sym (rw (and-false (eqb y 10), and-false (eqb x 125)) refl))

pub ends_is : (xs : List ℕ) (at : ℕ) (t : Bool) → t ≡ starts_with foot (drop at xs) → (eqb (length xs - at) 2 && t) ≡ same_bytes (drop at xs) foot
ends_is xs at t e = ap₂ (λ (n : ℕ) (b : Bool). eqb n 2 && b) (sym (length-drop at xs)) e ∙ short-foot (drop at xs)
