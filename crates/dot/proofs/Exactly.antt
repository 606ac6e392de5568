-- A text is taken exactly when it is the text of an undirected graph of 1 to 16 nodes with numbers below 100, and then as that graph.
use Prim.Native.Nat.{ℕ, ◌≤◌}
use native.Mathlib.Omega.{arith}
use mathlib.Core.Bool.{Bool, true, false, ◌&&◌}
use mathlib.Core.List.{List, []}
use mathlib.Core.Path.{◌≡◌, refl, sym, ap, ap₂, ◌∙◌}
use borrow.Author.Tests.{le-leb, leb-true}
use lib.Dec.{leb}
use lib.ListN.{length, drop}
use Rattle.basics.specs.Bytes.{same_bytes}
use Rattle.basics.specs.Functions.{all}
use Rattle.basics.proofs.BytesLaws.{same_bytes-equal, bytes_same}
use Rattle.basics.proofs.Tests.{and_left, and_right, and_both, Choice, yes!, no!, choice}
use Rattle.refusal.specs.Outcome.{Answered, accepted, refused_with}
use Rattle.refusal.specs.Refusal.{why}
use Rattle.text.specs.Text.{in_turn}
use Rattle.dot.specs.Graph.{graph_head, node_line, dash, graph_of}
use Rattle.dot.specs.Sketch.{Sketch, sketch_with, numbered, nodes_in, edges_in, sketch_of}
use Rattle.dot.specs.declared.Edge.{Edge}
use Rattle.dot.proofs.Edges.{edges-behind}
use Rattle.dot.proofs.Nodes.{counted}
use Rattle.dot.proofs.Tells.{nodes-back, edges-back}

-- ---- the statement

-- the text of n nodes and these edges
pub record IsSketch (xs : List ℕ) (n : ℕ) (es : List Edge) : Type 0 where
  pub low : 1 ≤ n
  pub few : n ≤ 16
  pub numbers : all numbered es ≡ true
  pub text : xs ≡ graph_of n es

-- taken exactly then, and refused with 16 exactly where there are no such n and es
pub record Exactly (xs : List ℕ) : Type 0 where
  pub taken : (n : ℕ) (es : List Edge) → IsSketch xs n es → sketch_of xs ≡ accepted (sketch_with n es)
  pub only : (n : ℕ) (es : List Edge) → sketch_of xs ≡ accepted (sketch_with n es) → IsSketch xs n es
  pub refused : ((n : ℕ) (es : List Edge) → IsSketch xs n es → ⊥) → sketch_of xs ≡ refused_with (sketch_with 0 []) (why 16 0 0)
  pub no_other : (sketch_of xs).why.number ≡ 16 → (n : ℕ) (es : List Edge) → IsSketch xs n es → ⊥

-- ---- the proof

module _ (xs : List ℕ) where
  abbrev nodes : ℕ
  nodes = nodes_in graph_head xs

  abbrev edges : List Edge
  edges = edges_in graph_head dash xs

  pub nodes-few : nodes_in graph_head xs ≤ 16
  unfolding nodes_in
  nodes-few = (counted 0 16 (drop (length graph_head) xs)).most

  pub edges-numbered : all numbered (edges_in graph_head dash xs) ≡ true
  unfolding edges_in
  edges-numbered =
      let ys = drop (length (in_turn nodes node_line)) (drop (length graph_head) xs) in
      (edges-behind dash (length ys) ys (omega arith)).numbers

  abbrev fits : Bool
  fits = leb 1 nodes && same_bytes xs (graph_of nodes edges)

  pub found : 1 ≤ nodes_in graph_head xs → xs ≡ graph_of (nodes_in graph_head xs) (edges_in graph_head dash xs)
      → sketch_of xs ≡ accepted (sketch_with (nodes_in graph_head xs) (edges_in graph_head dash xs))
  unfolding sketch_of
  found low e = let t : fits ≡ true = and_both (le-leb 1 nodes low) (bytes_same xs (graph_of nodes edges) e) in rw t refl

  pub not_found : fits ≡ false → sketch_of xs ≡ refused_with (sketch_with 0 []) (why 16 0 0)
  unfolding sketch_of
  not_found h = rw h refl

  fitting : fits ≡ true → IsSketch xs nodes edges
  fitting h = record {
    low = leb-true 1 nodes (and_left (leb 1 nodes) (same_bytes xs (graph_of nodes edges)) h);
    few = nodes-few;
    numbers = edges-numbered;
    text = same_bytes-equal xs (graph_of nodes edges) (and_right (leb 1 nodes) (same_bytes xs (graph_of nodes edges)) h);
  }

  is-taken : (n : ℕ) (es : List Edge) → IsSketch xs n es → sketch_of xs ≡ accepted (sketch_with n es)
  is-taken n es s =
      let a : nodes ≡ n = ap (nodes_in graph_head) s.text ∙ nodes-back graph_head dash n es s.few s.numbers in
      let b : edges ≡ es = ap (edges_in graph_head dash) s.text ∙ edges-back graph_head dash n es s.few s.numbers in
      let low : 1 ≤ nodes = omega (arith, a, s.low) in
      let text : xs ≡ graph_of nodes edges = s.text ∙ sym (ap₂ graph_of a b) in
      found low text ∙ ap₂ (λ (k : ℕ) (l : List Edge). accepted (sketch_with k l)) a b

  is-only : (n : ℕ) (es : List Edge) → sketch_of xs ≡ accepted (sketch_with n es) → IsSketch xs n es
  is-only n es e = go (choice fits)
    where
      go : Choice fits → IsSketch xs n es
      go (yes! h) =
          let s = fitting h in
          let same = sym (found s.low s.text) ∙ e in
          let a : nodes ≡ n = ap (λ (x : Answered Sketch). x.value.nodes) same in
          let b : edges ≡ es = ap (λ (x : Answered Sketch). x.value.edges) same in
          rw (← a, ← b) s
      go (no! h) =
          let z : ◌≡◌ {A = ℕ} 16 0 = ap (λ (x : Answered Sketch). x.why.number) (sym (not_found h) ∙ e) in absurd (omega (arith, z))

  is-refused : ((n : ℕ) (es : List Edge) → IsSketch xs n es → ⊥) → sketch_of xs ≡ refused_with (sketch_with 0 []) (why 16 0 0)
  is-refused none = go (choice fits)
    where
      go : Choice fits → sketch_of xs ≡ refused_with (sketch_with 0 []) (why 16 0 0)
      go (yes! h) = absurd (none nodes edges (fitting h))
      go (no! h) = not_found h

  pub exactly : Exactly xs
  exactly = record {
    taken = is-taken;
    only = is-only;
    refused = is-refused;
    no_other = λ r n es s. let z : ◌≡◌ {A = ℕ} 16 0 = sym r ∙ ap (λ (x : Answered Sketch). x.why.number) (is-taken n es s) in omega (arith, z);
  }

  -- what is found is 0 nodes exactly where the text is refused
  pub nodes-none : (sketch_of xs).value.nodes ≡ 0 → sketch_of xs ≡ refused_with (sketch_with 0 []) (why 16 0 0)
  nodes-none e = go (choice fits)
    where
      go : Choice fits → sketch_of xs ≡ refused_with (sketch_with 0 []) (why 16 0 0)
      go (no! h) = not_found h
      go (yes! h) =
          let s = fitting h in
          let z : nodes ≡ 0 = sym (ap (λ (x : Answered Sketch). x.value.nodes) (found s.low s.text)) ∙ e in absurd (omega (arith, z, s.low))

  pub nodes-some : ((sketch_of xs).value.nodes ≡ 0 → ⊥)
      → (sketch_of xs ≡ accepted (sketch_with (sketch_of xs).value.nodes (sketch_of xs).value.edges)) × IsSketch xs (sketch_of xs).value.nodes
      (sketch_of xs).value.edges
  nodes-some d = go (choice fits)
    where
      go : Choice fits
          → (sketch_of xs ≡ accepted (sketch_with (sketch_of xs).value.nodes (sketch_of xs).value.edges)) × IsSketch xs (sketch_of xs).value.nodes
          (sketch_of xs).value.edges
      go (no! h) = absurd (d (ap (λ (x : Answered Sketch). x.value.nodes) (not_found h)))
      go (yes! h) =
          let s = fitting h in
          let said = found s.low s.text in
          let whole : sketch_of xs ≡ accepted (sketch_with (sketch_of xs).value.nodes (sketch_of xs).value.edges) =
          said ∙ sym (ap (λ (x : Answered Sketch). accepted (sketch_with x.value.nodes x.value.edges)) said) in
          (whole, is-only (sketch_of xs).value.nodes (sketch_of xs).value.edges whole)
