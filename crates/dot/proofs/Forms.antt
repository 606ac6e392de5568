-- The steps of `form`: where the head, the node lines or the foot are missing there is no sketch; else the text is the one that was found.
use Prim.Native.Nat.{ℕ, ◌+◌, ◌≤◌}
use native.Mathlib.Nat.{zero-add}
use native.Mathlib.Omega.{arith}
use mathlib.Core.Bool.{true, false, ◌&&◌}
use mathlib.Core.List.{List, ◌++◌}
use mathlib.Core.Path.{◌≡◌, refl, sym, ap, ap₂, ◌∙◌}
use borrow.Author.Tests.{leb-true}
use lib.Dec.{leb}
use lib.ListN.{length, drop}
use lib.Seq.{drop-drop, drop-append_seam}
use Rattle.basics.specs.Bytes.{same_bytes}
use Rattle.basics.proofs.BytesLaws.{same_bytes-equal, bytes_same}
use Rattle.basics.proofs.Tests.{clash, Choice, yes!, no!, choice}
use Rattle.refusal.specs.Outcome.{Answered}
use Rattle.text.specs.Text.{in_turn}
use Rattle.dot.specs.Graph.{graph_head, foot, node_line, dash, edge_lines, text_of, graph_of}
use Rattle.dot.specs.Sketch.{Sketch, starts_with, nodes_at, edges_of, nodes_in, edges_in, sketch_of}
use Rattle.dot.specs.declared.Edge.{Edge}
use Rattle.dot.specs.inner.Ahead.{Ahead}
use Rattle.dot.proofs.Edges.{edges-behind}
use Rattle.dot.proofs.Exactly.{found, not_found, edges-numbered}
use Rattle.dot.proofs.Nodes.{counted}
use Rattle.dot.proofs.Starts.{starts-append, starts-split}

module _ (xs : List ℕ) where
  abbrev nodes : ℕ
  nodes = nodes_in graph_head xs

  abbrev edges : List Edge
  edges = edges_in graph_head dash xs

  no-sketch : (1 ≤ nodes → xs ≡ graph_of nodes edges → ⊥) → (sketch_of xs).value.nodes ≡ 0
  no-sketch never = go (choice (leb 1 nodes)) (choice (same_bytes xs (graph_of nodes edges)))
    where
      said : (leb 1 nodes && same_bytes xs (graph_of nodes edges)) ≡ false → (sketch_of xs).value.nodes ≡ 0
      said h = ap (λ (x : Answered Sketch). x.value.nodes) (not_found xs h)

      go : Choice (leb 1 nodes) → Choice (same_bytes xs (graph_of nodes edges)) → (sketch_of xs).value.nodes ≡ 0
      go (yes! a) (yes! b) = absurd (never (leb-true 1 nodes a) (same_bytes-equal xs (graph_of nodes edges) b))
      go (yes! a) (no! b) = said (rw (a, b) refl)
      go (no! a) b = said (rw a refl)

  -- no head
  pub no-head : starts_with graph_head xs ≡ false → (sketch_of xs).value.nodes ≡ 0
  unfolding text_of
  no-head h =
      no-sketch (λ low e.
      let t : starts_with graph_head (graph_of nodes edges) ≡ true = starts-append graph_head (in_turn nodes node_line ++ (edge_lines dash edges ++ foot)) in
      clash (ap (starts_with graph_head) e ∙ t) h)

  -- what the walk found: k node lines, edge lines from i to `end`
  module _ (k i end : ℕ) (ks : k ≡ nodes_at 16 1 (drop 13 xs)) (is : i ≡ 13 + length (in_turn k node_line))
      (ends : end ≡ i + length (edge_lines dash (edges_of dash (drop i xs)))) where
    nodes-is : k ≡ nodes
    unfolding nodes_in
    nodes-is = ks

    edges-is : edges_of dash (drop i xs) ≡ edges
    unfolding edges_in
    edges-is =
        ap (edges_of dash)
        (ap (λ (j : ℕ). drop j xs) is
        ∙ (sym (drop-drop (length (in_turn k node_line)) 13 xs) ∙ ap (λ (j : ℕ). drop (length (in_turn j node_line)) (drop 13 xs)) nodes-is))

    -- no node line
    pub no-nodes : k ≡ 0 → (sketch_of xs).value.nodes ≡ 0
    no-nodes z = no-sketch (λ low e. omega (arith, z, nodes-is, low))

    -- where the foot has to stand
    end_is : drop end xs ≡ drop (length (edge_lines dash edges)) (drop (length (in_turn nodes node_line)) (drop 13 xs))
    end_is =
        let p : end ≡ 13 + length (in_turn nodes node_line) + length (edge_lines dash edges) =
        ends ∙ ap₂ (λ (a b : ℕ). a + b) (is ∙ ap (λ (j : ℕ). 13 + length (in_turn j node_line)) nodes-is)
        (ap (λ (l : List Edge). length (edge_lines dash l)) edges-is) in
        ap (λ (j : ℕ). drop j xs) p
        ∙ (sym (drop-drop (length (edge_lines dash edges)) (13 + length (in_turn nodes node_line)) xs)
        ∙ ap (drop (length (edge_lines dash edges))) (sym (drop-drop (length (in_turn nodes node_line)) 13 xs)))

    -- no foot
    foot-there : xs ≡ graph_of nodes edges → drop end xs ≡ foot
    unfolding text_of
    foot-there e =
        let tail = edge_lines dash edges ++ foot in
        end_is
        ∙ (ap (λ (l : List ℕ). drop (length (edge_lines dash edges)) (drop (length (in_turn nodes node_line)) (drop 13 l))) e
        ∙ (ap (λ (l : List ℕ). drop (length (edge_lines dash edges)) (drop (length (in_turn nodes node_line)) l))
        (drop-append_seam graph_head (in_turn nodes node_line ++ tail))
        ∙ (ap (drop (length (edge_lines dash edges))) (drop-append_seam (in_turn nodes node_line) tail)
        ∙ drop-append_seam (edge_lines dash edges) foot)))

    pub no-foot : same_bytes (drop end xs) foot ≡ false → (sketch_of xs).value.nodes ≡ 0
    no-foot h = no-sketch (λ low e. clash (bytes_same (drop end xs) foot (foot-there e)) h)

    -- all of it
    behind-nodes : drop 13 xs ≡ in_turn nodes node_line ++ drop (length (in_turn nodes node_line)) (drop 13 xs)
    unfolding in_turn nodes_in
    behind-nodes =
        let c = counted 0 16 (drop 13 xs) in
        let s : drop 13 xs ≡ in_turn nodes node_line ++ c.rest = c.split ∙ ap (λ (j : ℕ). in_turn j node_line ++ c.rest) (zero-add nodes) in
        s ∙ ap (λ (l : List ℕ). in_turn nodes node_line ++ l)
        (sym (ap (drop (length (in_turn nodes node_line))) s ∙ drop-append_seam (in_turn nodes node_line) c.rest))

    behind-edges : drop i xs ≡ edge_lines dash edges ++ drop end xs
    behind-edges =
        let b = edges-behind dash (length (drop i xs)) (drop i xs) (omega arith) in
        let s : drop i xs ≡ edge_lines dash edges ++ b.rest = b.split ∙ ap (λ (l : List Edge). edge_lines dash l ++ b.rest) edges-is in
        let e : drop end xs ≡ b.rest =
        ap (λ (j : ℕ). drop j xs) (ends ∙ ap (λ (l : List Edge). i + length (edge_lines dash l)) edges-is)
        ∙ (sym (drop-drop (length (edge_lines dash edges)) i xs) ∙ (ap (drop (length (edge_lines dash edges))) s ∙ drop-append_seam (edge_lines dash edges)
        b.rest)) in
        s ∙ ap (λ (l : List ℕ). edge_lines dash edges ++ l) (sym e)

    module _ (head : starts_with graph_head xs ≡ true) (low : 1 ≤ k) (ended : same_bytes (drop end xs) foot ≡ true) where
      at-edges : drop i xs ≡ edge_lines dash edges ++ foot
      at-edges = behind-edges ∙ ap (λ (l : List ℕ). edge_lines dash edges ++ l) (same_bytes-equal (drop end xs) foot ended)

      from-edges : drop (length (in_turn nodes node_line)) (drop 13 xs) ≡ drop i xs
      from-edges =
          drop-drop (length (in_turn nodes node_line)) 13 xs
          ∙ ap (λ (j : ℕ). drop j xs) (sym (is ∙ ap (λ (j : ℕ). 13 + length (in_turn j node_line)) nodes-is))

      whole : xs ≡ graph_of nodes edges
      unfolding text_of
      whole =
          starts-split graph_head xs head
          ∙ (ap (λ (l : List ℕ). graph_head ++ l) behind-nodes ∙ ap (λ (l : List ℕ). graph_head ++ (in_turn nodes node_line ++ l)) (from-edges ∙ at-edges))

      pub is-form : i ≤ length xs → (k ≡ (sketch_of xs).value.nodes) × Ahead xs i (sketch_of xs).value.edges
      is-form inside =
          let low' : 1 ≤ nodes = omega (arith, low, nodes-is) in
          let said = found xs low' whole in
          let es : (sketch_of xs).value.edges ≡ edges = ap (λ (x : Answered Sketch). x.value.edges) said in (
            nodes-is ∙ sym (ap (λ (x : Answered Sketch). x.value.nodes) said),
            rw es (record { inside = inside; numbers = edges-numbered xs; rest = at-edges }),
          )
