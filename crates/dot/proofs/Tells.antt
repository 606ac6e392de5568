-- A text tells its nodes and its edges, whatever its head and its mark are: what is found in the text of n and es is n and es.
-- Assumes at most 16 nodes and numbers below 100.
use Prim.Native.Nat.{ℕ, ◌≤◌, ◌<◌}
use native.Mathlib.Nat.{zero-add}
use native.Mathlib.Omega.{arith}
use mathlib.Core.Bool.{true, false}
use mathlib.Core.List.{List, [], ◌∷◌, ◌++◌, flat_map}
use mathlib.Core.Path.{◌≡◌, sym, ap, ap₂, ◌∙◌}
use lib.ListN.{length, drop}
use lib.Seq.{drop-append_seam}
use Rattle.basics.specs.Functions.{all}
use Rattle.basics.proofs.Tests.{and_left}
use Rattle.text.specs.Text.{in_turn}
use Rattle.dot.specs.Graph.{foot, node_line, edge_lines, text_of}
use Rattle.dot.specs.Sketch.{starts_with, numbered, nodes_at, edges_of, nodes_in, edges_in}
use Rattle.dot.specs.declared.Edge.{Edge}
use Rattle.dot.proofs.Edges.{foot-no-edge, lines_cons, edges-found}
use Rattle.dot.proofs.Nodes.{lines_from, lines-from, nodes-found, foot-no-node, edge-no-node}

-- no node line starts the edge lines, nor the foot
no_node : (mark : ℕ) (es : List Edge) → all numbered es ≡ true → (i : ℕ) → i < 100 → starts_with (node_line i) (edge_lines mark es ++ foot) ≡ false
unfolding edge_lines flat_map all
no_node mark [] h i l = foot-no-node i
no_node mark (e ∷ es) h i l =
    ap (starts_with (node_line i)) (lines_cons mark e es foot)
    ∙ edge-no-node i mark e (edge_lines mark es ++ foot) l (and_left (numbered e) (all numbered es) h)

module _ (head : List ℕ) (mark n : ℕ) (es : List Edge) (few : n ≤ 16) (numbers : all numbered es ≡ true) where
  behind-head : drop (length head) (text_of head mark n es) ≡ in_turn n node_line ++ (edge_lines mark es ++ foot)
  unfolding text_of
  behind-head = drop-append_seam head (in_turn n node_line ++ (edge_lines mark es ++ foot))

  all_lines : in_turn n node_line ≡ lines_from 0 n
  unfolding in_turn
  all_lines = sym (lines-from 0 n ∙ ap (λ (k : ℕ). in_turn k node_line) (zero-add n))

  pub nodes-back : nodes_in head (text_of head mark n es) ≡ n
  unfolding nodes_in
  nodes-back =
      ap (nodes_at 16 1) (behind-head ∙ ap (λ (l : List ℕ). l ++ (edge_lines mark es ++ foot)) all_lines)
      ∙ nodes-found 0 n 16 (edge_lines mark es ++ foot) few (λ i l. no_node mark es numbers i (omega arith))

  pub edges-back : edges_in head mark (text_of head mark n es) ≡ es
  unfolding edges_in
  edges-back =
      ap₂ (λ (k : ℕ) (l : List ℕ). edges_of mark (drop (length (in_turn k node_line)) l)) nodes-back behind-head
      ∙ (ap (edges_of mark) (drop-append_seam (in_turn n node_line) (edge_lines mark es ++ foot)) ∙ edges-found mark es foot numbers (foot-no-edge mark))

-- texts that are the same have the same nodes and edges
pub text-tells : (head : List ℕ) (mark n k : ℕ) (es fs : List Edge) → n ≤ 16 → k ≤ 16 → all numbered es ≡ true → all numbered fs ≡ true
    → text_of head mark n es ≡ text_of head mark k fs → (n ≡ k) × (es ≡ fs)
text-tells head mark n k es fs a b x y e = (
  sym (nodes-back head mark n es a x) ∙ (ap (nodes_in head) e ∙ nodes-back head mark k fs b y),
  sym (edges-back head mark n es a x) ∙ (ap (edges_in head mark) e ∙ edges-back head mark k fs b y),
)
