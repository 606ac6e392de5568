-- What a text says, where it is the text of an undirected graph of 1 to 16 nodes with numbers as on the bench (0 to 99): document 02 [2].
-- Nodes and edges are looked for from the front; then the text must be the one that they make. Exactly these texts are taken: proofs/Exactly.antt.
use Rattle.std.specs.Prelude.{ℕ, zero, suc, Bool, cond, ◌&&◌, List, [], ◌∷◌, leb, ltb, length, get_or, take, drop}
use Rattle.basics.specs.Bytes.{same_bytes}
use Rattle.commands.specs.Commands.{none, is_digit, number_of}
use Rattle.refusal.specs.Outcome.{Answered, accepted, refused_with}
use Rattle.refusal.specs.Refusal.{why}
use Rattle.text.specs.Text.{in_turn}
use Rattle.dot.specs.Graph.{edge, graph_head, node_line, dash, edge_line, graph_of}
use Rattle.dot.specs.declared.Edge.{Edge}

pub record Sketch : Type 0 where
  pub nodes : ℕ
  pub edges : List Edge

abbrev pub sketch_with : ℕ → List Edge → Sketch
sketch_with n es = record { nodes = n; edges = es }

-- the bytes xs start with bs
unfoldable pub starts_with : List ℕ → List ℕ → Bool
starts_with bs xs = same_bytes (take (length bs) xs) bs

-- ---- node lines

-- how many of the lines of nodes k, k + 1, .. the bytes start with, at most m
unfoldable pub nodes_at : ℕ → ℕ → List ℕ → ℕ
nodes_at zero k xs = 0
nodes_at (suc m) k xs = cond (starts_with (node_line k) xs) (suc (nodes_at m (suc k) (drop (length (node_line k)) xs))) 0

-- ---- edge lines

-- the number at the front, of two digits where the second byte is one
unfoldable pub digits_at : List ℕ → ℕ
digits_at xs = cond (is_digit (get_or xs 1 0)) 2 1

unfoldable pub number_at : List ℕ → ℕ
number_at xs = number_of (take (digits_at xs) xs)

-- the two numbers, where they stand in an edge line
unfoldable pub edge_at : List ℕ → Edge
edge_at xs = let ys = drop 2 xs in edge (number_at ys) (number_at (drop 4 (drop (digits_at ys) ys)))

-- both numbers are ones of the bench
unfoldable pub numbered : Edge → Bool
numbered e = ltb e.first none && ltb e.second none

unfoldable pub starts_with_edge : ℕ → List ℕ → Bool
starts_with_edge mark xs = numbered (edge_at xs) && starts_with (edge_line mark (edge_at xs)) xs

-- the edges of the lines that the bytes start with, at most m
unfoldable pub edges_at : ℕ → ℕ → List ℕ → List Edge
edges_at mark zero xs = []
edges_at mark (suc m) xs =
    cond (starts_with_edge mark xs) (edge_at xs ∷ edges_at mark m (drop (length (edge_line mark (edge_at xs))) xs)) []

-- no more lines than bytes
unfoldable pub edges_of : ℕ → List ℕ → List Edge
edges_of mark xs = edges_at mark (length xs) xs

-- ---- the whole text

-- behind the head
unfoldable pub nodes_in : List ℕ → List ℕ → ℕ
nodes_in head xs = nodes_at 16 1 (drop (length head) xs)

-- behind the node lines
unfoldable pub edges_in : List ℕ → ℕ → List ℕ → List Edge
edges_in head mark xs = edges_of mark (drop (length (in_turn (nodes_in head xs) node_line)) (drop (length head) xs))

-- 16, or nodes and edges
unfoldable pub sketch_of : List ℕ → Answered Sketch
sketch_of xs =
    let n = nodes_in graph_head xs in
    let es = edges_in graph_head dash xs in
    cond (leb 1 n && same_bytes xs (graph_of n es)) (accepted (sketch_with n es)) (refused_with (sketch_with 0 []) (why 16 0 0))
