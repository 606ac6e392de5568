-- The text of a graph in DOT (document 02 [2]): the head, a line for each node, a line for each edge, the foot. Every line ends with a newline (10).
use Rattle.std.specs.Prelude.{ℕ}
use mathlib.Core.List.{List, [], ◌∷◌, ◌++◌, flat_map}
use Rattle.text.specs.Text.{decimal, in_turn}
use Rattle.dot.specs.declared.Edge.{Edge}

abbrev pub edge : ℕ → ℕ → Edge
edge a b = record { first = a; second = b }

-- "graph plot {"
abbrev pub graph_head : List ℕ
graph_head = 103 ∷ 114 ∷ 97 ∷ 112 ∷ 104 ∷ 32 ∷ 112 ∷ 108 ∷ 111 ∷ 116 ∷ 32 ∷ 123 ∷ 10 ∷ []

-- "digraph plot {"
abbrev pub digraph_head : List ℕ
digraph_head = 100 ∷ 105 ∷ graph_head

-- "}"
abbrev pub foot : List ℕ
foot = 125 ∷ 10 ∷ []

-- ";" and the newline
abbrev pub line_end : List ℕ
line_end = 59 ∷ 10 ∷ []

-- "  k;"
unfoldable pub node_line : ℕ → List ℕ
node_line k = 32 ∷ 32 ∷ (decimal k ++ line_end)

-- what tells " -> " from " -- "
abbrev pub arrow : ℕ
arrow = 62

abbrev pub dash : ℕ
dash = 45

abbrev pub between : ℕ → List ℕ
between mark = 32 ∷ 45 ∷ mark ∷ 32 ∷ []

-- "  a -> b;" or "  a -- b;"
unfoldable pub edge_line : ℕ → Edge → List ℕ
edge_line mark e = 32 ∷ 32 ∷ (decimal e.first ++ (between mark ++ (decimal e.second ++ line_end)))

unfoldable pub edge_lines : ℕ → List Edge → List ℕ
edge_lines mark es = flat_map (edge_line mark) es

-- nodes 1 to n, then the edges
unfoldable pub text_of : List ℕ → ℕ → ℕ → List Edge → List ℕ
text_of head mark n es = head ++ (in_turn n node_line ++ (edge_lines mark es ++ foot))

abbrev pub digraph_of : ℕ → List Edge → List ℕ
digraph_of n es = text_of digraph_head arrow n es

abbrev pub graph_of : ℕ → List Edge → List ℕ
graph_of n es = text_of graph_head dash n es
