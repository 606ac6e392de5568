-- What the functions that walk the links keep: the edges of a text, and which pairs were named so far, as a set for each node.
use Rattle.std.specs.Prelude.{ℕ, ◌-◌, List, ◌≡◌, get_or, length}
use Rattle.dot.specs.Sketch.{sketch_of}
use Rattle.dot.specs.declared.Edge.{Edge}
use Rattle.nodeset.specs.NodeSet.{member}
use Rattle.protocol.specs.Network.{Node}
use Rattle.drawing.specs.Links.{named_by}

abbrev pub edges_read : List ℕ → List Edge
edges_read xs = (sketch_of xs).value.edges

pub record Seen (n : ℕ) (done : List Edge) (xs : List ℕ) : Type 0 where
  pub size : length xs ≡ 16
  pub at : (u v : ℕ) → Node n u → Node n v → member (get_or xs (u - 1) 0) v ≡ named_by done u v
