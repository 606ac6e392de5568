-- What stands from an offset of a text on: the lines of these edges and the foot.
use Rattle.std.specs.Prelude.{ℕ, ◌≤◌, true, List, ◌++◌, ◌≡◌, length, drop}
use Rattle.basics.specs.Functions.{all}
use Rattle.dot.specs.Graph.{foot, dash, edge_lines}
use Rattle.dot.specs.Sketch.{numbered}
use Rattle.dot.specs.declared.Edge.{Edge}

pub record Ahead (xs : List ℕ) (at : ℕ) (es : List Edge) : Type 0 where
  pub inside : at ≤ length xs
  pub numbers : all numbered es ≡ true
  pub rest : drop at xs ≡ edge_lines dash es ++ foot
