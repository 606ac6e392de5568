-- The drawing of a plot: document 02 [2]. Each node, and an arrow for each two nodes linked, from the higher to the lower own height.
use Rattle.std.specs.Prelude.{ℕ, Bool, cond, ◌&&◌, List, [], ◌∷◌}
use Rattle.dot.specs.Graph.{edge, digraph_of}
use Rattle.dot.specs.declared.Edge.{Edge}
use Rattle.height.specs.Height.{height_key}
use Rattle.height.specs.Order.{before}
use Rattle.protocol.specs.Network.{Network, up_to, own}
use Rattle.text.specs.Text.{in_turn}

-- an arrow leads from a to b: up both ways, and a's own height is the higher
unfoldable pub points : Network → ℕ → ℕ → Bool
points p a b = up_to p a b && up_to p b a && before (height_key (own p b)) (height_key (own p a))

unfoldable pub arrow_to : Network → ℕ → ℕ → List Edge
arrow_to p a b = cond (points p a b) (edge a b ∷ []) []

-- by a, then by b
unfoldable pub arrows_of : ℕ → Network → List Edge
arrows_of n p = in_turn n (λ a. in_turn n (arrow_to p a))

unfoldable pub drawing : ℕ → Network → List ℕ
drawing n p = digraph_of n (arrows_of n p)
