-- The links of a sketch (document 02 [2]): refusal 17, and the events that they stand for.
use Rattle.std.specs.Prelude.{ℕ, Bool, true, false, not, ◌&&◌, ◌||◌, List, [], ◌∷◌, eqb}
use Rattle.dot.specs.declared.Edge.{Edge}
use Rattle.protocol.specs.Network.{is_node}
use Rattle.protocol.specs.Step.{Event, up}

-- two different nodes of 1 to n
unfoldable pub is_link : ℕ → Edge → Bool
is_link n e = is_node n e.first && is_node n e.second && not (eqb e.first e.second)

-- the edge names u and v, in either order
unfoldable pub names : Edge → ℕ → ℕ → Bool
names e u v = eqb u e.first && eqb v e.second || eqb u e.second && eqb v e.first

-- one of the edges does
unfoldable pub named_by : List Edge → ℕ → ℕ → Bool
named_by [] u v = false
named_by (e ∷ es) u v = names e u v || named_by es u v

-- 17 where this fails: every edge is a link that none of those before it names; `done` are those before, the last first
unfoldable pub links_hold : ℕ → List Edge → List Edge → Bool
links_hold n done [] = true
links_hold n done (e ∷ es) = is_link n e && not (named_by done e.first e.second) && links_hold n (e ∷ done) es

-- up both ways for each edge, in order
unfoldable pub ups_of : List Edge → List Event
ups_of [] = []
ups_of (e ∷ es) = up e.first e.second ∷ up e.second e.first ∷ ups_of es
