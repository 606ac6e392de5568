-- What a node holds, and the fresh network: document 01, "What a station holds".
-- A network (document 01: plot) is functions of node numbers. Outside 1 to n a grown network stays as the fresh one.
use Rattle.std.specs.Prelude.{ℕ, ◌≤◌, Bool, false, cond, ◌&&◌, ◌||◌, List, [], ◌≡◌, eqb, leb, pos}
use Rattle.height.specs.Height.{zero_level, zero_height}
use Rattle.height.specs.declared.Height.{Height}

-- a message: the sender's height, and its clock when it was sent (document 01: stamp)
pub record Message : Type 0 where
  pub height : Height
  pub timestamp : ℕ

-- clock; linked set N; forming set F; u's own height at u u and its view of v at u v; channel u to v, oldest message first
pub record Network : Type 0 where
  pub clock : ℕ → ℕ
  pub neighbors : ℕ → ℕ → Bool
  pub forming : ℕ → ℕ → Bool
  pub height : ℕ → ℕ → Height
  pub channel : ℕ → ℕ → List Message

-- a node number (document 01: station): 1 to n
abbrev pub is_node : ℕ → ℕ → Bool
is_node n u = leb 1 u && leb u n

-- the same as a fact
pub record Node (n u : ℕ) : Type 0 where
  pub low : 1 ≤ u
  pub high : u ≤ n

-- two different nodes
pub record Two (n u v : ℕ) : Type 0 where
  pub one : Node n u
  pub other : Node n v
  pub differ : u ≡ v → ⊥

-- channel u to v is up: one of the sets of u has v
abbrev pub up_to : Network → ℕ → ℕ → Bool
up_to p u v = p.neighbors u v || p.forming u v

-- own heights
abbrev pub own : Network → ℕ → Height
own p u = p.height u u

-- how many messages a channel holds at most
abbrev pub capacity : ℕ
capacity = 8

-- (0, 0, 0, 0, 0, k, k)
abbrev pub fresh_height : ℕ → Height
fresh_height k = record { level = zero_level; delta = pos 0; pair = record { nlts = record { 0 = pos 0 }; lid = k }; id = k }

-- clocks 0, sets empty, no messages, node k's own height (0, 0, 0, 0, 0, k, k), every view zero
abbrev pub fresh : Network
fresh = record {
  clock = λ u. 0;
  neighbors = λ u v. false;
  forming = λ u v. false;
  height = λ u v. cond (eqb u v) (fresh_height u) zero_height;
  channel = λ u v. [];
}

-- ---- a network's numbers at the nodes 1 to n

-- f at nodes, g elsewhere
abbrev pub at_nodes : {A : Type 0} → ℕ → (ℕ → A) → (ℕ → A) → ℕ → A
at_nodes n f g u = cond (is_node n u) (f u) (g u)

abbrev pub at_pairs : {A : Type 0} → ℕ → (ℕ → ℕ → A) → (ℕ → ℕ → A) → ℕ → ℕ → A
at_pairs n f g u v = cond (is_node n u && is_node n v) (f u v) (g u v)

-- p at the nodes 1 to n, fresh elsewhere: equal to p exactly when p holds nothing beyond node n
unfoldable pub restrict : ℕ → Network → Network
restrict n p = record {
  clock = at_nodes n p.clock fresh.clock;
  neighbors = at_pairs n p.neighbors fresh.neighbors;
  forming = at_pairs n p.forming fresh.forming;
  height = at_pairs n p.height fresh.height;
  channel = at_pairs n p.channel fresh.channel;
}
