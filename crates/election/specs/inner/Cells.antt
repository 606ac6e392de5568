-- The channels' cells before and after an event sends. The meaning is `cleared` and `commit` of protocol.
use Rattle.std.specs.Prelude.{ℕ, ◌*◌, ◌≤◌, Bool, not, cond, ◌&&◌, ◌||◌, List, ◌≡◌, eqb, ltb, length}
use Rattle.height.specs.declared.Height.{Height}
use Rattle.nodeset.specs.NodeSet.{member}
use Rattle.protocol.specs.Network.{Node, capacity}
use Rattle.tables.specs.Cell.{count}
use Rattle.tables.specs.inner.Written.{appended, taken, emptied}
use Rattle.tables.specs.Tables.{cell_width, channel_of}
use Rattle.election.specs.declared.Kind.TheVariants.{Raised, Dropped, Received}
use Rattle.election.specs.declared.Kind.{Kind}

-- the table cs has the cells f x y
pub record CellsAre (n : ℕ) (cs : List ℕ) (f : ℕ → ℕ → List ℕ) : Type 0 where
  pub size : length cs ≡ n * n * cell_width
  pub at : (x y : ℕ) → Node n x → Node n y → channel_of n x y cs ≡ f x y

abbrev pub cells_of : ℕ → List ℕ → ℕ → ℕ → List ℕ
cells_of n cs x y = channel_of n x y cs

-- a receipt has a message to take
abbrev pub Takes : Kind → ℕ → ℕ → ℕ → List ℕ → Type 0
Takes Raised n u v cs = Unit {0}
Takes Dropped n u v cs = Unit {0}
Takes Received n u v cs = 1 ≤ count (channel_of n v u cs)

-- before anything is sent: a down of u, v empties the cell u v, a receipt at u from v takes the first message of the cell v u
abbrev pub cleared_cells : Kind → ℕ → ℕ → ℕ → List ℕ → ℕ → ℕ → List ℕ
cleared_cells Raised n u v cs x y = channel_of n x y cs
cleared_cells Dropped n u v cs x y = cond (eqb x u && eqb y v) emptied (channel_of n x y cs)
cleared_cells Received n u v cs x y = cond (eqb x v && eqb y u) (taken (channel_of n x y cs)) (channel_of n x y cs)

-- after h, stamped t, went from u to the set s
unfoldable pub sent_cells : ℕ → ℕ → Height → ℕ → (ℕ → ℕ → List ℕ) → ℕ → ℕ → List ℕ
sent_cells u s h t cells x y = cond (eqb x u && member s y) (appended (cells x y) h t) (cells x y)

-- w is not in the set, or the channel from u to it has room
unfoldable pub room_for : ℕ → ℕ → ℕ → List ℕ → ℕ → Bool
room_for n u s cs w = not (member s w) || ltb (count (channel_of n u w cs)) capacity
