-- Quiet networks, groups, chains and collectors: document 01, "What a station holds" and "Lists of calls".
-- Over which channels are up (`ups`), how many messages wait, and each node's own height; up and waiting come from the history.
use Rattle.std.specs.Prelude.{ℕ, Bool, true, ◌≡◌}
use Rattle.height.specs.Height.{height_key}
use Rattle.height.specs.Order.{before}
use Rattle.height.specs.declared.Height.{Height}
use Rattle.protocol.specs.Network.{Node, Two}

-- quiet: no message waits, and each channel is up exactly when the one back is
pub record Quiescent (n : ℕ) (ups : ℕ → ℕ → Bool) (waiting : ℕ → ℕ → ℕ) : Type 0 where
  pub empty : (u v : ℕ) → Two n u v → waiting u v ≡ 0
  pub paired : (u v : ℕ) → Two n u v → ups u v ≡ ups v u

-- linked: both channels between them are up
pub record Linked (n : ℕ) (ups : ℕ → ℕ → Bool) (u v : ℕ) : Type 0 where
  pub two : Two n u v
  pub forth : ups u v ≡ true
  pub back : ups v u ≡ true

-- u and w are of one group (a largest set joined by links; here component); a node without links is alone
pub data Joined (n : ℕ) (ups : ℕ → ℕ → Bool) : ℕ → ℕ → Type 0 where
  alone : {u : ℕ} → Joined n ups u u
  link : {u v w : ℕ} → Linked n ups u v → Joined n ups v w → Joined n ups u w

-- a chain (descending path): neighbours in it are linked, and own heights fall along it
pub data Descending (n : ℕ) (ups : ℕ → ℕ → Bool) (own : ℕ → Height) : ℕ → ℕ → Type 0 where
  arrived : {u : ℕ} → Descending n ups own u u
  falls : {u v w : ℕ} → Linked n ups u v → before (height_key (own v)) (height_key (own u)) ≡ true → Descending n ups own v w → Descending n ups own u w

-- a collector: its own height's leader is itself
abbrev pub Leader : (ℕ → Height) → ℕ → Type 0
Leader own u = (own u).pair.lid ≡ u

-- u's group has exactly one collector, a member, and a chain leads from u to it
pub record OneLeader (n : ℕ) (ups : ℕ → ℕ → Bool) (own : ℕ → Height) (u : ℕ) : Type 0 where
  pub leader : ℕ
  pub node : Node n leader
  pub leads : Leader own leader
  pub member : Joined n ups u leader
  pub only : (w : ℕ) → Joined n ups u w → Leader own w → w ≡ leader
  pub chain : Descending n ups own u leader
