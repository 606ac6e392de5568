-- The cell of one channel, the cells of the channels from one node, and what the functions that read them require.
-- l are the image's bits. A channel from a node to itself takes no bits, and its cell is that of no messages.
use Rattle.std.specs.Prelude.{ℕ, suc, ◌-◌, ◌≤◌, ◌<◌, ◌^◌, cond, List, [], ◌≡◌, eqb, length}
use Rattle.image.specs.Places.{field_in, channel_from, walked, channel_next, channels_next, channel_place}
use Rattle.image.specs.inner.Parts.{image_end}
use Rattle.protocol.specs.Network.{capacity, Two}
use Rattle.tables.specs.Records.{cell_words}

-- the cell of channel u to v, which starts at q
unfoldable pub cell_in : ℕ → List ℕ → ℕ → ℕ → ℕ → List ℕ
cell_in d l u v q = cell_words (cond (eqb u v) [] (channel_from d l q))

-- the cell of channel u to v, where the channels from u start at q
unfoldable pub cell_behind : ℕ → List ℕ → ℕ → ℕ → ℕ → List ℕ
cell_behind d l u q v = cell_in d l u v (walked (channel_next d l u) (v - 1) q)

-- channel u to v, which starts at q, holds at most its capacity and ends inside the image
pub record ChannelIn (d : ℕ) (l : List ℕ) (u v q : ℕ) : Type 0 where
  pub few : (u ≡ v → ⊥) → field_in l q 4 ≤ capacity
  pub inside : channel_next d l u v q ≤ length l
  pub small : channel_next d l u v q < 2 ^ 30

-- the channels from u, which start at q, hold at most their capacity and end inside the image
pub record ChannelsIn (d n : ℕ) (l : List ℕ) (u q : ℕ) : Type 0 where
  pub few : (j : ℕ) → j < n → (u ≡ suc j → ⊥) → field_in l (walked (channel_next d l u) j q) 4 ≤ capacity
  pub inside : channels_next d n l u q ≤ length l
  pub small : channels_next d n l u q < 2 ^ 30

-- what an accepted walk shows: every channel's count is at most 8, and all stands inside the image
pub record Walkable (h d n : ℕ) (l : List ℕ) : Type 0 where
  pub inside : image_end h d n l ≤ length l
  pub small : image_end h d n l < 2 ^ 30
  pub few : (u v : ℕ) → Two n u v → field_in l (channel_place h d n l u v) 4 ≤ capacity
