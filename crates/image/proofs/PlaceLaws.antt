-- The places of an image's parts: each starts where the one before it ends, and all end by the image's end.
-- l is any list of bits.
use Prim.Native.Nat.{ℕ, suc, ◌+◌, ◌-◌, ◌*◌, ◌≤◌, ◌<◌}
use native.Mathlib.Nat.{le_trans, le_of_eq, suc-mul, mul-le-mul_right, zero-add}
use native.Mathlib.Omega.{arith}
use mathlib.Core.Path.{◌≡◌, sym, ◌∙◌}
use mathlib.Core.List.{List}
use lib.Dec.{eqb}
use Rattle.basics.proofs.Tests.{Choice, yes!, no!, choice}
use Rattle.image.specs.Places.{node_place, walked, channel_next, channels_next, channels_place, channels_from_place, channel_place}
use Rattle.image.specs.inner.Parts.{image_end}
use Rattle.image.specs.Widths.{node_width}
use Rattle.image.proofs.ChannelLaws.{next-same, next-other}
use Rattle.image.proofs.WalkLaws.{walked-mono}

-- ---- no step goes back

pub channel-on : (d : ℕ) (l : List ℕ) (u v q : ℕ) → q ≤ channel_next d l u v q
channel-on d l u v q = go (choice (eqb u v))
  where
    go : Choice (eqb u v) → q ≤ channel_next d l u v q
    go (yes! e) = omega (arith, next-same d l u v q e)
    go (no! e) = omega (arith, next-other d l u v q e)

pub channels-on : (d n : ℕ) (l : List ℕ) (u q : ℕ) → q ≤ channels_next d n l u q
unfolding channels_next walked
channels-on d n l u q = rw zero-add at (walked-mono (channel_next d l u) (channel-on d l u) 0 n q)

-- a walk of k of n steps
pub walked-le : (next : ℕ → ℕ → ℕ) → ((i q : ℕ) → q ≤ next i q) → (k n q : ℕ) → k ≤ n → walked next k q ≤ walked next n q
walked-le next h k n q b =
    let e : k + (n - k) ≡ n = omega arith in
    rw e at (walked-mono next h k (n - k) q)

module _ (h d n : ℕ) where
  -- ---- the nodes

  -- node i + 1's record ends by the start of the channels
  pub node_in : (i : ℕ) → i < n → node_place h d n (suc i) + node_width d n ≤ channels_place h d n
  unfolding node_place channels_place
  node_in i b =
      let z : suc i - 1 ≡ i = omega arith in
      let s : suc i * node_width d n ≤ n * node_width d n = mul-le-mul_right (node_width d n) b in
      rw z (omega (arith, suc-mul i (node_width d n)))

  -- ---- the channels

  module _ (l : List ℕ) where
    -- a channel starts behind the one before it; the first from a node behind the last from the node before
    pub channel-next : (u j : ℕ) → channel_place h d n l u (suc (suc j)) ≡ channel_next d l u (suc j) (channel_place h d n l u (suc j))
    unfolding channel_place walked
    channel-next u j =
        let y : suc j - 1 ≡ j = omega arith in
        let z : suc (suc j) - 1 ≡ suc j = omega arith in
        rw (y, z)

    pub channels-next : (i : ℕ)
        → channels_from_place h d n l (suc (suc i)) ≡ walked (channel_next d l (suc i)) n (channels_from_place h d n l (suc i))
    unfolding channels_from_place channels_next walked
    channels-next i =
        let y : suc i - 1 ≡ i = omega arith in
        let z : suc (suc i) - 1 ≡ suc i = omega arith in
        rw (y, z)

    -- behind the last channel from u, and behind the last of all
    pub channel-last : (u : ℕ) → channel_place h d n l u (suc n) ≡ walked (channel_next d l u) n (channels_from_place h d n l u)
    unfolding channel_place
    channel-last u = let z : suc n - 1 ≡ n = omega arith in rw z

    pub start-in : channels_place h d n ≤ image_end h d n l
    unfolding image_end walked
    start-in = walked-le (channels_next d n l) (channels-on d n l) 0 n (channels_place h d n) (omega arith)

    pub channels-in : (i : ℕ) → i ≤ n → channels_from_place h d n l (suc i) ≤ image_end h d n l
    unfolding channels_from_place image_end
    channels-in i b =
        let z : suc i - 1 ≡ i = omega arith in
        rw z (walked-le (channels_next d n l) (channels-on d n l) i n (channels_place h d n) b)

    channel-before : (u j : ℕ) → j ≤ n → channel_place h d n l u (suc j) ≤ channel_place h d n l u (suc n)
    unfolding channel_place
    channel-before u j b =
        let y : suc j - 1 ≡ j = omega arith in
        let z : suc n - 1 ≡ n = omega arith in
        rw (y, z) (walked-le (channel_next d l u) (channel-on d l u) j n (channels_from_place h d n l u) b)

    -- the channel from i + 1 to j + 1 ends by the image's end
    pub channel-passed-in : (i j : ℕ) → i < n → j < n
        → channel_next d l (suc i) (suc j) (channel_place h d n l (suc i) (suc j)) ≤ image_end h d n l
    channel-passed-in i j b c =
        le_trans (le_of_eq (sym (channel-next (suc i) j)))
        (le_trans (channel-before (suc i) (suc j) c)
        (le_trans (le_of_eq (channel-last (suc i) ∙ sym (channels-next i))) (channels-in (suc i) b)))
