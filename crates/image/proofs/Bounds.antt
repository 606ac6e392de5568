-- How wide a channel's messages, a node's record and all nodes' records can be.
-- Assumes at most 16 nodes, 8 messages and depths of 32 bits.
use Prim.Native.Nat.{ℕ, ◌*◌, ◌≤◌}
use native.Mathlib.Nat.{mul-le-mul}
use native.Mathlib.Omega.{arith}
use Rattle.image.specs.Widths.{height_width, message_width, node_width}
use Rattle.image.proofs.FieldPlaces.{height-end, message-end}

pub messages-small : (c d : ℕ) → c ≤ 8 → d ≤ 32 → c * message_width d ≤ 1152
messages-small c d h k = let narrow : message_width d ≤ 144 = omega (arith, message-end d) in mul-le-mul h narrow

pub node-small : (d n : ℕ) → d ≤ 32 → n ≤ 16 → node_width d n ≤ 1856
unfolding node_width
node-small d n h k = let narrow : height_width d ≤ 112 = omega (arith, height-end d) in omega (arith, mul-le-mul narrow k)

pub nodes-small : (d n : ℕ) → d ≤ 32 → n ≤ 16 → n * node_width d n ≤ 29696
nodes-small d n h k = mul-le-mul k (node-small d n h k)
