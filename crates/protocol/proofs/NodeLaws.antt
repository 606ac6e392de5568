-- A node number, and any other, by the test.
use Prim.Native.Nat.{ℕ}
use mathlib.Core.Bool.{true, false}
use mathlib.Core.Path.{◌≡◌}
use lib.Dec.{leb}
use borrow.Author.Tests.{leb-true, le-leb}
use Rattle.basics.proofs.Tests.{and_left, and_right, clash, not-true-is-false}
use Rattle.protocol.specs.Network.{Node, is_node}

pub is-node : (n u : ℕ) → is_node n u ≡ true → Node n u
is-node n u e = record {
  low = leb-true 1 u (and_left (leb 1 u) (leb u n) e);
  high = leb-true u n (and_right (leb 1 u) (leb u n) e);
}

pub node-passes : (n u : ℕ) → Node n u → is_node n u ≡ true
node-passes n u a = rw (le-leb 1 u a.low, le-leb u n a.high)

pub no_node : (n u : ℕ) → is_node n u ≡ false → Node n u → ⊥
no_node n u e a = clash (node-passes n u a) e

pub other-fails : (n u : ℕ) → (Node n u → ⊥) → is_node n u ≡ false
other-fails n u d = not-true-is-false (is_node n u) (λ e. d (is-node n u e))
