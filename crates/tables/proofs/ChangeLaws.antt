-- Functions of nodes and of pairs that are changed at one node: how a loaded network shows one row or some cells replaced.
use Prim.Native.Nat.{ℕ}
use mathlib.Core.Bool.{false}
use mathlib.Core.Logic.{◌⊎◌, inl, inr}
use mathlib.Core.Path.{◌≡◌, fun_ext}
use Rattle.basics.specs.Functions.{update}
use Rattle.basics.proofs.FunctionsLaws.{update-at, update-off}
use Rattle.basics.proofs.Tests.{Choice, yes!, no!, choice, equal?}
use Rattle.protocol.specs.Network.{Node, is_node, at_nodes, at_pairs}
use Rattle.protocol.proofs.NodeLaws.{is-node, node-passes}

-- ---- functions of nodes that differ at u alone

module _ {A : Type 0} (n u : ℕ) (a : Node n u) where
  pub changed-nodes : (f f' g : ℕ → A) (x : A) → ((y : ℕ) → Node n y → (y ≡ u → ⊥) → f' y ≡ f y) → f' u ≡ x
      → at_nodes n f' g ≡ update (at_nodes n f g) u x
  changed-nodes f f' g x other here = fun_ext λ y. go y (equal? y u) (choice (is_node n y))
    where
      go : (y : ℕ) → (y ≡ u) ⊎ (y ≡ u → ⊥) → Choice (is_node n y) → at_nodes n f' g y ≡ update (at_nodes n f g) u x y
      go y (inl e) c = rw (e, node-passes n u a, update-at (at_nodes n f g) u x) here
      go y (inr d) (yes! s) = rw (update-off (at_nodes n f g) u x y d, s) (other y (is-node n y s) d)
      go y (inr d) (no! s) = rw (update-off (at_nodes n f g) u x y d, s)

  -- of pairs, where g says what stands outside
  pub changed-pairs : (f f' g : ℕ → ℕ → A) (x : ℕ → A) → ((y z : ℕ) → Node n y → Node n z → (y ≡ u → ⊥) → f' y z ≡ f y z)
      → ((z : ℕ) → Node n z → f' u z ≡ x z) → ((z : ℕ) → is_node n z ≡ false → g u z ≡ x z)
      → at_pairs n f' g ≡ update (at_pairs n f g) u x
  changed-pairs f f' g x other here out = fun_ext λ y. fun_ext λ z. go y z (equal? y u) (choice (is_node n y)) (choice (is_node n z))
    where
      go : (y z : ℕ) → (y ≡ u) ⊎ (y ≡ u → ⊥) → Choice (is_node n y) → Choice (is_node n z)
          → at_pairs n f' g y z ≡ update (at_pairs n f g) u x y z
      go y z (inl e) c (yes! s) = rw (e, node-passes n u a, update-at (at_pairs n f g) u x, s) (here z (is-node n z s))
      go y z (inl e) c (no! s) = rw (e, node-passes n u a, update-at (at_pairs n f g) u x, s) (out z s)
      go y z (inr d) (yes! r) (yes! s) = rw (update-off (at_pairs n f g) u x y d, r, s) (other y z (is-node n y r) (is-node n z s) d)
      go y z (inr d) (yes! r) (no! s) = rw (update-off (at_pairs n f g) u x y d, r, s)
      go y z (inr d) (no! r) c = rw (update-off (at_pairs n f g) u x y d, r)
