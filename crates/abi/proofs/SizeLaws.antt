-- The numbers of nodes, 1 to 16, and the products that follow from them.
use Prim.Native.Nat.{ℕ, ◌-◌, ◌*◌, ◌≤◌}
use native.Mathlib.Nat.{mul-le-mul}
use native.Mathlib.Omega.{arith}
use mathlib.Core.Bool.{Bool, true}
use mathlib.Core.Path.{◌≡◌, sym, ◌∙◌}
use Rattle.protocol.specs.Network.{Node}
use Rattle.protocol.proofs.NodeLaws.{is-node}
use Rattle.abi.specs.Sizes.{is_size}

pub size_of : (n : ℕ) {r : Bool} → r ≡ is_size n → r ≡ true → Node 16 n
size_of n e t = is-node 16 n (sym e ∙ t)

-- ---- products

module _ (n : ℕ) (size : Node 16 n) where
  pub square_le : n * n ≤ 256
  square_le = mul-le-mul size.high size.high

  pub pairs-le : n * (n - 1) ≤ 240
  pairs-le =
      let a : n - 1 ≤ 15 = omega (arith, size.high) in
      mul-le-mul size.high a
