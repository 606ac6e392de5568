-- `image::widths::node` meets its contract: the heights stand behind the clock and the sets.
use Prim.Native.Nat.{ℕ, ◌+◌, ◌*◌, ◌≤◌}
use native.Mathlib.Nat.{mul-le-mul}
use native.Mathlib.Omega.{arith}
use mathlib.Core.Path.{ap}
use Rattle.image.specs.Widths.{node_width}
use Rattle.image.proofs.FieldPlaces.{height-end}
use Rattle.image.proofs.widths.node.Goals as goal

pub overflow_mul-result : goal.overflow_mul-result
overflow_mul-result c =
    let narrow : c.height.result ≤ 335 = omega (arith, height-end c.args.depth) in
    omega (arith, mul-le-mul narrow c.requires)

pub overflow_add-result : goal.overflow_add-result
overflow_add-result c =
    let narrow : c.height.result ≤ 335 = omega (arith, height-end c.args.depth) in
    omega (arith, mul-le-mul narrow c.requires)

pub returns : goal.returns
unfolding node_width
returns c = ap (λ (w : ℕ). 64 + w * c.args.n) c.height.ensures
