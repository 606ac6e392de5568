-- `image_writing::image_length` meets its contract: the bits of header, nodes and channels, as bytes.
use Prim.Native.Nat.{ℕ, ◌+◌, ◌*◌, ◌/◌}
use native.Mathlib.Omega.{arith}
use mathlib.Core.Path.{sym, ap₂, ◌∙◌}
use Rattle.image_writing.proofs.ImageLaws.{depth-16, counts, end-le, length-image}
use Rattle.image_writing.proofs.image_length.Goals as goal

pub overflow_mul-end : goal.overflow_mul-end
overflow_mul-end c = rw c.node.ensures (omega (arith, end-le _ _ c.requires))

pub overflow_add-end : goal.overflow_add-end
overflow_add-end c = rw c.node.ensures (omega (arith, end-le _ _ c.requires))

pub cells_length-requires : goal.cells_length-requires
cells_length-requires c =
    let fit = c.requires in
    (depth-16, fit.size.few, fit.size.channels, counts _ _ fit)

pub overflow_add-end-2 : goal.overflow_add-end-2
overflow_add-end-2 c = rw c.node.ensures (omega (arith, end-le _ _ c.requires, c.cells_length.ensures.0))

pub overflow_add-result : goal.overflow_add-result
overflow_add-result c = rw c.node.ensures (omega (arith, end-le _ _ c.requires, c.cells_length.ensures.0))

pub returns : goal.returns
returns c =
    ap₂ (λ (w k : ℕ). (32 + c.args.n * w + k + 7) / 8) c.node.ensures c.cells_length.ensures.0 ∙ sym (length-image _ _ c.requires)
