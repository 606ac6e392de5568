use native.Mathlib.Omega.{arith}
use Rattle.image_writing.specs.inner.Words.{cells_bits}
use Rattle.image_writing.proofs.LengthLaws.{below-cells-from}
use Rattle.image_writing.proofs.PieceLaws.{laid-start, laid-room, laid_next, laid-all}
use Rattle.image_writing.proofs.channels.put_cells.Goals as goal

pub loop-u-init : goal.loop-u-init
loop-u-init c = laid-start _ _ _ _ (λ i. (c.type_inv.buf i).fits) (omega (arith, c.requires.4.inside))

pub put_cells_from-place-requires : goal.put_cells_from-place-requires
unfolding cells_bits
put_cells_from-place-requires c =
    let l = c.loop-u in
    let taken = c.loop-u-test.true in
    (c.requires.0, c.requires.1, record { low = l.invariant.low; high = omega (arith, taken) }, c.requires.2, c.requires.3, laid-room _ _ _ _ _ _ _ l.invariant taken c.requires.4)

pub loop-u-preserved : goal.loop-u-preserved
unfolding cells_bits
loop-u-preserved c =
    let put = c.put_cells_from-place.ensures in
    laid_next _ _ _ _ _ _ _ c.loop-u.invariant c.loop-u-test.true c.requires.4
    (below-cells-from _ _ _) put.0 put.1

pub returns : goal.returns
unfolding cells_bits
returns c = laid-all _ _ _ _ _ _ _ c.loop-u.invariant c.loop-u-test.false
