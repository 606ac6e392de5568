use Prim.Native.Nat.{ℕ, ◌+◌, ◌-◌}
use native.Mathlib.Omega.{arith}
use mathlib.Core.Path.{ap}
use Rattle.image_writing.specs.inner.Words.{cells_bits}
use Rattle.image_writing.proofs.LengthLaws.{cells-le, cells-most}
use Rattle.image_writing.proofs.PieceLaws.{summed-start, summed-next, summed-all}
use Rattle.image_writing.proofs.channels.cells_length.Goals as goal

pub loop-u-init : goal.loop-u-init
loop-u-init c = summed-start _ _

pub cells_from_length-sum-requires : goal.cells_from_length-sum-requires
cells_from_length-sum-requires c =
    (c.requires.0, c.requires.1, record { low = c.loop-u.invariant.low; high = omega (arith, c.loop-u-test.true) }, c.requires.2, c.requires.3)

pub overflow_add-sum : goal.overflow_add-sum
overflow_add-sum c =
    let l = c.loop-u in
    let taken = c.loop-u-test.true in
    let all = cells-le _ _ _ c.requires.0 c.requires.2 c.requires.3 (l.u - 1) (omega (arith, taken)) in
    let most = cells-most (l.u - 1) c.args.n (omega (arith, taken)) c.requires.1 in
    omega (arith, c.cells_from_length-sum.ensures.1, l.invariant.is, all, most)

pub loop-u-preserved : goal.loop-u-preserved
loop-u-preserved c =
    let l = c.loop-u in
    summed-next _ _ _ _ l.invariant c.loop-u-test.true (ap (λ (k : ℕ). l.sum + k) c.cells_from_length-sum.ensures.0)

pub returns : goal.returns
unfolding cells_bits
returns c =
    let is = summed-all _ _ _ _ c.loop-u.invariant c.loop-u-test.false in
    (is, omega (arith, is, cells-le _ _ _ c.requires.0 c.requires.2 c.requires.3 c.args.n (omega arith)))
