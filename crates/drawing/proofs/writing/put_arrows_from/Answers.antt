use native.Mathlib.Omega.{arith}
use mathlib.Core.Path.{ap, ◌∙◌}
use lib.ListN.{length}
use Rattle.lent.proofs.CheckLaws.{sound-sized}
use Rattle.text.proofs.PourLaws.{both, printed-none, printed-next, printed-near, printed-all}
use Rattle.text.proofs.TextLaws.{length-poured}
use Rattle.drawing.proofs.Pours.{arrow-le}
use Rattle.drawing.proofs.writing.put_arrows_from.Goals as goal

pub overflow_add-b-end : goal.overflow_add-b-end
overflow_add-b-end c = omega (arith, (sound-sized _ _ c.args.plot.passed).few)

pub loop-b-init : goal.loop-b-init
loop-b-init c = printed-none _ _ _ _

pub put_arrow-offset-requires : goal.put_arrow-offset-requires
put_arrow-offset-requires c =
    let l = c.loop-b in
    let few = (sound-sized _ _ c.args.plot.passed).few in (
      c.requires.0,
      record { low = l.invariant.low; high = omega (arith, c.loop-b-test.true) },
      omega
          (arith, printed-near l.invariant 28 (arrow-le _ _), c.loop-b-test.true, few, c.requires.1),
    )

pub loop-b-preserved : goal.loop-b-preserved
loop-b-preserved c =
    let put-arrow = c.put_arrow-offset in
    let loop-test = c.loop-b-test in
    let l = c.loop-b in
    printed-next _ _ _ _ _ _ _ _ l.b l.invariant (omega (arith, loop-test.true)) (both put-arrow.ensures.0 put-arrow.ensures.1)

pub shape_of-out : goal.shape_of-out
shape_of-out c = ap length c.loop-b.invariant.so_far.bytes ∙ length-poured _ _ _

pub returns : goal.returns
returns c = printed-all _ _ _ _ _ _ c.loop-b.b c.loop-b.invariant (omega (arith, c.loop-b-test.false))
