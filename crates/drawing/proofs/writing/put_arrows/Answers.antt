use native.Mathlib.Omega.{arith}
use mathlib.Core.Path.{ap, ◌∙◌}
use lib.ListN.{length}
use Rattle.lent.proofs.CheckLaws.{sound-sized}
use Rattle.text.proofs.PourLaws.{both, named-so, printed-none, printed-next, printed-near, printed-all}
use Rattle.text.proofs.TextLaws.{length-poured}
use Rattle.drawing.proofs.Pours.{row-le, all-arrows}
use Rattle.drawing.proofs.writing.put_arrows.Goals as goal

pub overflow_add-a-end : goal.overflow_add-a-end
overflow_add-a-end c = omega (arith, (sound-sized _ _ c.args.plot.passed).few)

pub loop-a-init : goal.loop-a-init
loop-a-init c = printed-none _ _ _ _

pub put_arrows_from-offset-requires : goal.put_arrows_from-offset-requires
put_arrows_from-offset-requires c =
    let l = c.loop-a in
    let few = (sound-sized _ _ c.args.plot.passed).few in (
      record { low = l.invariant.low; high = omega (arith, c.loop-a-test.true) },
      omega
          (arith, printed-near l.invariant 448 (row-le _ _ few), c.loop-a-test.true, few, c.requires),
    )

pub loop-a-preserved : goal.loop-a-preserved
loop-a-preserved c =
    let put-arrows-from = c.put_arrows_from-offset in
    let loop-test = c.loop-a-test in
    let l = c.loop-a in
    printed-next _ _ _ _ _ _ _ _ l.a l.invariant (omega (arith, loop-test.true)) (both put-arrows-from.ensures.0 put-arrows-from.ensures.1)

pub shape_of-out : goal.shape_of-out
shape_of-out c = ap length c.loop-a.invariant.so_far.bytes ∙ length-poured _ _ _

pub returns : goal.returns
returns c =
    let all = printed-all _ _ _ _ _ _ c.loop-a.a c.loop-a.invariant (omega (arith, c.loop-a-test.false)) in
    named-so (both all.0 all.1) (all-arrows _ _)
