use Rattle.std.proofs.Common.{◌∙◌, refl, arith}
use Rattle.text.specs.inner.Poured.{poured}
use Rattle.text.proofs.TextLaws.{put-turn}
use Rattle.text.proofs.put_bytes.Goals as goal

pub loop-b-init : goal.loop-b-init
unfolding poured
loop-b-init c = (omega arith, refl)

pub loop-b-preserved : goal.loop-b-preserved
loop-b-preserved c =
    let a = c.args in
    let l = c.loop-b in
    let p = c.put_byte-offset in
    let e = put-turn a.out.now l.out a.at a.bytes.now l.offset l.b-index (omega arith) l.invariant.0 l.invariant.1 in
    (omega (arith, p.ensures.1), p.ensures.0 ∙ e)
