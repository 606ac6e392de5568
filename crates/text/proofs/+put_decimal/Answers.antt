-- `text::put_decimal` meets its contract: the call pours the digits before the last, and then the last goes behind them.
use Rattle.std.proofs.Common.{◌≡◌, ◌+◌, ◌∙◌, length, arith}
use Rattle.text.specs.inner.Poured.{poured}
use Rattle.text.proofs.TextLaws.{front, length-front-le, put-no-front, put_front, put_last}
use Rattle.text.proofs.+put_decimal.Goals as goal
use Rattle.text.proofs.+put_decimal.Goals.{then-x-ge10, else-x-ge10}

-- where the ways meet, the digits before the last are poured
pub put_byte-requires : goal.put_byte-requires
put_byte-requires t c =
    let a = c.args in
    let m = c.if-x-ge10 in
    let b : (m.out ≡ poured a.out.now a.at (front a.x)) × (m.offset ≡ a.at + length (front a.x)) =
    elim m.branch [
      | then-x-ge10 w ↦ put_front a.out.now a.at a.x _ _ w.if-x-ge10.true (w.out-is ∙ w.put_decimal-offset.ensures.0) (w.offset-is ∙ w.put_decimal-offset.ensures.1)
      | else-x-ge10 w ↦ put-no-front a.out.now a.at a.x _ _ w.if-x-ge10.false w.out-is w.offset-is
    ] in
    omega (arith, b.1, length-front-le a.x)

pub returns : goal.returns
returns t c =
    let a = c.args in
    let m = c.if-x-ge10 in
    let b : (m.out ≡ poured a.out.now a.at (front a.x)) × (m.offset ≡ a.at + length (front a.x)) =
    elim m.branch [
      | then-x-ge10 w ↦ put_front a.out.now a.at a.x _ _ w.if-x-ge10.true (w.out-is ∙ w.put_decimal-offset.ensures.0) (w.offset-is ∙ w.put_decimal-offset.ensures.1)
      | else-x-ge10 w ↦ put-no-front a.out.now a.at a.x _ _ w.if-x-ge10.false w.out-is w.offset-is
    ] in
    put_last a.out.now a.at a.x _ _ _ _ (omega arith) b.0 b.1 c.put_byte.ensures.0 c.put_byte.ensures.1
