-- `text::put_number` meets its contract: its pieces are poured one behind the other.
use native.Mathlib.Omega.{arith}
use mathlib.Core.Path.{refl}
use Rattle.text.proofs.PourLaws.{both, then, finish}
use Rattle.text.proofs.TextLaws.{length-decimal-le, number-le}
use Rattle.text.proofs.put_number.Goals as goal

pub put_byte-requires : goal.put_byte-requires
put_byte-requires c =
    omega (arith, c.put_decimal-behind.ensures.1, length-decimal-le c.args.x, c.requires)

pub returns : goal.returns
returns c =
    let first = c.put_decimal-behind.ensures in
    let last = c.put_byte.ensures in
    finish (then (both first.0 first.1) (both last.0 last.1)) refl 11 (number-le c.args.x c.args.end)
