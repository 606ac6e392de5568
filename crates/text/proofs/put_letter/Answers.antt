-- `text::put_letter` meets its contract: its pieces are poured one behind the other.
use Rattle.text.proofs.PourLaws.{both, then}
use Rattle.text.proofs.put_letter.Goals as goal

pub returns : goal.returns
returns c =
    let first = c.put_byte-behind.ensures in
    let last = c.put_byte.ensures in
    let all = then (both first.0 first.1) (both last.0 last.1) in
    (all.bytes, all.offset)
