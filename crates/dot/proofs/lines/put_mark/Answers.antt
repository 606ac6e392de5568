-- `dot::lines::put_mark` meets its contract: its pieces are poured one behind the other.
use mathlib.Core.Path.{refl}
use Rattle.text.proofs.PourLaws.{both, then, named-so}
use Rattle.dot.proofs.lines.put_mark.Goals as goal

pub returns : goal.returns
returns c =
    let a = c.put_bytes-a.ensures in
    let b = c.put_byte-b.ensures in
    let d = c.put_byte.ensures in
    named-so (then (both a.0 a.1) (then (both b.0 b.1) (both d.0 d.1))) refl
