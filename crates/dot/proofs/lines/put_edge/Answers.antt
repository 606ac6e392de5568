-- `dot::lines::put_edge` meets its contract: its pieces are poured one behind the other.
use native.Mathlib.Omega.{arith}
use Rattle.text.proofs.PourLaws.{both, then, named-so}
use Rattle.text.proofs.TextLaws.{length-decimal-le}
use Rattle.dot.proofs.Pieces.{edge-pieces}
use Rattle.dot.proofs.lines.put_edge.Goals as goal

pub put_mark-c-requires : goal.put_mark-c-requires
put_mark-c-requires c =
    let put-decimal = c.put_decimal-b in
    let put-bytes = c.put_bytes-a in
    omega (arith, put-bytes.ensures.1, put-decimal.ensures.1, length-decimal-le c.args.e.first, c.requires)

pub put_decimal-d-requires : goal.put_decimal-d-requires
put_decimal-d-requires c =
    let put-mark = c.put_mark-c in
    let put-decimal = c.put_decimal-b in
    let put-bytes = c.put_bytes-a in
    omega (arith, put-bytes.ensures.1, put-decimal.ensures.1, put-mark.ensures.1, length-decimal-le c.args.e.first, c.requires)

pub put_bytes-requires : goal.put_bytes-requires
put_bytes-requires c =
    let put-decimal2 = c.put_decimal-d in
    let put-mark = c.put_mark-c in
    let put-decimal = c.put_decimal-b in
    let put-bytes = c.put_bytes-a in
    omega (
      arith,
      put-bytes.ensures.1,
      put-decimal.ensures.1,
      put-mark.ensures.1,
      put-decimal2.ensures.1,
      length-decimal-le c.args.e.first,
      length-decimal-le c.args.e.second,
      c.requires,
    )

pub returns : goal.returns
returns c =
    let put-bytes2 = c.put_bytes in
    let put-decimal2 = c.put_decimal-d in
    let put-mark = c.put_mark-c in
    let put-decimal = c.put_decimal-b in
    let put-bytes = c.put_bytes-a in
    let a = put-bytes.ensures in
    let b = put-decimal.ensures in
    let m = put-mark.ensures in
    let d = put-decimal2.ensures in
    let e = put-bytes2.ensures in
    named-so (then (both a.0 a.1) (then (both b.0 b.1) (then (both m.0 m.1) (then (both d.0 d.1) (both e.0 e.1)))))
    (edge-pieces c.args.mark c.args.e)
