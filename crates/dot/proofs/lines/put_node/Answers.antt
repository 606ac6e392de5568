-- `dot::lines::put_node` meets its contract: its pieces are poured one behind the other.
use native.Mathlib.Omega.{arith}
use Rattle.text.proofs.PourLaws.{both, then, named-so}
use Rattle.text.proofs.TextLaws.{length-decimal-le}
use Rattle.dot.proofs.Pieces.{node-pieces}
use Rattle.dot.proofs.lines.put_node.Goals as goal

pub put_bytes-requires : goal.put_bytes-requires
put_bytes-requires c =
    let put-decimal = c.put_decimal-b in
    let put-bytes = c.put_bytes-a in
    omega (arith, put-bytes.ensures.1, put-decimal.ensures.1, length-decimal-le c.args.k, c.requires)

pub returns : goal.returns
returns c =
    let put-bytes2 = c.put_bytes in
    let put-decimal = c.put_decimal-b in
    let put-bytes = c.put_bytes-a in
    let a = put-bytes.ensures in
    let b = put-decimal.ensures in
    let d = put-bytes2.ensures in
    named-so (then (both a.0 a.1) (then (both b.0 b.1) (both d.0 d.1)))
    (node-pieces c.args.k)
