-- `image::rows::put_row` meets its contract: three fields and the heights are put end to end.
use Prim.Native.Nat.{◌-◌, ◌*◌}
use native.Mathlib.Omega.{arith}
use mathlib.Core.Path.{◌≡◌, ◌∙◌}
use lib.ListN.{length, take, drop}
use Rattle.image.specs.Widths.{node_width}
use Rattle.image.proofs.PartCalls.{rest-length, inside-after, row_put}
use Rattle.image.proofs.PartTurns.{heights, behind-sets}
use Rattle.image.proofs.rows.put_row.Goals as goal

pub put-requires : goal.put-requires
unfolding node_width
put-requires c = omega arith

pub put-requires-2 : goal.put-requires-2
unfolding node_width
put-requires-2 c = omega arith

pub put-requires-3 : goal.put-requires-3
unfolding node_width
put-requires-3 c = omega arith

pub put_records-requires : goal.put_records-requires
put_records-requires c =
    let row = c.args.row.now in
    let len : length (take (length row - 3) (drop 3 row)) ≡ c.args.n * 7 = rest-length 3 row ∙ omega arith in
    let same : length c.put-3.new.buf ≡ length c.args.buf.now = omega arith in
    rw c.height.ensures (heights (c.requires.0, c.requires.1, len, inside-after same (behind-sets c.args.depth c.args.n c.requires.3)))

pub returns : goal.returns
returns c =
    row_put c.args.depth c.args.n c.args.row.now c.args.buf.now _ _ _ _ c.args.at c.requires.2 c.requires.3
    c.put.ensures c.put-2.ensures c.put-3.ensures c.put_records.ensures
