-- `image::cells::put_cell` meets its contract: the count and the messages are put end to end; without messages the count alone.
use Prim.Native.Nat.{◌-◌}
use native.Mathlib.Omega.{arith}
use mathlib.Core.Path.{◌≡◌, refl, ◌∙◌}
use lib.ListN.{length, take, drop}
use Rattle.image.proofs.PartCalls.{rest-length, cell-put, cell-empty}
use Rattle.image.proofs.PartTurns.{messages}
use Rattle.image.proofs.cells.put_cell.Goals as goal

pub returns-then-c-eq0 : goal.returns-then-c-eq0
returns-then-c-eq0 c =
    let count = c.put.ensures in
    (cell-empty c.args.depth c.args.cell.now c.args.buf.now c.args.at c.if-c-eq0.true count, rw c.if-c-eq0.true (omega arith))

pub put_records-requires : goal.put_records-requires
put_records-requires c =
    let put = c.put in
    let cell = c.args.cell.now in
    let len : length (take (length cell - 1) (drop 1 cell)) ≡ 64 = rest-length 1 cell ∙ omega arith in
    let same : length put.new.buf ≡ length c.args.buf.now = omega arith in
    rw c.message-w.ensures
    (messages (c.requires.0, c.requires.2, len, record { small = omega (arith, c.requires.3.small); inside = omega (arith, c.requires.3.inside, same) }))

pub overflow_mul-result : goal.overflow_mul-result
overflow_mul-result c = rw c.message-w.ensures (omega arith)

pub overflow_add-result-3 : goal.overflow_add-result-3
overflow_add-result-3 c = rw c.message-w.ensures (omega arith)

pub returns : goal.returns
returns c = (
  cell-put c.args.depth c.args.cell.now c.args.buf.now _ _ c.args.at c.requires.1 c.requires.2 c.requires.3
      c.put.ensures c.put_records.ensures,
  rw c.message-w.ensures refl,
)
