-- `image::cells::get_cell` meets its contract: the count is set before the messages.
use Prim.Native.Nat.{ℕ, ◌+◌, ◌*◌}
use native.Mathlib.Omega.{arith}
use mathlib.Core.Path.{◌≡◌, sym, ap, ap₂, ◌∙◌}
use lib.ListN.{length}
use Rattle.bits.specs.Bits.{unpacked, field}
use Rattle.image.specs.Places.{field_in}
use Rattle.image.proofs.PartCalls.{cell-got, behind-count}
use Rattle.image.proofs.PartLaws.{length-cell-from}
use Rattle.image.proofs.cells.get_cell.Goals as goal

pub get_messages-requires : goal.get_messages-requires
get_messages-requires c =
    behind-count c.args.depth c.args.bytes.now c.args.cell.now c.args.at _ c.requires c.get-count.ensures

pub overflow_mul-result : goal.overflow_mul-result
unfolding field field_in
overflow_mul-result c =
    let got = c.get-count in
    let e : got.result ≡ field_in (unpacked c.args.bytes.now) c.args.at 4 = got.ensures in
    rw (e, c.message.ensures) (omega arith)

pub overflow_add-result-2 : goal.overflow_add-result-2
unfolding field field_in
overflow_add-result-2 c =
    let got = c.get-count in
    let e : got.result ≡ field_in (unpacked c.args.bytes.now) c.args.at 4 = got.ensures in
    rw (e, c.message.ensures) (omega arith)

pub returns : goal.returns
unfolding field field_in
returns c =
    let a = c.args in
    let got = c.get-count in (
      cell-got a.depth a.bytes.now a.cell.now _ a.at _ c.requires.1 got.ensures c.get_messages.ensures,
      ap₂ (λ (k w : ℕ). a.at + 4 + k * w) got.ensures c.message.ensures,
    )

pub shape_of-cell : goal.shape_of-cell
shape_of-cell c =
    let a = c.args in
    ap length (returns c).0 ∙ length-cell-from a.depth (unpacked a.bytes.now) a.at ∙ sym c.requires.1
