-- `image::rows::get_row` meets its contract: three words are set before the heights.
use native.Mathlib.Omega.{arith}
use mathlib.Core.Path.{sym, ap, ◌∙◌}
use lib.ListN.{length}
use Rattle.bits.specs.Bits.{unpacked}
use Rattle.image.specs.Widths.{node_width}
use Rattle.image.proofs.PartCalls.{row-got, row-rest}
use Rattle.image.proofs.PartLaws.{length-row-from}
use Rattle.image.proofs.rows.get_row.Goals as goal

pub get-requires : goal.get-requires
unfolding node_width
get-requires c = omega arith

pub get-requires-2 : goal.get-requires-2
unfolding node_width
get-requires-2 c = omega arith

pub get-requires-3 : goal.get-requires-3
unfolding node_width
get-requires-3 c = omega arith

pub get_heights-requires : goal.get_heights-requires
get_heights-requires c =
    (c.requires.0, c.requires.1, row-rest c.args.n c.args.row.now _ _ _ c.requires.2, c.requires.3)

pub returns : goal.returns
returns c =
    let a = c.args in
    row-got a.depth a.n a.bytes.now a.row.now _ a.at _ _ _ c.requires.2
    c.get.ensures c.get-2.ensures
    c.get-3.ensures c.get_heights.ensures

pub shape_of-row : goal.shape_of-row
shape_of-row c =
    let a = c.args in
    ap length (returns c) ∙ length-row-from a.depth a.n (unpacked a.bytes.now) a.at ∙ sym c.requires.2
