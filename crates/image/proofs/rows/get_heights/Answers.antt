-- `image::rows::get_heights` meets its contract: n records of seven words behind the clock and the sets.
use Rattle.bits.specs.Bits.{unpacked}
use Rattle.image.proofs.PartTurns.{node-heights, heights-done}
use Rattle.image.proofs.rows.get_heights.Goals as goal

pub get_records-requires : goal.get_records-requires
get_records-requires c = rw c.height.ensures (node-heights c.requires)

pub returns : goal.returns
returns c =
    heights-done c.args.depth c.args.n (unpacked c.args.bytes.now) c.args.at c.args.words.now c.requires.2
    (rw c.height.ensures at c.get_records.ensures)
