-- `image_reader::nodes::record_at` meets its contract: four parts of one record.
use Prim.Native.Nat.{◌+◌}
use native.Mathlib.Omega.{arith}
use Rattle.bits.specs.Bits.{field}
use Rattle.bits.proofs.Bytes.{field_lt}
use Rattle.image.specs.Places.{field_in}
use Rattle.image_reader.specs.Record.{record_in}
use Rattle.image_reader.proofs.RecordLaws.{head-inside}
use Rattle.image_reader.proofs.nodes.record_at.Goals as goal

pub get-requires : goal.get-requires
get-requires c =
    let h = head-inside c.args.image.now c.args.at c.args.n c.requires.2 in
    (omega arith, (omega (arith, h.0), omega (arith, h.1)))

pub get-neighbors-requires : goal.get-neighbors-requires
get-neighbors-requires c =
    let h = head-inside c.args.image.now c.args.at c.args.n c.requires.2 in
    (omega arith, (omega (arith, h.0), omega (arith, h.1)))

pub overflow_cast-neighbors : goal.overflow_cast-neighbors
overflow_cast-neighbors c =
    let h = head-inside c.args.image.now c.args.at c.args.n c.requires.2 in
    record { fits = rw c.get-neighbors.ensures (field_lt c.args.image.now (c.args.at + 32) 16 (omega (arith, h.1))) }

pub get-forming-requires : goal.get-forming-requires
get-forming-requires c =
    let h = head-inside c.args.image.now c.args.at c.args.n c.requires.2 in
    (omega arith, (omega (arith, h.0), omega (arith, h.1)))

pub overflow_cast-forming : goal.overflow_cast-forming
overflow_cast-forming c =
    let h = head-inside c.args.image.now c.args.at c.args.n c.requires.2 in
    record { fits = rw c.get-forming.ensures (field_lt c.args.image.now (c.args.at + 48) 16 (omega (arith, h.1))) }

pub returns : goal.returns
unfolding record_in field field_in
returns c = rw (c.get.ensures, c.get-neighbors.ensures, c.get-forming.ensures, c.get_heights.ensures)
