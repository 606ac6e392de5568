-- `image_reading::filling::read_cells` meets its contract. The invariant: the cells from the first u nodes are filled, and the place is behind
-- their channels.
use Prim.Native.Nat.{◌*◌}
use Rattle.bits.specs.Bits.{unpacked}
use Rattle.image.specs.Places.{records_in}
use Rattle.tables.specs.Records.{cell_words}
use Rattle.tables.specs.Rows.{rows}
use Rattle.tables.specs.Tables.{cell_width}
use Rattle.image_reading.proofs.FillLaws.{Filling}
use Rattle.image_reading.proofs.ReadLaws.{ChannelsAt}
use Rattle.image_reading.proofs.filling.read_cells.Given as goal

abbrev pub invariant-loop-u : goal.invariant-loop-u
invariant-loop-u l =
    Filling (l.n * cell_width) l.n (λ i. rows l.n (λ v. cell_words ((records_in l.h l.depth l.n (unpacked l.image)).channel i v))) l.u l.channels
    × ChannelsAt l.h l.depth l.n (unpacked l.image) l.u l.place
