-- `image_reading::filling::read_rows` meets its contract. The invariant: the first u rows are filled.
use Rattle.bits.specs.Bits.{unpacked}
use Rattle.image.specs.Places.{records_in}
use Rattle.tables.specs.Records.{row_words}
use Rattle.tables.specs.Tables.{width}
use Rattle.image_reading.proofs.FillLaws.{Filling}
use Rattle.image_reading.proofs.filling.read_rows.Given as goal

abbrev pub invariant-loop-u : goal.invariant-loop-u
invariant-loop-u l =
    Filling (width l.n) l.n (row_words l.n (records_in l.h l.depth l.n (unpacked l.image))) l.u l.nodes
