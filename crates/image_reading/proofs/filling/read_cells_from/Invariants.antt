-- `image_reading::filling::read_cells_from` meets its contract. The invariant: the first v cells are filled, and the place is behind their channels.
use Rattle.bits.specs.Bits.{unpacked}
use Rattle.tables.specs.Tables.{cell_width}
use Rattle.image_reading.specs.inner.Cells.{cell_behind}
use Rattle.image_reading.proofs.FillLaws.{Filling}
use Rattle.image_reading.proofs.ReadLaws.{ChannelAt}
use Rattle.image_reading.proofs.filling.read_cells_from.Given as goal

abbrev pub invariant-loop-v : goal.invariant-loop-v
invariant-loop-v l =
    Filling cell_width l.n (cell_behind l.depth (unpacked l.image) l.u l.at) l.v l.cells
    × ChannelAt l.depth (unpacked l.image) l.u l.at l.v l.place
