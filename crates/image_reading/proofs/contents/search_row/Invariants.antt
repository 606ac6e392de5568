-- `image_reading::contents::search_row` meets its contract. The invariant: no fault among the pairs below v, `late` is the first untimely one of
-- them, and the place is behind their channels.
use Prim.Native.Nat.{◌-◌}
use mathlib.Core.Path.{◌≡◌}
use lib.ListN.{length}
use Rattle.bits.specs.Bits.{unpacked}
use Rattle.lent.proofs.Walks.{BothRow}
use Rattle.tables.specs.Tables.{cell_width}
use Rattle.image_reading.specs.inner.Search.{row_holds, row_timely}
use Rattle.image_reading.proofs.ReadLaws.{ChannelAt}
use Rattle.image_reading.proofs.contents.search_row.Given as goal

abbrev pub invariant-loop-v : goal.invariant-loop-v
invariant-loop-v l =
    BothRow (row_holds l.depth l.n (unpacked l.image) l.row l.at) (row_timely l.depth (unpacked l.image) l.row l.at) l.n l.u l.initial.late l.late l.v
    × ChannelAt l.depth (unpacked l.image) l.u l.at (l.v - 1) l.place × (length l.cell ≡ cell_width)
