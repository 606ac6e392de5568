-- `image_reading::contents::search_rows` meets its contract. The invariant: no fault in the first u rows, `late` is the first untimely pair of them, and
-- the place is behind their channels.
use Prim.Native.Nat.{◌+◌}
use mathlib.Core.Path.{◌≡◌}
use lib.ListN.{length}
use Rattle.bits.specs.Bits.{unpacked}
use Rattle.image.specs.Places.{tables_in}
use Rattle.lent.specs.Check.{pair_at, timely_at}
use Rattle.lent.proofs.Walks.{BothRows}
use Rattle.tables.specs.Tables.{width, cell_width}
use Rattle.image_reading.proofs.ReadLaws.{ChannelsAt}
use Rattle.image_reading.proofs.contents.search_rows.Given as goal

abbrev pub invariant-loop-u : goal.invariant-loop-u
invariant-loop-u l =
    BothRows (pair_at l.n (tables_in l.h l.depth l.n (unpacked l.image))) (timely_at l.n (tables_in l.h l.depth l.n (unpacked l.image))) l.n l.late (l.u + 1)
    × ChannelsAt l.h l.depth l.n (unpacked l.image) l.u l.place × (length l.row ≡ width l.n) × (length l.cell ≡ cell_width)
