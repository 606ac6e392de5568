use native.Mathlib.Omega.{arith}
use mathlib.Core.Path.{◌∙◌}
use Rattle.lent.proofs.Walks.{both-row, both-next, both-late, both-fault}
use Rattle.image_reading.proofs.ReadLaws.{channel-start, channel-end}
use Rattle.image_reading.proofs.SearchLaws.{cell-read, pair-channel, pair-next, pair_read, row-passes}
use Rattle.image_reading.proofs.contents.search_row.Goals as goal
use Rattle.image_reading.proofs.contents.search_row.Goals.{in-Good, in-Untimely}

pub loop-v-init : goal.loop-v-init
loop-v-init c = (both-row _ _ _ _ _, channel-start, c.requires.4)

pub read_cell-place-requires : goal.read_cell-place-requires
read_cell-place-requires c =
    let l = c.loop-v in
    (c.requires.0, l.invariant.2, pair-channel (omega arith) l.invariant.1 c.requires.5 c.loop-v-test.true)

pub read_pair-requires : goal.read_pair-requires
read_pair-requires c =
    let l = c.loop-v in
    let wide = c.read_cell-place.auto.cell ∙ l.invariant.2 in
    let read = cell-read (pair-channel (omega arith) l.invariant.1 c.requires.5 c.loop-v-test.true) c.read_cell-place.ensures.0 in
    (c.requires.1, c.requires.2, record { low = omega arith; high = omega arith }, c.requires.3, wide, read)

pub returns-in-Faulty : goal.returns-in-Faulty
returns-in-Faulty c =
    let l = c.loop-v in
    let is = pair_read (omega arith) l.invariant.1 _ _ c.read_cell-place.ensures.0 c.read_pair.ensures in
    both-fault _ _ _ _ _ _ _ l.invariant.0 (omega arith) is c.in-Faulty.is

pub loop-v-preserved : goal.loop-v-preserved
loop-v-preserved c =
    let l = c.loop-v in
    let is = pair_read (omega arith) l.invariant.1 _ _ c.read_cell-place.ensures.0 c.read_pair.ensures in
    let behind = pair-next (omega arith) l.invariant.1 c.read_cell-place.ensures.1 in
    let wide = c.read_cell-place.auto.cell ∙ l.invariant.2 in
    elim c.match-read_pair.branch [
      | in-Good w ↦ (rw w.late-is (both-next _ _ _ _ _ _ _ l.invariant.0 (omega arith) is w.in-Good.is), behind, wide)
      | in-Untimely w ↦ (both-late _ _ _ _ _ _ _ l.invariant.0 (omega arith) is w.in-Untimely.is (w.late-is ∙ w.and-late.ensures), behind, wide)
    ]

pub returns : goal.returns
returns c =
    let l = c.loop-v in
    let end = row-passes _ _ _ _ _ _ _ l.invariant.0 c.loop-v-test.false in
    (end.0, end.1, channel-end l.invariant.1 (omega arith) (omega (arith, c.loop-v-test.false)))
