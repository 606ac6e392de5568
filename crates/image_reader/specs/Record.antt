-- A node's record at a bit place: its clock, both sets, and n heights for the lent row (document 01, "The plot image").
-- 1 for n outside 1 to 16 or a row not of n heights, 12 for a record that passes the image's end; the row then stays.
use Rattle.std.specs.Prelude.{ℕ, ◌+◌, ◌*◌, cond, not, ◌||◌, List, eqb, ltb, length}
use Rattle.bits.specs.Bits.{unpacked}
use Rattle.image.specs.Places.{field_in, heights_from}
use Rattle.image.specs.Widths.{depth_width, node_width}
use Rattle.refusal.specs.Outcome.{Answered, Outcome, accepted, outcome, refused_with}
use Rattle.refusal.specs.Refusal.{why}
use Rattle.refusal.specs.declared.Why.{Why}
use Rattle.height.specs.Words.{height_size}
use Rattle.image_reader.specs.Fields.{stands_in}
use Rattle.image_reader.specs.declared.NodeRecord.{NodeRecord}

abbrev pub no_node : NodeRecord
no_node = record { clock = record { 0 = 0 }; neighbors = 0; forming = 0 }

abbrev pub unread : Why → List ℕ → Outcome (Answered NodeRecord) (List ℕ)
unread w row = outcome (refused_with no_node w) row

-- the record at a place of the bits l, and the lent row with its heights
unfoldable pub record_in : ℕ → List ℕ → ℕ → Outcome (Answered NodeRecord) (List ℕ)
record_in n l at =
    outcome (accepted (record { clock = record { 0 = field_in l at 32 }; neighbors = field_in l (at + 32) 16; forming = field_in l (at + 48) 16 }))
    (heights_from depth_width n l at)

-- 12, else the record
unfoldable pub node_inside : ℕ → List ℕ → ℕ → List ℕ → Outcome (Answered NodeRecord) (List ℕ)
node_inside n xs at row = cond (not (stands_in xs at (node_width depth_width n))) (unread (why 12 0 0) row) (record_in n (unpacked xs) at)

-- 1, 12, else the record
unfoldable pub node_on : ℕ → List ℕ → ℕ → List ℕ → Outcome (Answered NodeRecord) (List ℕ)
node_on n xs at row = cond ((ltb n 1 || ltb 16 n) || not (eqb (length row) (n * height_size))) (unread (why 1 0 0) row) (node_inside n xs at row)
