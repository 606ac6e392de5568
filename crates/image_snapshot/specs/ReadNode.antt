-- One node at a saved place (document 01: "Reading one station at a saved place"): only looked at, it enters no tables.
-- 10, 11; 1 for the row of n heights; the checks of the whole image; 3 for k; 13 for a place that is not where k's record starts.
use Rattle.std.specs.Prelude.{ℕ, ◌*◌, cond, List, eqb, length}
use Rattle.bits.specs.Bits.{unpacked}
use Rattle.image.specs.Places.{node_place}
use Rattle.image.specs.Widths.{header_length, depth_width}
use Rattle.image_reader.specs.Record.{record_in, unread}
use Rattle.image_reader.specs.declared.NodeRecord.{NodeRecord}
use Rattle.image_reading.specs.Examine.{examined}
use Rattle.image_reading.specs.Header.{header_of}
use Rattle.image_reading.specs.declared.Fields.{Fields}
use Rattle.protocol.specs.Network.{is_node}
use Rattle.refusal.specs.Outcome.{Answered, Outcome}
use Rattle.refusal.specs.Refusal.{why}
use Rattle.refusal.specs.declared.Why.{Why}
use Rattle.height.specs.Words.{height_size}

-- what is said, and the lent row afterwards
abbrev pub Looked : Type 0
Looked = Outcome (Answered NodeRecord) (List ℕ)

-- 3, 13, else the record; n nodes behind a header of h bits
unfoldable pub node_placed : ℕ → ℕ → List ℕ → ℕ → ℕ → List ℕ → Looked
node_placed h n l k place row =
    cond (is_node n k)
    (cond (eqb place (node_place h depth_width n k)) (record_in n l place) (unread (why 13 0 0) row))
    (unread (why 3 0 0) row)

-- by what the checks behind the header say: 2, 12 or 18, else on
unfoldable pub node_examined : ℕ → ℕ → List ℕ → ℕ → ℕ → List ℕ → Why → Looked
node_examined h n l k place row c = cond (eqb c.number 0) (node_placed h n l k place row) (unread c row)

-- 1 for a row not of n heights, else the checks of the whole image
unfoldable pub node_sized : ℕ → ℕ → List ℕ → ℕ → ℕ → List ℕ → Looked
node_sized h n l k place row =
    cond (eqb (length row) (n * height_size)) (node_examined h n l k place row (examined header_length depth_width n l)) (unread (why 1 0 0) row)

-- by what the header says: 10 or 11, else on with its fields
unfoldable pub node_headed : List ℕ → ℕ → ℕ → List ℕ → Answered Fields → Looked
node_headed l k place row h =
    cond (eqb h.why.number 0) (node_sized h.value.length h.value.n l k place row) (unread h.why row)

unfoldable pub read_node_on : List ℕ → ℕ → ℕ → List ℕ → Looked
read_node_on xs k place row = node_headed (unpacked xs) k place row (header_of xs)
