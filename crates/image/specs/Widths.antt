-- The fields of a height and of a message in an image: document 01, "The plot image". One list of widths, over a depth's width d.
-- Where a field of theirs starts, and where they end, is a sum over it.
-- Their words are those of the lent tables: tau, oid, r, delta, election time without its sign, lid, id; then the timestamp.
use Rattle.std.specs.Prelude.{ℕ, ◌+◌, ◌-◌, ◌*◌, ◌^◌, cond, List, [], ◌∷◌, ltb, length, take, get_or, set}
use Rattle.bits.specs.Bits.{total, spread, gathered}
use Rattle.height.specs.Words.{height_size}
use Rattle.tables.specs.Tables.{message_size}

-- the widths of a message's fields; a height's are the first seven
abbrev pub widths_of : ℕ → List ℕ
widths_of d = 32 ∷ 5 ∷ 1 ∷ d ∷ 32 ∷ 5 ∷ 5 ∷ 32 ∷ []

-- where field k, counted from 0, starts in a record: behind those before it
unfoldable pub field_place : ℕ → ℕ → ℕ
field_place d k = total (take k (widths_of d))

-- the bits of a height (seven words) or a message (eight)
unfoldable pub record_bits : ℕ → List ℕ → List ℕ
record_bits d ws = spread (take (length ws) (widths_of d)) ws

-- a number of w bits in two's complement, as a word of 32 bits
unfoldable pub extended_of : ℕ → ℕ → ℕ
extended_of w v = cond (ltb v (2 ^ (w - 1))) v (v + (2 ^ 32 - 2 ^ w))

-- the k words of the height or message that bits begin with; the depth is read with its sign
unfoldable pub record_of : ℕ → ℕ → List ℕ → List ℕ
record_of d k bs =
    set (gathered (take k (widths_of d)) bs) 3 (extended_of d (get_or (gathered (take k (widths_of d)) bs) 3 0))

-- version 1: bits of the header, and of a depth
abbrev pub header_length : ℕ
header_length = 32

abbrev pub depth_width : ℕ
depth_width = 16

-- bits of a node's clock and sets, before its heights
abbrev pub node_head : ℕ
node_head = 64

-- bits of a height, of a message, of a node's record
unfoldable pub height_width : ℕ → ℕ
height_width d = field_place d height_size

unfoldable pub message_width : ℕ → ℕ
message_width d = field_place d message_size

unfoldable pub node_width : ℕ → ℕ → ℕ
node_width d n = node_head + height_width d * n
