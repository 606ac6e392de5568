-- The places of a height's and a message's fields, from the one list of widths (document 02 [4]). Over a depth's width d.
-- That packing puts each field at its place and reading finds it there is in PlacedFields.
use Prim.Native.Nat.{ℕ, suc, ◌+◌, ◌≤◌, ◌<◌}
use native.Mathlib.Omega.{arith}
use native.Mathlib.Numerals.{add-one}
use mathlib.Core.Path.{◌≡◌, refl, sym, ap, ◌∙◌}
use mathlib.Core.List.{[], ◌∷◌, map}
use lib.ListN.{get_or}
use Rattle.bits.specs.Bits.{total}
use Rattle.bits.proofs.Fields.{total-more, total-take-le}
use Rattle.tables.specs.Tables.{message_size}
use Rattle.image.specs.Widths.{widths_of, field_place, depth_width, height_width, message_width}

-- how wide field k is
abbrev pub field_width : ℕ → ℕ → ℕ
field_width d k = get_or (widths_of d) k 0

-- THEOREM: the first field starts at 0, and the next one behind each, with no gap and no overlap
pub first-place : (d : ℕ) → field_place d 0 ≡ 0
unfolding field_place total
first-place d = refl

pub next_place : (d k : ℕ) → k < message_size → field_place d (suc k) ≡ field_place d k + field_width d k
unfolding field_place
next_place d k h = ap (field_place d) (sym (add-one k)) ∙ total-more (widths_of d) k h

-- no field starts behind a message's end
pub place-le : (d k : ℕ) → field_place d k ≤ message_width d
unfolding message_width field_place
place-le d k = total-take-le (widths_of d) k

-- ---- where a height and a message end

pub height-end : (d : ℕ) → height_width d ≡ 80 + d
unfolding height_width field_place total
height-end d = omega arith

pub message-end : (d : ℕ) → message_width d ≡ 112 + d
unfolding message_width field_place total
message-end d = omega arith

-- THEOREM: document 01's ends
pub height-96 : height_width depth_width ≡ 96
height-96 = height-end depth_width

pub message-128 : message_width depth_width ≡ 128
message-128 = message-end depth_width

-- and its places: tau, oid, r, delta, election time, lid, id, the stamp, and the message's end
pub places : map (field_place depth_width) (0 ∷ 1 ∷ 2 ∷ 3 ∷ 4 ∷ 5 ∷ 6 ∷ 7 ∷ 8 ∷ []) ≡ 0 ∷ 32 ∷ 37 ∷ 38 ∷ 54 ∷ 86 ∷ 91 ∷ 96 ∷ 128 ∷ []
unfolding field_place total
places = refl

-- seven fields are a height, eight a message; a message is a height and then its stamp
pub height-place : (d : ℕ) → field_place d 7 ≡ height_width d
unfolding height_width
height-place d = refl

pub message-place : (d : ℕ) → field_place d 8 ≡ message_width d
unfolding message_width
message-place d = refl

pub message-wider : (d : ℕ) → message_width d ≡ height_width d + 32
unfolding message_width height_width
message-wider d = next_place d 7 (omega arith)
