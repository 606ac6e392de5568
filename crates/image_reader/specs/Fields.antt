-- A reader keeps an image's bytes and a bit place in them together: document 01, "The plot image".
-- A refusal (12) leaves the reader as it was.
use Rattle.std.specs.Prelude.{ℕ, ◌+◌, ◌*◌, ◌^◌, Bool, cond, not, ◌&&◌, ◌||◌, List, leb, ltb, length}
use Rattle.bits.specs.Bits.{field}
use Rattle.refusal.specs.Outcome.{Answered, Outcome, accepted, outcome, refused_with}
use Rattle.refusal.specs.Refusal.{why}
use Rattle.image_reader.specs.declared.Reader.{Reader}

-- w bits from a place on stand inside the bytes, and the place behind them is a number of 64 bits
unfoldable pub stands_in : List ℕ → ℕ → ℕ → Bool
stands_in xs at w = ltb (at + w) (2 ^ 64) && leb (at + w) (8 * length xs)

-- a field of at most 32 bits: what is said, and the place afterwards
unfoldable pub take_on : List ℕ → ℕ → ℕ → Outcome (Answered ℕ) ℕ
take_on xs at w =
    cond (ltb 32 w || not (stands_in xs at w)) (outcome (refused_with 0 (why 12 0 0)) at) (outcome (accepted (field xs at w)) (at + w))

-- the same on a reader: the same bytes, at the place afterwards
abbrev pub moved_to : Reader → Outcome (Answered ℕ) ℕ → Outcome (Answered ℕ) Reader
moved_to r o = outcome o.said (record { image = r.image; at = o.after })

unfoldable pub take_from : Reader → ℕ → Outcome (Answered ℕ) Reader
take_from r w = moved_to r (take_on r.image.now r.at w)
