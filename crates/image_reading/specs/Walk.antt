-- The walk over nodes and channel counts: document 01, "The plot image". l are the image's bits.
-- A count above 8 stops it with its pair, an end met too early as cut off, whichever comes first.
use Rattle.std.specs.Prelude.{ℕ, zero, suc, ◌+◌, ◌*◌, Bool, cond, ◌&&◌, List, eqb, ltb, length, drop, Result, Ok, Err}
use Rattle.refusal.specs.declared.Refusal.{Refusal}
use Rattle.bits.specs.Bits.{number}
use Rattle.image.specs.Places.{field_in, channels_place}
use Rattle.image.specs.Widths.{message_width}
use Rattle.protocol.specs.Network.{capacity}
use Rattle.refusal.specs.declared.Refusal.TheVariants.{Fault, BadEnd}

-- where a walk is, or why it stopped
abbrev pub Walk : Type 0
Walk = Result ℕ Refusal

-- channel u to v, which starts at q: a count of 4 bits, then so many messages; none from a node to itself
unfoldable pub channel_step : ℕ → List ℕ → ℕ → ℕ → ℕ → Walk
channel_step d l u v q =
    cond (eqb u v) (Ok q)
    (cond (ltb (length l) (q + 4)) (Err BadEnd)
    (cond (ltb capacity (field_in l q 4)) (Err (Fault u v))
    (cond (ltb (length l) (q + 4 + field_in l q 4 * message_width d)) (Err BadEnd) (Ok (q + 4 + field_in l q 4 * message_width d)))))

-- a walk goes on from a place, and stays where it stopped
unfoldable pub onward : Walk → (ℕ → Walk) → Walk
onward (Ok q) f = f q
onward (Err r) f = Err r

-- k steps from q
unfoldable pub steps : (ℕ → ℕ → Walk) → ℕ → ℕ → Walk
steps f zero q = Ok q
steps f (suc k) q = onward (steps f k q) (f (suc k))

-- the channels from u, then all channels
unfoldable pub channels_from_walk : ℕ → ℕ → List ℕ → ℕ → ℕ → Walk
channels_from_walk d n l u q = steps (channel_step d l u) n q

unfoldable pub channels_walk : ℕ → ℕ → List ℕ → ℕ → Walk
channels_walk d n l q = steps (channels_from_walk d n l) n q

-- the nodes' records have one width each; then the channels
unfoldable pub walk : ℕ → ℕ → ℕ → List ℕ → Walk
walk h d n l = cond (ltb (length l) (channels_place h d n)) (Err BadEnd) (channels_walk d n l (channels_place h d n))

-- the image ends in the byte of place q, and all bits from q on are 0
unfoldable pub ends_at : List ℕ → ℕ → Bool
ends_at l q = ltb (length l) (q + 8) && eqb (number (drop q l)) 0
