-- The clock record, lent and advanced where it is kept: document 01, "The clock", and refusal 7.
-- A refused advance leaves the clock as it was.
use Rattle.std.specs.Prelude.{ℕ, cond, eqb}
use Rattle.height.specs.Clock.{clock_after}
use Rattle.height.specs.declared.Time.{Time}
use Rattle.refusal.specs.Outcome.{Answered, Outcome, outcome}

-- by what the move says: the moved clock, or the old one
unfoldable pub kept : Time → Answered ℕ → Outcome (Answered ℕ) Time
kept t s = cond (eqb s.why.number 0) (outcome s (record { 0 = s.value })) (outcome s t)

-- the clock t after a stamp
unfoldable pub advance_on : Time → Time → Outcome (Answered ℕ) Time
advance_on t stamp = kept t (clock_after t.0 stamp.0)
