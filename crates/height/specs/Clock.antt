-- The clock: document 01, "The clock", and refusal 7.
-- `said_moved` gives document 01's number and value for each case of the answer.
use Rattle.std.specs.Prelude.{ℕ, suc, max, cond, ltb, Result, Ok, Err}
use Rattle.refusal.specs.Outcome.{Answered, accepted, refused_with}
use Rattle.refusal.specs.Refusal.{why, why_of}
use Rattle.refusal.specs.declared.Refusal.{Refusal}
use Rattle.height.specs.declared.Time.{Time}

-- the last time: the clock's end
abbrev pub last_time : ℕ
last_time = 4294967295

-- 0 and the moved clock, or 7 and no clock
abbrev pub said_moved : Result Time Refusal → Answered ℕ
said_moved (Ok t) = accepted t.0
said_moved (Err r) = refused_with 0 (why_of r)

-- one more than the larger of the clock and the stamp, unless that passes the clock's end
unfoldable pub clock_after : ℕ → ℕ → Answered ℕ
clock_after clock stamp = cond (ltb (max clock stamp) last_time) (accepted (suc (max clock stamp))) (refused_with 0 (why 7 0 0))
