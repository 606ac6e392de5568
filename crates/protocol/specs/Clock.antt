-- The moved clock T: document 01, "The clock", with document 02, [5]. Every accepted event at a node first moves its clock.
use Rattle.std.specs.Prelude.{ℕ, suc, max}

-- up and down: by one
abbrev pub ticked : ℕ → ℕ
ticked clock = suc clock

-- a receipt, whether the message is used or ignored: to one more than the larger of the clock and the stamp
abbrev pub receipt_clock : ℕ → ℕ → ℕ
receipt_clock clock stamp = suc (max clock stamp)
