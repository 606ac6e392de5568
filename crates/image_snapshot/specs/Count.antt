-- How many nodes the header of an image names: 10 or 11, else its n.
use Rattle.std.specs.Prelude.{ℕ, List}
use Rattle.image_reading.specs.Header.{header_of}
use Rattle.image_reading.specs.declared.Fields.{Fields}
use Rattle.refusal.specs.Outcome.{Answered}

-- a refused header has no field, and so 0 nodes
abbrev pub count_headed : Answered Fields → Answered ℕ
count_headed h = record { why = h.why; value = h.value.n }

unfoldable pub count_on : List ℕ → Answered ℕ
count_on xs = count_headed (header_of xs)
