-- Restoring (document 01: resume): reads a whole image into lent tables, or refuses and leaves them as they were.
-- 10, 11; 1 for the tables, by the header's n; then the walk, the end and the contents: 2, 12 or 18.
use Rattle.std.specs.Prelude.{ℕ, cond, List, eqb}
use Rattle.bits.specs.Bits.{unpacked}
use Rattle.image.specs.Places.{tables_in}
use Rattle.image.specs.Widths.{header_length, depth_width}
use Rattle.image_reading.specs.Examine.{examined}
use Rattle.image_reading.specs.Header.{header_of}
use Rattle.image_reading.specs.declared.Fields.{Fields}
use Rattle.refusal.specs.Outcome.{Answered, Outcome, outcome}
use Rattle.refusal.specs.Refusal.{why}
use Rattle.refusal.specs.declared.Why.{Why}
use Rattle.tables.specs.Tables.{Tables, sized}

-- by what the checks behind the header say: 2, 12 or 18, else the tables that the image's records make
unfoldable pub restore_examined : ℕ → List ℕ → Tables → Why → Outcome Why Tables
restore_examined n l t c = outcome c (cond (eqb c.number 0) (tables_in header_length depth_width n l) t)

unfoldable pub restore_of : ℕ → List ℕ → Tables → Outcome Why Tables
restore_of n l t = cond (sized n t) (restore_examined n l t (examined header_length depth_width n l)) (outcome (why 1 0 0) t)

-- by what the header says: 10 or 11, else on with its n
unfoldable pub restore_headed : List ℕ → Tables → Answered Fields → Outcome Why Tables
restore_headed l t h = cond (eqb h.why.number 0) (restore_of h.value.n l t) (outcome h.why t)

unfoldable pub restore_on : List ℕ → Tables → Outcome Why Tables
restore_on xs t = restore_headed (unpacked xs) t (header_of xs)
