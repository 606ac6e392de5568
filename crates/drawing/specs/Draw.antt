-- Drawing lent tables: what it answers and what the lent bytes are afterwards. It checks 1, 2, 18, 14; bytes past the drawing are not touched.
use Rattle.std.specs.Prelude.{ℕ, ◌+◌, ◌-◌, ◌*◌, cond, ◌&&◌, List, leb, ltb}
use Rattle.lent.specs.Check.{check_on}
use Rattle.refusal.specs.Outcome.{Answered, Outcome, put_checked}
use Rattle.tables.specs.Load.{load}
use Rattle.tables.specs.Tables.{Tables}
use Rattle.drawing.specs.Drawing.{drawing}

-- 1, 2 or 18 by the check of the tables, else 14 or the drawing
unfoldable pub draw_on : ℕ → Tables → List ℕ → Outcome (Answered ℕ) (List ℕ)
draw_on n t out = put_checked (check_on n t) (drawing n (load n t)) out

-- ---- how long a drawing can be

-- how many digits the numbers 1 to n have together, n below 100
unfoldable pub digits_to : ℕ → ℕ
digits_to n = cond (ltb n 10) n (2 * n - 9)

-- the length of a drawing of n nodes in which every two are linked, and no drawing of n is longer: proofs/Longest.antt; 0 where n is not of 1 to 16
unfoldable pub drawing_length : ℕ → ℕ
drawing_length n = cond (leb 1 n && leb n 16) (17 + n * (4 * n + digits_to n)) 0
