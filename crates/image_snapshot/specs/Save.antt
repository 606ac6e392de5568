-- Saving (document 01: writing the image): what it answers and what the lent bytes are afterwards.
-- It checks 1, 2, 18, 14; the image of the network that the tables hold goes to the front, and bytes past it are not touched.
use Rattle.std.specs.Prelude.{ℕ, List}
use Rattle.image.specs.Image.{image}
use Rattle.lent.specs.Check.{check_on}
use Rattle.refusal.specs.Outcome.{Answered, Outcome, put_checked}
use Rattle.tables.specs.Load.{load}
use Rattle.tables.specs.Tables.{Tables}

-- 1, 2 or 18 by the check of the tables, else 14 or the image
unfoldable pub save_on : ℕ → Tables → List ℕ → Outcome (Answered ℕ) (List ℕ)
save_on n t out = put_checked (check_on n t) (image n (load n t)) out
