-- All checks of an image behind its header, in document 01's order: the walk (2 or 12), left bytes and pad (12), contents (2, then 18).
-- Contents are those of the tables that the image's records make, checked as lent tables are (`contents_on`).
use Rattle.std.specs.Prelude.{ℕ, cond, List, Ok, Err}
use Rattle.image.specs.Places.{tables_in}
use Rattle.lent.specs.Check.{contents_on}
use Rattle.refusal.specs.Refusal.{why, why_of}
use Rattle.refusal.specs.declared.Why.{Why}
use Rattle.image_reading.specs.Walk.{Walk, walk, ends_at}

unfoldable pub after_walk : ℕ → ℕ → ℕ → List ℕ → Walk → Why
after_walk h d n l (Ok q) = cond (ends_at l q) (contents_on n (tables_in h d n l)) (why 12 0 0)
after_walk h d n l (Err r) = why_of r

unfoldable pub examined : ℕ → ℕ → ℕ → List ℕ → Why
examined h d n l = after_walk h d n l (walk h d n l)
