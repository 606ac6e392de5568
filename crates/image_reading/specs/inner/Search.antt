-- The search of one row's pairs, each cell read where its channel stands: what its function answers.
-- The tests are those of the lent tables (`pair_sound` and `timely_in` of the crate `pairs`).
use Rattle.std.specs.Prelude.{ℕ, Bool, List, ◌≡◌, Result, Ok, Err, ⊤}
use Rattle.lent.specs.Check.{said_check, fault_in_row}
use Rattle.pairs.specs.Pair.{pair_sound, timely_in}
use Rattle.refusal.specs.Refusal.{why, why_of}
use Rattle.refusal.specs.declared.Refusal.{Refusal}
use Rattle.image_reading.specs.inner.Cells.{cell_behind}

-- the pair u, v, with u's row; the channels from u start at q
unfoldable pub row_holds : ℕ → ℕ → List ℕ → List ℕ → ℕ → ℕ → ℕ → Bool
row_holds d n l row q u v = pair_sound n u v row (cell_behind d l u q v)

unfoldable pub row_timely : ℕ → List ℕ → List ℕ → ℕ → ℕ → ℕ → Bool
row_timely d l row q u v = timely_in v row (cell_behind d l u q v)

-- what a search of row u answers, by the two tests s and t of its pairs, whose channels end at q: the first fault, or else the place q and the
-- first untimely pair
abbrev pub Searched : (ℕ → ℕ → Bool) → (ℕ → ℕ → Bool) → ℕ → ℕ → ℕ → Result (ℕ × Result ⊤ Refusal) Refusal → Type 0
Searched s t n u q (Err r) = fault_in_row 2 s u 1 n ≡ why_of r
Searched s t n u q (Ok p) = (fault_in_row 2 s u 1 n ≡ why 0 0 0) × (said_check p.1 ≡ fault_in_row 18 t u 1 n) × (p.0 ≡ q)
