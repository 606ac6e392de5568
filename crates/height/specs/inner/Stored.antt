-- A height stored as words, and the range that storing asks of its election time.
use Rattle.std.specs.Prelude.{ℕ, ◌≤◌, List, ℤ, pos, negsuc}
use Rattle.std.specs.Coded.{le_prop}
use Rattle.std.proofs.lemmas.List.Edits.{sets}
use Rattle.height.specs.Words.{height_words}
use Rattle.height.specs.declared.Height.{Height}

-- the words with h's from index i
unfoldable pub stored_at : List ℕ → ℕ → Height → List ℕ
unfolding height_words
stored_at ws i h = sets ws i (height_words h)

-- the range of a negated election time: 0 down to −4,294,967,295
unfoldable pub Negated : ℤ → Type 0
Negated (pos n) = n ≤ 0
Negated (negsuc n) = n ≤ 4294967294

-- it holds in one way, so that a struct can hold it
pub Negated-prop : (z : ℤ) → IsProp (Negated z)
unfolding Negated
Negated-prop (pos n) = le_prop
Negated-prop (negsuc n) = le_prop
