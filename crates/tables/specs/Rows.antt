-- A table as rows of one width, laid end to end; row 0 first.
use Rattle.std.specs.Prelude.{ℕ, zero, suc, ◌*◌, List, [], ◌++◌, take, drop}

-- k words from index a on
abbrev pub part : ℕ → ℕ → List ℕ → List ℕ
part a k xs = take k (drop a xs)

-- row i of width w
unfoldable pub row_at : ℕ → ℕ → List ℕ → List ℕ
row_at w i xs = part (i * w) w xs

-- f 1, .. , f k end to end
unfoldable pub rows : ℕ → (ℕ → List ℕ) → List ℕ
rows zero f = []
rows (suc k) f = f 1 ++ rows k (λ i. f (suc i))
