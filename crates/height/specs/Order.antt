-- The one order behind heights, levels and leader pairs: lexicographic, on lists of signed numbers of equal length.
-- Document 01, "What a station holds": "ordered lexicographically in this order, as signed numbers".
use Rattle.std.specs.Prelude.{Bool, false, not, ◌&&◌, ◌||◌, List, [], ◌∷◌, ℤ}
use Rattle.std.specs.Int.Signed.{lt_z}

-- xs is smaller than ys: at the first place where they differ it has the smaller number
unfoldable pub before : List ℤ → List ℤ → Bool
before [] ys = false
before (x ∷ xs) [] = false
before (x ∷ xs) (y ∷ ys) = lt_z x y || (not (lt_z y x) && before xs ys)

-- neither is smaller
unfoldable pub same : List ℤ → List ℤ → Bool
same xs ys = not (before xs ys) && not (before ys xs)
