-- What is left where bytes are poured out.
use Rattle.std.specs.Prelude.{ℕ, suc, List, [], ◌∷◌, set}

-- bs poured into the bytes from an offset on; what stands behind their end is lost
unfoldable pub poured : List ℕ → ℕ → List ℕ → List ℕ
poured out at [] = out
poured out at (b ∷ bs) = poured (set out at b) (suc at) bs
