-- What is left where bits or fields are put: for the contracts of this crate's functions and of those that write records with them.
use Rattle.std.specs.Prelude.{ℕ, zero, suc, ◌+◌, ◌*◌, ◌^◌, ◌≤◌, ◌<◌, List, [], ◌++◌, length, take, drop, get_or}
use Rattle.bits.specs.Bits.{bits, unpacked, packed, total}

-- the list with bs written over it from a place on
unfoldable pub over : List ℕ → ℕ → List ℕ → List ℕ
over l at bs = take at l ++ (bs ++ drop (at + length bs) l)

-- bytes with bits written over theirs from a bit place on
unfoldable pub written : List ℕ → ℕ → List ℕ → List ℕ
written xs at bs = packed (length xs) (over (unpacked xs) at bs)

-- the bits of the first j of these numbers of 64 bits
unfoldable pub word_bits : ℕ → List ℕ → List ℕ
word_bits zero xs = []
word_bits (suc j) xs = word_bits j xs ++ bits 64 (get_or xs j 0)

-- fields of these widths, none above 32, stand inside the bytes from a place on
pub record RoomFor (xs : List ℕ) (at : ℕ) (ws : List ℕ) : Type 0 where
  pub narrow : (i : ℕ) → get_or ws i 0 ≤ 32
  pub small : at + total ws < 2 ^ 32
  pub inside : at + total ws ≤ 8 * length xs
