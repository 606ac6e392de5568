-- A row's and a cell's words as an image's bits, and back: what the functions of this crate put and get.
-- Rows and cells of a network's tables have the bits of its records (proofs/PartLaws.antt).
use Rattle.std.specs.Prelude.{ℕ, ◌+◌, ◌-◌, ◌*◌, ◌^◌, ◌≤◌, ◌<◌, List, ◌∷◌, ◌++◌, ◌≡◌, length, drop}
use Rattle.bits.specs.Bits.{bits}
use Rattle.height.specs.Words.{height_size}
use Rattle.tables.specs.Cell.{count}
use Rattle.tables.specs.Records.{cell_words}
use Rattle.tables.specs.Row.{clock_in, neighbors_in, forming_in}
use Rattle.tables.specs.Rows.{rows, row_at}
use Rattle.tables.specs.Tables.{row_head, message_size}
use Rattle.image.specs.Places.{field_in, channel_from, heights_from, walked, channels_next, channels_place}
use Rattle.image.specs.Widths.{field_place, record_bits, record_of}

-- ---- the bits of words

-- c records of k words, end to end
unfoldable pub records_bits : ℕ → ℕ → ℕ → List ℕ → List ℕ
records_bits d k c ws = rows c (λ v. record_bits d (row_at k (v - 1) ws))

unfoldable pub row_bits : ℕ → ℕ → List ℕ → List ℕ
row_bits d n row =
    bits 32 (clock_in row)
    ++ (bits 16 (neighbors_in row) ++ (bits 16 (forming_in row) ++ records_bits d height_size n (drop row_head row)))

unfoldable pub cell_bits : ℕ → List ℕ → List ℕ
cell_bits d cell = bits 4 (count cell) ++ records_bits d message_size (count cell) (drop 1 cell)

-- ---- the words of bits l

-- c records of k words, w bits apart from a place on
unfoldable pub records_from : ℕ → ℕ → ℕ → ℕ → List ℕ → ℕ → List ℕ
records_from d k w c l at = rows c (λ v. record_of d k (drop (at + (v - 1) * w) l))

unfoldable pub row_from : ℕ → ℕ → List ℕ → ℕ → List ℕ
row_from d n l at = field_in l at 32 ∷ field_in l (at + 32) 16 ∷ field_in l (at + 48) 16 ∷ heights_from d n l at

unfoldable pub cell_from : ℕ → List ℕ → ℕ → List ℕ
cell_from d l at = cell_words (channel_from d l at)

-- behind the last channel
unfoldable pub image_end : ℕ → ℕ → ℕ → List ℕ → ℕ
image_end h d n l = walked (channels_next d n l) n (channels_place h d n)

-- ---- what the functions require: the part of w bits stands inside the bytes

pub record Inside (xs : List ℕ) (at w : ℕ) : Type 0 where
  pub small : at + w < 2 ^ 31
  pub inside : at + w ≤ 8 * length xs

-- a depth's width
pub record Depth (d : ℕ) : Type 0 where
  pub low : 1 ≤ d
  pub high : d ≤ 32

-- c records of k words, heights or messages, in ws, of w bits each from the place `at` of the bytes xs
pub record RecordRun (d k w c : ℕ) (xs ws : List ℕ) (at : ℕ) : Type 0 where
  pub depth : Depth d
  pub least : height_size ≤ k
  pub most : k ≤ message_size
  pub bits : field_place d k ≡ w
  pub few : c ≤ 16
  pub words : c * k ≤ length ws
  pub inside : Inside xs at (c * w)
