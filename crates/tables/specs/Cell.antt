-- A channel's cell: the count, then eight slots of a height and its timestamp, oldest first; unused slots are zero.
use Rattle.std.specs.Prelude.{ℕ, zero, suc, ◌+◌, ◌*◌, Bool, true, ◌&&◌, List, [], ◌∷◌, ◌++◌, eqb, get_or}
use Rattle.height.specs.Words.{height_at, height_words, height_size}
use Rattle.protocol.specs.Network.{Message}
use Rattle.tables.specs.Tables.{message_size}

abbrev pub count : List ℕ → ℕ
count cell = get_or cell 0 0

-- where message k, counted from 0, starts
abbrev pub slot : ℕ → ℕ
slot k = 1 + k * message_size

-- the message whose words stand from index i
unfoldable pub message_at : List ℕ → ℕ → Message
message_at ws i = record { height = height_at ws i; timestamp = get_or ws (i + height_size) 0 }

-- k messages from index i on
unfoldable pub messages_at : ℕ → List ℕ → ℕ → List Message
messages_at zero ws i = []
messages_at (suc k) ws i = message_at ws i ∷ messages_at k ws (i + message_size)

-- the messages of a cell
unfoldable pub queue : List ℕ → List Message
queue cell = messages_at (count cell) cell (slot 0)

-- every word is zero
unfoldable pub all_zero : List ℕ → Bool
all_zero [] = true
all_zero (x ∷ xs) = eqb x 0 && all_zero xs

-- a message as words
unfoldable pub message_words : Message → List ℕ
message_words m = height_words m.height ++ (m.timestamp ∷ [])
