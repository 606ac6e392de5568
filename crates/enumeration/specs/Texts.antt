-- A history as one bench input, and a list of histories as one text: document 02, [6]. Every line has its newline, nothing stands between.
use Rattle.std.specs.Prelude.{ℕ, List, [], ◌∷◌, ◌++◌, map}
use Rattle.protocol.specs.Step.{Event}
use Rattle.text.specs.Text.{decimal}
use Rattle.enumeration.specs.Order.{line_of}

-- "U u v"
unfoldable pub event_text : Event → List ℕ
event_text e = (line_of e).letter ∷ 32 ∷ (decimal (line_of e).first ++ (32 ∷ decimal (line_of e).second))

-- "N n"
unfoldable pub head_text : ℕ → List ℕ
head_text n = 78 ∷ 32 ∷ decimal n

-- lines, each with its newline
unfoldable pub lines_text : List (List ℕ) → List ℕ
lines_text [] = []
lines_text (l ∷ ls) = l ++ (10 ∷ lines_text ls)

unfoldable pub input_text : ℕ → List Event → List ℕ
input_text n es = lines_text (head_text n ∷ map event_text es)

unfoldable pub list_text : ℕ → List (List Event) → List ℕ
list_text n [] = []
list_text n (h ∷ hs) = input_text n h ++ list_text n hs
