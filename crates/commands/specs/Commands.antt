-- Lines, numbers and commands of a bench input: document 01, "The bench program".
-- One space between parts; a number is 0 to 99 written as short as it goes; a newline behind the last line may be missing.
use Rattle.std.specs.Prelude.{ℕ, suc, ◌+◌, ◌-◌, ◌*◌, Bool, not, cond, ◌&&◌, List, [], ◌∷◌, eqb, leb, ltb, get_or, take, drop}
use Rattle.refusal.specs.Outcome.{Answered, accepted, refused_with}
use Rattle.refusal.specs.Refusal.{why}
use Rattle.refusal.specs.declared.Why.{Why}

-- ---- lines: a newline (10) ends one, and nothing stands after the last

abbrev pub on_first : ℕ → List (List ℕ) → List (List ℕ)
on_first b [] = (b ∷ []) ∷ []
on_first b (l ∷ ls) = (b ∷ l) ∷ ls

unfoldable pub lines_of : List ℕ → List (List ℕ)
lines_of [] = []
lines_of (b ∷ bs) = cond (eqb b 10) ([] ∷ lines_of bs) (on_first b (lines_of bs))

-- ---- numbers, 0 to 99; 100 stands for none

abbrev pub none : ℕ
none = 100

abbrev pub is_digit : ℕ → Bool
is_digit b = leb 48 b && leb b 57

unfoldable pub number_of : List ℕ → ℕ
number_of [] = none
number_of (a ∷ []) = cond (is_digit a) (a - 48) none
number_of (a ∷ b ∷ []) = cond (is_digit a && is_digit b && not (eqb a 48)) (10 * (a - 48) + (b - 48)) none
number_of (a ∷ b ∷ c ∷ l) = none

-- ---- commands

-- an event line: U, D or M in ASCII, and its two numbers as they stand in the line; all 0 when malformed
pub record Line : Type 0 where
  pub letter : ℕ
  pub first : ℕ
  pub second : ℕ

-- what a line says: 0 and the event that it names, or 15
abbrev pub SaidCommand : Type 0
SaidCommand = Answered Line

abbrev pub said_event : ℕ → ℕ → ℕ → SaidCommand
said_event letter u v = accepted (record { letter = letter; first = u; second = v })

abbrev pub malformed_with : Why → SaidCommand
malformed_with w = refused_with (record { letter = 0; first = 0; second = 0 }) w

abbrev pub said_malformed : SaidCommand
said_malformed = malformed_with (why 15 0 0)

-- how many bytes stand before the first space (32)
unfoldable pub to_space : List ℕ → ℕ
to_space [] = 0
to_space (b ∷ bs) = cond (eqb b 32) 0 (suc (to_space bs))

-- U, D or M with two numbers
unfoldable pub named : ℕ → ℕ → ℕ → SaidCommand
named kind u v =
    cond (ltb u none && ltb v none)
    (cond (eqb kind 85) (said_event 85 u v) (cond (eqb kind 68) (said_event 68 u v) (cond (eqb kind 77) (said_event 77 u v) said_malformed))) said_malformed

-- an event line: U, D or M and two numbers; M names the sender first
unfoldable pub command_of : List ℕ → SaidCommand
command_of l =
    cond (eqb (get_or l 1 0) 32)
    (named (get_or l 0 0) (number_of (take (to_space (drop 2 l)) (drop 2 l))) (number_of (drop (suc (to_space (drop 2 l))) (drop 2 l)))) said_malformed

-- the first line "N n", n from 1 to 16; 0 for any other
abbrev pub in_range : ℕ → ℕ
in_range n = cond (leb 1 n && leb n 16) n 0

unfoldable pub head_of : List ℕ → ℕ
head_of l = cond (eqb (get_or l 0 0) 78 && eqb (get_or l 1 0) 32) (in_range (number_of (drop 2 l))) 0
