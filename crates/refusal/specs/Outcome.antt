-- What a call says and what it leaves, for every call alike.
-- A refused call leaves what was lent as it was: each call's own definition says so.
use Rattle.std.specs.Prelude.{ℕ, cond, List, ◌++◌, eqb, leb, length, drop, Result, Ok, Err}
use Rattle.refusal.specs.Refusal.{why, why_of}
use Rattle.refusal.specs.declared.Refusal.{Refusal}
use Rattle.refusal.specs.declared.Why.{Why}

-- what is said, and what is lent afterwards
pub record Outcome (S L : Type 0) : Type 0 where
  pub said : S
  pub after : L

abbrev pub outcome : {S L : Type 0} → S → L → Outcome S L
outcome s l = record { said = s; after = l }

-- why a call is refused (0 0 0: it is not), and its value; a refused call has the value that stands for none
pub record Answered (A : Type 0) : Type 0 where
  pub why : Why
  pub value : A

abbrev pub accepted : {A : Type 0} → A → Answered A
accepted v = record { why = why 0 0 0; value = v }

abbrev pub refused_with : {A : Type 0} → A → Why → Answered A
refused_with none w = record { why = w; value = none }

-- what a result says: its value, or its reason, with the value that stands for none
abbrev pub said_as : {A : Type 0} → A → Result A Refusal → Answered A
said_as none (Ok v) = accepted v
said_as none (Err r) = refused_with none (why_of r)

-- by what a check says: its refusal, else the answer
abbrev pub after_check : {A : Type 0} → A → Why → Answered A → Answered A
after_check none c x = cond (eqb c.number 0) x (refused_with none c)

-- bytes to the front of lent bytes, and how many; those behind them stay. Where they do not fit: 14
unfoldable pub put_front : List ℕ → List ℕ → Outcome (Answered ℕ) (List ℕ)
put_front b out =
    cond (leb (length b) (length out)) (outcome (accepted (length b)) (b ++ drop (length b) out)) (outcome (refused_with 0 (why 14 0 0)) out)

-- by what a check says: its refusal, and nothing is written; else bytes to the front
unfoldable pub put_checked : Why → List ℕ → List ℕ → Outcome (Answered ℕ) (List ℕ)
put_checked c b out = cond (eqb c.number 0) (put_front b out) (outcome (refused_with 0 c) out)
