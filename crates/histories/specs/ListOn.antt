-- What a list of all histories of a length answers and leaves: document 02, [6]. 1, then 19, then 14; a refused call leaves the bytes as they were.
use Rattle.std.specs.Prelude.{ℕ, Bool, cond, ◌&&◌, List, eqb, leb, length}
use Rattle.histories.specs.declared.Extent.{Extent}
use Rattle.enumeration.specs.Histories.{histories}
use Rattle.enumeration.specs.Texts.{list_text}
use Rattle.protocol.specs.Network.{fresh}
use Rattle.refusal.specs.Outcome.{Answered, Outcome, outcome, put_checked}
use Rattle.refusal.specs.Refusal.{why}
use Rattle.refusal.specs.declared.Why.{Why}

abbrev pub extent : ℕ → ℕ → Extent
extent b c = record { bytes = b; histories = c }

abbrev pub is_plot : ℕ → Bool
is_plot n = leb 1 n && leb n 16

abbrev pub is_short : ℕ → ℕ → Bool
is_short n k = leb n 3 && leb k 5

-- 1: n outside 1 to 16; 19: n above 3 or a length above 5
unfoldable pub check_limits : ℕ → ℕ → Why
check_limits n k = cond (is_plot n) (cond (is_short n k) (why 0 0 0) (why 19 0 0)) (why 1 0 0)

-- where bytes were put, with how many histories they are
abbrev pub counted : ℕ → Outcome (Answered ℕ) (List ℕ) → Outcome (Answered Extent) (List ℕ)
counted c o = outcome (record { why = o.said.why; value = extent o.said.value (cond (eqb o.said.why.number 0) c 0) }) o.after

-- by the limits, else 14 or the text at the front; the bytes behind it stay
unfoldable pub list_on : ℕ → ℕ → List ℕ → Outcome (Answered Extent) (List ℕ)
list_on n k out = counted (length (histories n k fresh)) (put_checked (check_limits n k) (list_text n (histories n k fresh)) out)

-- the bytes that a list takes; 0 where the limits refuse it
unfoldable pub list_length : ℕ → ℕ → ℕ
list_length n k = cond (eqb (check_limits n k).number 0) (length (list_text n (histories n k fresh))) 0
