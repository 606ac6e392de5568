-- Refusals 1, 2 and 18: the sizes of the tables, then the first pair at which their words break a rule of "What a station holds", then, where
-- none does, the first whose times make no sense (document 02, [3]). The tests of one pair are `pair_sound` and `timely_in` of the crate `pairs`.
use Rattle.std.specs.Prelude.{ℕ, zero, suc, Bool, cond, eqb, Result, Ok, Err, ⊤}
use Rattle.pairs.specs.Pair.{pair_sound, timely_in}
use Rattle.refusal.specs.Refusal.{why, why_of}
use Rattle.refusal.specs.declared.Why.{Why}
use Rattle.tables.specs.Tables.{Tables, sized, node_of, channel_of}
use Rattle.refusal.specs.declared.Refusal.{Refusal}

-- what a check says: 0, or 1, or 2 or 18 with the pair
abbrev pub said_check : Result ⊤ Refusal → Why
said_check (Ok _) = why 0 0 0
said_check (Err r) = why_of r

-- ---- the pairs

unfoldable pub pair_at : ℕ → Tables → ℕ → ℕ → Bool
pair_at n t u v = pair_sound n u v (node_of n u t.nodes) (channel_of n u v t.channels)

unfoldable pub timely_at : ℕ → Tables → ℕ → ℕ → Bool
timely_at n t u v = timely_in v (node_of n u t.nodes) (channel_of n u v t.channels)

-- ---- the first pair that fails a test, u ascending, then v ascending, said with a number

-- in row u, from v on, k pairs
unfoldable pub fault_in_row : ℕ → (ℕ → ℕ → Bool) → ℕ → ℕ → ℕ → Why
fault_in_row number holds u v zero = why 0 0 0
fault_in_row number holds u v (suc k) = let rest = fault_in_row number holds u (suc v) k in cond (holds u v) rest (why number u v)

abbrev pub or_else : Why → Why → Why
or_else s rest = cond (eqb s.number 0) rest s

-- from row u on, k rows of n pairs
unfoldable pub fault_from : ℕ → (ℕ → ℕ → Bool) → ℕ → ℕ → ℕ → Why
fault_from number holds n u zero = why 0 0 0
fault_from number holds n u (suc k) = let rest = fault_from number holds n (suc u) k in or_else (fault_in_row number holds u 1 n) rest

unfoldable pub first_fault : ℕ → Tables → Why
first_fault n t = fault_from 2 (pair_at n t) n 1 n

unfoldable pub first_untimely : ℕ → Tables → Why
first_untimely n t = fault_from 18 (timely_at n t) n 1 n

-- ---- the check

-- 2, else 18, else 0
unfoldable pub contents_on : ℕ → Tables → Why
contents_on n t = or_else (first_fault n t) (first_untimely n t)

-- 1, else these
unfoldable pub check_on : ℕ → Tables → Why
check_on n t = cond (sized n t) (contents_on n t) (why 1 0 0)
