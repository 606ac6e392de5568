-- How many histories there are, and small lists as texts, by computing.
use Prim.Native.Nat.{ℕ, zero, suc, ◌-◌, ◌≤◌}
use native.Mathlib.Omega.{arith}
use mathlib.Core.List.{List, [], ◌∷◌}
use mathlib.Core.Path.{◌≡◌, refl}
use lib.IntN.{pos}
use lib.ListN.{length, get_or, take}
use Rattle.basics.specs.Functions.{every, all, update}
use Rattle.height.specs.Height.{level_key, pair_key, height_key}
use Rattle.height.specs.Order.{before, same}
use Rattle.nodeset.specs.NodeSet.{set_of}
use Rattle.protocol.specs.Network.{fresh}
use Rattle.protocol.specs.Refusal.{misnamed, late, has_room, crowded, returned, accepts, answer, next}
use Rattle.protocol.specs.Rules.{absent, down_rule, larger, largest, deltas, of_level, one_level_rule, equal_pairs_rule, receipt_rule}
use Rattle.protocol.specs.Sink.{above, sink}
use Rattle.protocol.specs.Step.{up, down, receive, carried, local_up, local_down, local_ignored, local_taken, post, commit, step}
use Rattle.text.specs.Text.{digits, in_turn}
use Rattle.enumeration.specs.Histories.{pairs_of, candidates, begun, histories}
use Rattle.enumeration.specs.Order.{history_key}
use Rattle.enumeration.specs.Texts.{event_text, head_text, lines_text, input_text, list_text}

-- how many histories: a row for each n from 1 to 3, lengths 0 to 5; document 02 gives four of them
abbrev pub table : List (List ℕ)
table = (1 ∷ 0 ∷ 0 ∷ 0 ∷ 0 ∷ 0 ∷ []) ∷ (1 ∷ 2 ∷ 6 ∷ 16 ∷ 46 ∷ 128 ∷ []) ∷ (1 ∷ 6 ∷ 42 ∷ 312 ∷ 2418 ∷ 19254 ∷ []) ∷ []

-- the entry for n nodes and k events
abbrev pub count : ℕ → ℕ → ℕ
count n k = get_or (get_or table (n - 1) []) k 0

-- up to length 4; the last column takes longer: `histories_list`, proofs/Room.antt
pub counts : (n k : ℕ) → 1 ≤ n → n ≤ 3 → k ≤ 4 → length (histories n k fresh) ≡ count n k
unfolding before same level_key pair_key height_key set_of every all update above
    sink absent down_rule larger largest deltas of_level one_level_rule equal_pairs_rule receipt_rule carried local_up local_down local_ignored
    local_taken post commit step misnamed late has_room crowded returned accepts answer next in_turn pairs_of candidates begun histories
counts zero k low few short = absurd (omega arith)
counts (suc zero) zero low few short = refl
counts (suc zero) (suc zero) low few short = refl
counts (suc zero) (suc (suc zero)) low few short = refl
counts (suc zero) (suc (suc (suc zero))) low few short = refl
counts (suc zero) (suc (suc (suc (suc zero)))) low few short = refl
counts (suc zero) (suc (suc (suc (suc (suc k))))) low few short = absurd (omega arith)
counts (suc (suc zero)) zero low few short = refl
counts (suc (suc zero)) (suc zero) low few short = refl
counts (suc (suc zero)) (suc (suc zero)) low few short = refl
counts (suc (suc zero)) (suc (suc (suc zero))) low few short = refl
counts (suc (suc zero)) (suc (suc (suc (suc zero)))) low few short = refl
counts (suc (suc zero)) (suc (suc (suc (suc (suc k))))) low few short = absurd (omega arith)
counts (suc (suc (suc zero))) zero low few short = refl
counts (suc (suc (suc zero))) (suc zero) low few short = refl
counts (suc (suc (suc zero))) (suc (suc zero)) low few short = refl
counts (suc (suc (suc zero))) (suc (suc (suc zero))) low few short = refl
counts (suc (suc (suc zero))) (suc (suc (suc (suc zero)))) low few short = refl
counts (suc (suc (suc zero))) (suc (suc (suc (suc (suc k))))) low few short = absurd (omega arith)
counts (suc (suc (suc (suc n)))) k low few short = absurd (omega arith)

pub record Worked : Type 0 where
  -- kind, first and second number of each event, and nothing else
  pub key : history_key (up 1 2 ∷ receive 2 1 ∷ []) ≡ pos 0 ∷ pos 1 ∷ pos 2 ∷ pos 2 ∷ pos 2 ∷ pos 1 ∷ []
  -- an up before the other down, a receipt behind both: U before D before M
  pub list-2-2 : histories 2 2 fresh
      ≡ (up 1 2 ∷ up 2 1 ∷ []) ∷ (up 1 2 ∷ down 1 2 ∷ []) ∷ (up 1 2 ∷ receive 1 2 ∷ [])
      ∷ (up 2 1 ∷ up 1 2 ∷ []) ∷ (up 2 1 ∷ down 2 1 ∷ []) ∷ (up 2 1 ∷ receive 2 1 ∷ []) ∷ []
  -- of two receipts the one with the lower sender first; behind a link that is up both ways
  pub front-2-3 : take 4 (histories 2 3 fresh)
      ≡ (up 1 2 ∷ up 2 1 ∷ down 1 2 ∷ []) ∷ (up 1 2 ∷ up 2 1 ∷ down 2 1 ∷ [])
      ∷ (up 1 2 ∷ up 2 1 ∷ receive 1 2 ∷ []) ∷ (up 1 2 ∷ up 2 1 ∷ receive 2 1 ∷ []) ∷ []
  -- "N 2", "U 1 2", "N 2", "U 2 1"
  pub text-2-1 : list_text 2 (histories 2 1 fresh)
      ≡ 78 ∷ 32 ∷ 50 ∷ 10 ∷ 85 ∷ 32 ∷ 49 ∷ 32 ∷ 50 ∷ 10 ∷ 78 ∷ 32 ∷ 50 ∷ 10 ∷ 85 ∷ 32 ∷ 50 ∷ 32 ∷ 49 ∷ 10 ∷ []
  -- length 0: "N 1", and no history of one event
  pub text-1-0 : list_text 1 (histories 1 0 fresh) ≡ 78 ∷ 32 ∷ 49 ∷ 10 ∷ []
  pub text-1-1 : list_text 1 (histories 1 1 fresh) ≡ []

pub worked : Worked
unfolding before same level_key pair_key height_key set_of every all update above
    sink absent down_rule larger largest deltas of_level one_level_rule equal_pairs_rule receipt_rule carried local_up local_down local_ignored
    local_taken post commit step misnamed late has_room crowded returned accepts answer next digits in_turn pairs_of candidates begun histories
    event_text head_text lines_text input_text list_text history_key
worked = record {
  key = refl;
  list-2-2 = refl;
  front-2-3 = refl;
  text-2-1 = refl;
  text-1-0 = refl;
  text-1-1 = refl;
}
