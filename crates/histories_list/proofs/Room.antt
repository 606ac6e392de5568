-- How many histories there are, for every n and length that is not refused, by computing; and that no list is longer than 654,636 bytes, the room of the program.
use Prim.Native.Nat.{ℕ, zero, suc, ◌+◌, ◌*◌, ◌≤◌}
use native.Mathlib.Nat.{eq-or-lt_of_le}
use native.Mathlib.Omega.{arith}
use mathlib.Core.Logic.{⊎_elim}
use mathlib.Core.Path.{◌≡◌, refl, sym, ap, subst, ◌∙◌}
use lib.ListN.{length}
use Rattle.basics.specs.Functions.{every, all, update}
use Rattle.height.specs.Height.{level_key, pair_key, height_key}
use Rattle.height.specs.Order.{before, same}
use Rattle.nodeset.specs.NodeSet.{set_of}
use Rattle.protocol.specs.Network.{fresh}
use Rattle.protocol.specs.Refusal.{misnamed, late, has_room, crowded, returned, accepts, answer, next}
use Rattle.protocol.specs.Rules.{absent, down_rule, larger, largest, deltas, of_level, one_level_rule, equal_pairs_rule, receipt_rule}
use Rattle.protocol.specs.Sink.{above, sink}
use Rattle.protocol.specs.Step.{carried, local_up, local_down, local_ignored, local_taken, post, commit, step}
use Rattle.text.specs.Text.{in_turn}
use Rattle.enumeration.specs.Histories.{pairs_of, candidates, begun, histories}
use Rattle.enumeration.specs.Texts.{list_text}
use Rattle.enumeration.proofs.Sizes.{whole-size}
use Rattle.enumeration.proofs.Worked.{count, counts}

five : (n : ℕ) → 1 ≤ n → n ≤ 3 → length (histories n 5 fresh) ≡ count n 5
unfolding before same level_key pair_key height_key set_of every all update above
    sink absent down_rule larger largest deltas of_level one_level_rule equal_pairs_rule receipt_rule carried local_up local_down local_ignored
    local_taken post commit step misnamed late has_room crowded returned accepts answer next in_turn pairs_of candidates begun histories
five zero low few = absurd (omega arith)
five (suc zero) low few = refl
five (suc (suc zero)) low few = refl
five (suc (suc (suc zero))) low few = refl
five (suc (suc (suc (suc n)))) low few = absurd (omega arith)

-- the whole table
pub all-counts : (n k : ℕ) → 1 ≤ n → n ≤ 3 → k ≤ 5 → length (histories n k fresh) ≡ count n k
all-counts n k low few short =
    ⊎_elim (λ e. subst (λ (j : ℕ). length (histories n j fresh) ≡ count n j) (sym e) (five n low few)) (λ h. counts n k low few (omega (arith, h)))
    (eq-or-lt_of_le short)

small : (n k : ℕ) → 1 ≤ n → n ≤ 3 → k ≤ 5 → count n k * (4 + 6 * k) ≤ 654636
small zero k low few short = absurd (omega arith)
small (suc zero) zero low few short = omega arith
small (suc zero) (suc zero) low few short = omega arith
small (suc zero) (suc (suc zero)) low few short = omega arith
small (suc zero) (suc (suc (suc zero))) low few short = omega arith
small (suc zero) (suc (suc (suc (suc zero)))) low few short = omega arith
small (suc zero) (suc (suc (suc (suc (suc zero))))) low few short = omega arith
small (suc zero) (suc (suc (suc (suc (suc (suc k)))))) low few short = absurd (omega arith)
small (suc (suc zero)) zero low few short = omega arith
small (suc (suc zero)) (suc zero) low few short = omega arith
small (suc (suc zero)) (suc (suc zero)) low few short = omega arith
small (suc (suc zero)) (suc (suc (suc zero))) low few short = omega arith
small (suc (suc zero)) (suc (suc (suc (suc zero)))) low few short = omega arith
small (suc (suc zero)) (suc (suc (suc (suc (suc zero))))) low few short = omega arith
small (suc (suc zero)) (suc (suc (suc (suc (suc (suc k)))))) low few short = absurd (omega arith)
small (suc (suc (suc zero))) zero low few short = omega arith
small (suc (suc (suc zero))) (suc zero) low few short = omega arith
small (suc (suc (suc zero))) (suc (suc zero)) low few short = omega arith
small (suc (suc (suc zero))) (suc (suc (suc zero))) low few short = omega arith
small (suc (suc (suc zero))) (suc (suc (suc (suc zero)))) low few short = omega arith
small (suc (suc (suc zero))) (suc (suc (suc (suc (suc zero))))) low few short = omega arith
small (suc (suc (suc zero))) (suc (suc (suc (suc (suc (suc k)))))) low few short = absurd (omega arith)
small (suc (suc (suc (suc n)))) k low few short = absurd (omega arith)

-- the bytes of a list
pub bytes : (n k : ℕ) → 1 ≤ n → n ≤ 3 → k ≤ 5 → length (list_text n (histories n k fresh)) ≡ count n k * (4 + 6 * k)
bytes n k low few short = whole-size n k few ∙ ap (λ (c : ℕ). c * (4 + 6 * k)) (all-counts n k low few short)

pub room-enough : (n k : ℕ) → 1 ≤ n → n ≤ 3 → k ≤ 5 → length (list_text n (histories n k fresh)) ≤ 654636
room-enough n k low few short = omega (arith, bytes n k low few short, small n k low few short)
