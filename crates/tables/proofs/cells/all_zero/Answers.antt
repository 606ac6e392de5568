use Prim.Native.Nat.{ℕ, zero, suc, ◌+◌, ◌≤◌, ◌<◌}
use mathlib.Core.Path.{◌≡◌, ap, sym, ◌∙◌}
use mathlib.Core.Bool.{Bool, false, ◌&&◌, and-true}
use mathlib.Core.List.{List}
use native.Mathlib.Numerals.{add-one}
use native.Mathlib.Omega.{arith}
use lib.Bits.{bit_or, or_zero_l, or_add_and, and_le_r}
use lib.Dec.{eqb, eqb-suc-zero}
use lib.ListN.{length, get_or, drop, drop_of_length-le}
use lib.Seq.{drop-cons}
use Rattle.tables.specs.Cell.{all_zero}
use Rattle.tables.proofs.cells.all_zero.Goals as goal

positive : (m : ℕ) → 0 < m → eqb m 0 ≡ false
positive zero h = absurd (omega arith)
positive (suc m) h = eqb-suc-zero m

-- words joined by `or` are zero where both are
both_zero : (s x : ℕ) (b : Bool) → (eqb s 0 && (eqb x 0 && b)) ≡ (eqb (bit_or s x) 0 && b)
both_zero zero x b = rw or_zero_l
both_zero (suc s) x b =
    let h : 0 < bit_or (suc s) x = omega (arith, or_add_and (suc s) x, and_le_r (suc s) x) in
    rw (positive (bit_or (suc s) x) h) (simp eqb-suc-zero)

next : (ws : List ℕ) (s i : ℕ) → i < length ws → all_zero ws ≡ (eqb s 0 && all_zero (drop i ws))
    → all_zero ws ≡ (eqb (bit_or s (get_or ws i 0)) 0 && all_zero (drop (i + 1) ws))
unfolding all_zero
next ws s i h e =
    e ∙ ap (λ (l : List ℕ). eqb s 0 && all_zero l) (drop-cons ws i 0 h) ∙ both_zero s (get_or ws i 0) (all_zero (drop (suc i) ws)) ∙ rw (add-one i)

done : (ws : List ℕ) (s i : ℕ) → length ws ≤ i → all_zero ws ≡ (eqb s 0 && all_zero (drop i ws)) → eqb s 0 ≡ all_zero ws
unfolding all_zero
done ws s i h e = sym (e ∙ ap (λ (l : List ℕ). eqb s 0 && all_zero l) (drop_of_length-le ws h) ∙ and-true (eqb s 0))

pub loop-word-preserved : goal.loop-word-preserved
loop-word-preserved c = next _ c.loop-word.seen _ c.loop-word-test.true c.loop-word.invariant

pub returns : goal.returns
returns c = done _ c.loop-word.seen _ c.loop-word-test.false c.loop-word.invariant
