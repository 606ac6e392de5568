use Prim.Native.Nat.{ℕ, zero, suc, ◌+◌, ◌-◌, ◌≤◌, ◌<◌}
use mathlib.Core.Path.{◌≡◌, refl, ap, sym, ◌∙◌}
use mathlib.Core.List.{List, [], ◌∷◌, ◌++◌}
use native.Mathlib.Omega.{arith}
use lib.ListN.{length, get_or, set, take, drop, replicate, length-take, length-drop, drop_of_length-le}
use lib.Seq.{paste-zero, paste-suc, length-paste, take-paste, drop-paste, get_or-drop, take_all}
use Rattle.tables.specs.inner.Written.{taken}
use Rattle.tables.proofs.cells.take_first.Invariants.{moved}
use Rattle.tables.proofs.cells.take_first.Goals as goal

counted : (cell : List ℕ) (x : ℕ) → 1 ≤ length cell
    → set ((take 1 cell ++ drop 9 cell) ++ (replicate 8 0 ++ [])) 0 x ≡ x ∷ (drop 9 cell ++ replicate 8 0)
counted [] x h = absurd (omega arith)
counted (y ∷ ys) x h = refl

module _ (cell : List ℕ) (full : length cell ≡ 65) where
  rest : length (drop 9 cell) ≡ 56
  rest = simp length-drop (omega arith)

  moved_length : (k : ℕ) → k ≤ 56 → length (moved cell k) ≡ 65
  moved_length k h = length-paste cell 1 (drop 9 cell) k (omega arith) (omega (arith, rest)) ∙ full

  -- a word that has not moved yet is as it was
  kept : (k j : ℕ) → k ≤ 56 → 1 + k ≤ j → get_or (moved cell k) j 0 ≡ get_or cell j 0
  kept k j h l =
      let e : j ≡ (1 + k) + (j - (1 + k)) = omega arith in
      ap (λ (i : ℕ). get_or (moved cell k) i 0) e ∙ sym (get_or-drop (1 + k) (moved cell k) (j - (1 + k)) 0)
      ∙ ap (λ (ws : List ℕ). get_or ws (j - (1 + k)) 0) (drop-paste cell 1 (drop 9 cell) k (omega arith) (omega (arith, rest)))
      ∙ get_or-drop (1 + k) cell (j - (1 + k)) 0 ∙ ap (λ (i : ℕ). get_or cell i 0) (sym e)

  moves : (k : ℕ) → k < 56 → set (moved cell k) (suc k) (get_or (moved cell k) (suc k + 8) 0) ≡ moved cell (suc k)
  moves k h =
      let at : suc k ≡ 1 + k = omega arith in
      let from : suc k + 8 ≡ 9 + k = omega arith in
      let word : get_or (moved cell k) (suc k + 8) 0 ≡ get_or (drop 9 cell) k 0 =
      kept k (suc k + 8) (omega arith) (omega arith) ∙ ap (λ (j : ℕ). get_or cell j 0) from ∙ sym (get_or-drop 9 cell k 0) in
      ap (λ (x : ℕ). set (moved cell k) (suc k) x) word ∙ ap (λ (j : ℕ). set (moved cell k) j (get_or (drop 9 cell) k 0)) at
      ∙ paste-suc cell 1 (drop 9 cell) k 0 (omega arith) (omega (arith, rest))

  -- one turn
  turn : (i : ℕ) {now : List ℕ} → 1 ≤ i → i < 57 → now ≡ moved cell (i - 1) → set now i (get_or now (i + 8) 0) ≡ moved cell (i + 1 - 1)
  turn zero l h e = absurd (omega arith)
  turn (suc k) l h e =
      let p : suc k - 1 ≡ k = omega arith in
      let q : suc k ≡ suc k + 1 - 1 = omega arith in
      ap (λ (ws : List ℕ). set ws (suc k) (get_or ws (suc k + 8) 0)) (e ∙ ap (λ (j : ℕ). moved cell j) p)
      ∙ moves k (omega arith) ∙ ap (λ (j : ℕ). moved cell j) q

  head : take 57 (moved cell 56) ≡ take 1 cell ++ drop 9 cell
  head =
      take-paste cell 1 (drop 9 cell) 56 (omega arith) (omega (arith, rest))
      ∙ ap (λ (ws : List ℕ). take 1 cell ++ ws) (take_all 56 (drop 9 cell) (omega (arith, rest)))

  -- after the loop: the freed slot zeroed, the count one less
  freed : (now zeros : List ℕ) → now ≡ moved cell 56 → zeros ≡ replicate (length (take 8 (drop 57 now))) 0
      → set (take 57 now ++ (zeros ++ drop 8 (drop 57 now))) 0 (get_or cell 0 0 - 1) ≡ taken cell
  unfolding taken
  freed now zeros e z =
      let wide : length now ≡ 65 = ap length e ∙ moved_length 56 (omega arith) in
      let eight : length (take 8 (drop 57 now)) ≡ 8 = simp (length-take, length-drop) (omega arith) in
      let none : drop 8 (drop 57 now) ≡ [] = drop_of_length-le (drop 57 now) {i = 8} (simp length-drop (omega arith)) in
      let front : take 57 now ≡ take 1 cell ++ drop 9 cell = ap (take 57) e ∙ head in
      rw (front, z, eight, none) (counted cell (get_or cell 0 0 - 1) (omega arith))

pub loop-i-init : goal.loop-i-init
loop-i-init c = paste-zero _ 1 (drop 9 c.args.cell.now)

pub loop-i-preserved : goal.loop-i-preserved
loop-i-preserved c = turn c.args.cell.now c.requires.0 c.loop-i.i (omega arith) c.loop-i-test.true c.loop-i.invariant

pub returns : goal.returns
returns c =
    let last : c.loop-i.i - 1 ≡ 56 = omega arith in
    freed c.args.cell.now c.requires.0 _ _ (c.loop-i.invariant ∙ ap (λ (k : ℕ). moved c.args.cell.now k) last)
    c.fill_zero.ensures
