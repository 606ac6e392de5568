-- Zero words, looked at eight at a time in four results: joined by `or`, they are zero exactly where every word is.
use Prim.Native.Nat.{ℕ, zero, suc, ◌+◌, ◌*◌, ◌≤◌, ◌<◌}
use native.Mathlib.Omega.{arith}
use mathlib.Core.Bool.{Bool, ◌&&◌, and-true}
use mathlib.Core.List.{List}
use mathlib.Core.Logic.{inl, inr}
use mathlib.Core.Path.{◌≡◌, sym, ap, ◌∙◌}
use borrow.Author.Tests.{eq-eqb, ne_eqb}
use lib.Bits.{bit_or, or_add_and, and_le_l, and_le_r}
use lib.Dec.{eqb}
use lib.ListN.{get_or, length, drop, drop_of_length-le}
use lib.Seq.{drop-cons}
use Rattle.basics.proofs.Tests.{SameOrNot, equal?}
use Rattle.tables.specs.Cell.{all_zero}

-- ---- numbers that are 0 together

pub same-zero : (x y m : ℕ) → x ≤ y → y ≤ m * x → eqb x 0 ≡ eqb y 0
same-zero x y m l h = go (equal? x 0)
  where
    go : SameOrNot x 0 → eqb x 0 ≡ eqb y 0
    go (inl e) = let z : m * x ≡ 0 = rw e (omega arith) in rw (eq-eqb x 0 e, eq-eqb y 0 (omega arith))
    go (inr d) = rw (ne_eqb x 0 d, ne_eqb y 0 (λ e. d (omega arith)))

both_zero : (x y : ℕ) (b : Bool) → (eqb x 0 && (eqb y 0 && b)) ≡ (eqb (x + y) 0 && b)
both_zero zero y b = let e : 0 + y ≡ y = omega arith in rw e
both_zero (suc x) y b = rw (ne_eqb (suc x) 0 (λ e. omega (arith, e)), ne_eqb (suc x + y) 0 (λ e. omega (arith, e)))

pub record Or (x y : ℕ) : Type 0 where
  pub left : x ≤ bit_or x y
  pub right : y ≤ bit_or x y
  pub sum : bit_or x y ≤ x + y

pub or-bounds : (x y : ℕ) → Or x y
or-bounds x y = record {
  left = omega (arith, or_add_and x y, and_le_r x y);
  right = omega (arith, or_add_and x y, and_le_l x y);
  sum = omega (arith, or_add_and x y);
}

-- ---- k words from i + j on, added up

block : List ℕ → ℕ → ℕ → ℕ → ℕ
block ws i zero j = 0
block ws i (suc k) j = get_or ws (i + j) 0 + block ws i k (suc j)

block-zero : (ws : List ℕ) (i k j : ℕ) → i + (j + k) ≤ length ws
    → all_zero (drop (i + j) ws) ≡ (eqb (block ws i k j) 0 && all_zero (drop (i + (j + k)) ws))
unfolding block all_zero
block-zero ws i zero j h = let e : j + 0 ≡ j = omega arith in rw e
block-zero ws i (suc k) j h =
    let e : suc (i + j) ≡ i + suc j = omega arith in
    let f : i + (suc j + k) ≡ i + (j + suc k) = omega arith in
    let rest : all_zero (drop (suc (i + j)) ws) ≡ (eqb (block ws i k (suc j)) 0 && all_zero (drop (i + (j + suc k)) ws)) =
    ap (λ (m : ℕ). all_zero (drop m ws)) e ∙ block-zero ws i k (suc j) (omega arith)
    ∙ ap (λ (m : ℕ). eqb (block ws i k (suc j)) 0 && all_zero (drop m ws)) f in
    ap all_zero (drop-cons ws (i + j) 0 (omega arith)) ∙ ap (λ (b : Bool). eqb (get_or ws (i + j) 0) 0 && b) rest
    ∙ both_zero (get_or ws (i + j) 0) (block ws i k (suc j)) (all_zero (drop (i + (j + suc k)) ws))

-- eight words
block-eight : (ws : List ℕ) (i : ℕ) → i + 8 ≤ length ws → all_zero (drop i ws) ≡ (eqb (block ws i 8 0) 0 && all_zero (drop (i + 8) ws))
block-eight ws i h = let e : i + 0 ≡ i = omega arith in rw e at (block-zero ws i 8 0 h)

block_words : (ws : List ℕ) (i : ℕ) → block ws i 8 0
    ≡ get_or ws i 0 + get_or ws (i + 1) 0 + get_or ws (i + 2) 0 + get_or ws (i + 3) 0 + get_or ws (i + 4) 0 + get_or ws (i + 5) 0 + get_or ws (i + 6) 0 + get_or ws (i + 7) 0
unfolding block
block_words ws i = let e : i + 0 ≡ i = omega arith in rw e (omega arith)

-- ---- the loop over slots of eight words: with word i next, the whole answer is that of the four results and of the words from i on

pub record SlotsFrom (ws : List ℕ) (start p q r s i : ℕ) : Type 0 where
  pub slot : ℕ
  pub at : i ≡ 1 + slot * 8
  pub high : slot ≤ 8
  pub same : all_zero (drop start ws) ≡ (eqb (p + q + r + s) 0 && all_zero (drop i ws))

module _ (ws : List ℕ) (wide : length ws ≡ 65) where
  pub slots-start : (count i : ℕ) → count ≤ 8 → i ≡ 1 + count * 8 → SlotsFrom ws (1 + count * 8) 0 0 0 0 i
  slots-start count i h e = record { slot = count; at = e; high = h; same = rw e }

  module _ (start p q r s i : ℕ) (from : SlotsFrom ws start p q r s i) where
    pub slots_next : i < 65
        → SlotsFrom ws start (bit_or p (bit_or (get_or ws i 0) (get_or ws (i + 4) 0))) (bit_or q (bit_or (get_or ws (i + 1) 0) (get_or ws (i + 5) 0)))
        (bit_or r (bit_or (get_or ws (i + 2) 0) (get_or ws (i + 6) 0))) (bit_or s (bit_or (get_or ws (i + 3) 0) (get_or ws (i + 7) 0))) (i + 8)
    slots_next h =
        let w : ℕ → ℕ = λ j. get_or ws (i + j) 0 in
        let eight = block-eight ws i (omega (arith, from.at, from.high, wide)) in
        let words = block_words ws i in
        let a = or-bounds (get_or ws i 0) (w 4) in
        let b = or-bounds (w 1) (w 5) in
        let c = or-bounds (w 2) (w 6) in
        let d = or-bounds (w 3) (w 7) in
        let P = or-bounds p (bit_or (get_or ws i 0) (w 4)) in
        let Q = or-bounds q (bit_or (w 1) (w 5)) in
        let R = or-bounds r (bit_or (w 2) (w 6)) in
        let S = or-bounds s (bit_or (w 3) (w 7)) in
        let new : ℕ = bit_or p (bit_or (get_or ws i 0) (w 4)) + bit_or q (bit_or (w 1) (w 5)) + bit_or r (bit_or (w 2) (w 6)) + bit_or s (bit_or (w 3) (w 7)) in
        let most : new ≤ p + q + r + s + block ws i 8 0 =
        omega (arith, words, a.sum, b.sum, c.sum, d.sum, P.sum, Q.sum, R.sum, S.sum) in
        let least : p + q + r + s + block ws i 8 0 ≤ 3 * new =
        omega (
          arith,
          words,
          a.left,
          a.right,
          b.left,
          b.right,
          c.left,
          c.right,
          d.left,
          d.right,
          P.left,
          P.right,
          Q.left,
          Q.right,
          R.left,
          R.right,
          S.left,
          S.right,
        ) in
        record {
          slot = suc from.slot;
          at = omega (arith, from.at);
          high = omega (arith, from.at);
          same =
              from.same ∙ ap (λ (x : Bool). eqb (p + q + r + s) 0 && x) eight ∙ both_zero (p + q + r + s) (block ws i 8 0) (all_zero (drop (i + 8) ws))
              ∙ ap (λ (x : Bool). x && all_zero (drop (i + 8) ws)) (sym (same-zero new (p + q + r + s + block ws i 8 0) 3 most least));
        }

    pub slots-done : 65 ≤ i → eqb (bit_or (bit_or (bit_or p q) r) s) 0 ≡ all_zero (drop start ws)
    unfolding all_zero
    slots-done h =
        let a = or-bounds p q in
        let b = or-bounds (bit_or p q) r in
        let c = or-bounds (bit_or (bit_or p q) r) s in
        let past : length ws ≤ i = omega (arith, wide) in
        same-zero (bit_or (bit_or (bit_or p q) r) s) (p + q + r + s) 4 (omega (arith, a.sum, b.sum, c.sum))
        (omega (arith, a.left, a.right, b.left, b.right, c.left, c.right))
        ∙ sym (from.same ∙ ap (λ (l : List ℕ). eqb (p + q + r + s) 0 && all_zero l) (drop_of_length-le ws past) ∙ and-true (eqb (p + q + r + s) 0))
