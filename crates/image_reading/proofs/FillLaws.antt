-- Pieces of w words each, put one behind the other into a list: what holds before each turn, after one more, and at the end.
use Prim.Native.Nat.{ℕ, suc, ◌+◌, ◌-◌, ◌*◌, ◌≤◌, ◌<◌}
use native.Mathlib.Nat.{zero-mul, suc-mul}
use native.Mathlib.Numerals.{add-one}
use native.Mathlib.Omega.{arith}
use mathlib.Core.List.{List, ◌++◌}
use mathlib.Core.Path.{◌≡◌, refl, sym, ap, ap₂, ◌∙◌}
use lib.ListN.{length, take, drop}
use lib.Seq.{take-add, take_all, take_at, length-take-le}
use Rattle.tables.specs.Rows.{rows, row_at}
use Rattle.tables.specs.inner.Written.{put_row}
use Rattle.tables.proofs.RowsLaws.{row_fits, row-length, row_put, put-row-length, part-row, changed_row}
use Rattle.tables.proofs.RowsMore.{rows_more}

-- k of n pieces stand in ws
pub record Filling (w n : ℕ) (f : ℕ → List ℕ) (k : ℕ) (ws : List ℕ) : Type 0 where
  pub count : k ≤ n
  pub size : length ws ≡ n * w
  pub words : take (k * w) ws ≡ rows k f

module _ {w n : ℕ} {f : ℕ → List ℕ} {ws : List ℕ} where
  pub fill_start : length ws ≡ n * w → Filling w n f 0 ws
  unfolding rows
  fill_start e = record { count = omega arith; size = e; words = rw (zero-mul w) refl }

  module _ {k : ℕ} (p : Filling w n f k ws) where
    pub fill_done : n ≤ k → ws ≡ rows n f
    fill_done h =
        let e : k ≡ n = omega arith in
        let all : length ws ≤ k * w = rw e (omega (arith, p.size)) in
        sym (take_all (k * w) ws all) ∙ p.words ∙ ap (λ (x : ℕ). rows x f) e

    -- the next piece is `&mut ws[a..e]`, and comes back as `got`
    module _ (h : k < n) {a e : ℕ} (starts : a ≡ k * w) (ends : e ≡ a + w) where
      pub fill-wide : length (take (e - a) (drop a ws)) ≡ w
      fill-wide = ap length (part-row w k ws starts ends) ∙ row-length w n ws p.size k h

      pub fill-next : {got : List ℕ} → got ≡ f (suc k) → length (f (suc k)) ≡ w
          → Filling w n f (k + 1) (take a ws ++ (got ++ drop (e - a) (drop a ws)))
      unfolding row_at put_row
      fill-next {got} q wide = record {
        count = omega arith;
        size = ap length one ∙ put-row-length w n ws p.size k h got same ∙ p.size;
        words =
            ap₂ take next one
            ∙ take-add (k * w) w put
            ∙ ap₂ (λ (x y : List ℕ). x ++ y)
            (take_at (take (k * w) ws) _ (k * w) (length-take-le (k * w) ws (omega (arith, row_fits w k n h, p.size))) ∙ p.words)
            (row_put w n ws p.size k h got same ∙ q)
            ∙ sym (ap (λ (x : ℕ). rows x f) (add-one k) ∙ rows_more k f);
      }
        where
          put : List ℕ
          put = put_row w k got ws

          same : length got ≡ w
          same = ap length q ∙ wide

          one : take a ws ++ (got ++ drop (e - a) (drop a ws)) ≡ put
          one = changed_row w k ws starts ends (λ _. got) refl

          next : (k + 1) * w ≡ k * w + w
          next = ap (λ (x : ℕ). x * w) (add-one k) ∙ suc-mul k w
