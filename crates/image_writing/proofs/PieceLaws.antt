-- Pieces of bits f 1, f 2, .. end to end: a loop that adds their lengths (`Summed`), and a loop that writes them (`Laid`).
use Prim.Native.Nat.{ℕ, zero, suc, ◌+◌, ◌-◌, ◌*◌, ◌≤◌, ◌<◌}
use native.Mathlib.Nat.{add-zero, le_refl}
use native.Mathlib.Omega.{arith}
use mathlib.Core.List.{List, [], ◌++◌, append-nil}
use mathlib.Core.Path.{◌≡◌, refl, sym, ap, ◌∙◌}
use lib.ListN.{length, length-append}
use Rattle.bits.specs.inner.Written.{written}
use Rattle.bits.proofs.Bytes.{written-written, written_none, length-written}
use Rattle.bits.proofs.Numbers.{Below}
use Rattle.image.specs.inner.Parts.{Inside}
use Rattle.image.proofs.RowsMore.{below_rows}
use Rattle.tables.specs.Rows.{rows}
use Rattle.tables.proofs.RowsMore.{rows_more}

-- ---- before the turn v, v - 1 pieces are laid

piece-more : (f : ℕ → List ℕ) (v : ℕ) → 1 ≤ v → rows (v + 1 - 1) f ≡ rows (v - 1) f ++ f v
piece-more f v h =
    let a : v + 1 - 1 ≡ suc (v - 1) = omega arith in
    let b : suc (v - 1) ≡ v = omega arith in
    ap (λ (k : ℕ). rows k f) a ∙ rows_more (v - 1) f ∙ ap (λ (k : ℕ). rows (v - 1) f ++ f k) b

length_more : (f : ℕ → List ℕ) (v : ℕ) → 1 ≤ v → length (rows (v + 1 - 1) f) ≡ length (rows (v - 1) f) + length (f v)
length_more f v h = ap length (piece-more f v h) ∙ length-append (rows (v - 1) f) (f v)

-- ---- a loop that adds the lengths of n pieces: its sum before the turn v

pub record Summed (f : ℕ → List ℕ) (n sum v : ℕ) : Type 0 where
  pub low : 1 ≤ v
  pub high : v ≤ n + 1
  pub is : sum ≡ length (rows (v - 1) f)

pub summed-start : (f : ℕ → List ℕ) (n : ℕ) → Summed f n 0 1
unfolding rows
summed-start f n = record { low = omega arith; high = omega arith; is = refl }

module _ (f : ℕ → List ℕ) (n sum v : ℕ) (summed : Summed f n sum v) where
  pub summed-next : v < n + 1 → {s : ℕ} → s ≡ sum + length (f v) → Summed f n s (v + 1)
  summed-next h e = record { low = omega arith; high = omega arith; is = omega (arith, e, summed.is, length_more f v summed.low) }

  pub summed-all : n + 1 ≤ v → sum ≡ length (rows n f)
  summed-all h = let e : v - 1 ≡ n = omega (arith, summed.high) in summed.is ∙ ap (λ (k : ℕ). length (rows k f)) e

-- ---- the room for a piece

-- fewer pieces are no longer
length-le : (f : ℕ → List ℕ) (k j : ℕ) → length (rows k f) ≤ length (rows (k + j) f)
length-le f k zero = rw (add-zero k) (le_refl (length (rows k f)))
length-le f k (suc j) =
    let e : k + suc j ≡ suc (k + j) = omega arith in
    let s : length (rows (suc (k + j)) f) ≡ length (rows (k + j) f) + length (f (suc (k + j))) =
    ap length (rows_more (k + j) f) ∙ length-append (rows (k + j) f) (f (suc (k + j))) in
    rw e (omega (arith, length-le f k j, s))

-- piece v stands inside all n
piece-in : (f : ℕ → List ℕ) (v n : ℕ) → 1 ≤ v → v ≤ n → length (rows (v - 1) f) + length (f v) ≤ length (rows n f)
piece-in f v n h l =
    let e : v + 1 - 1 + (n - v) ≡ n = omega arith in
    let q : length (rows (v + 1 - 1) f) ≤ length (rows n f) = rw e at (length-le f (v + 1 - 1) (n - v)) in
    omega (arith, length_more f v h, q)

-- ---- a loop that writes n pieces over bytes xs from a bit place on: its bytes ys and its place before the turn v

pub record Laid (f : ℕ → List ℕ) (n : ℕ) (xs : List ℕ) (at : ℕ) (ys : List ℕ) (place v : ℕ) : Type 0 where
  pub low : 1 ≤ v
  pub high : v ≤ n + 1
  pub behind : place ≡ at + length (rows (v - 1) f)
  pub same : length ys ≡ length xs
  pub bytes : ys ≡ written xs at (rows (v - 1) f)

pub laid-start : (f : ℕ → List ℕ) (n : ℕ) (xs : List ℕ) (at : ℕ) → Below 256 xs → at ≤ 8 * length xs → Laid f n xs at xs at 1
unfolding rows
laid-start f n xs at b h =
    record { low = omega arith; high = omega arith; behind = omega arith; same = refl; bytes = sym (written_none xs at b h) }

module _ (f : ℕ → List ℕ) (n : ℕ) (xs : List ℕ) (at : ℕ) (ys : List ℕ) (place v : ℕ) (laid : Laid f n xs at ys place v) where
  -- all pieces are laid
  pub laid-all : n + 1 ≤ v → (ys ≡ written xs at (rows n f)) × (place ≡ at + length (rows n f))
  laid-all h =
      let e : v - 1 ≡ n = omega (arith, laid.high) in
      (laid.bytes ∙ ap (λ (k : ℕ). written xs at (rows k f)) e, laid.behind ∙ ap (λ (k : ℕ). at + length (rows k f)) e)

  module _ (h : v < n + 1) where
    -- piece v is empty, and nothing was written
    pub laid-skip : f v ≡ [] → {zs : List ℕ} {q : ℕ} → zs ≡ ys → q ≡ place → Laid f n xs at zs q (v + 1)
    laid-skip none {zs} {q} ez eq =
        let e : rows (v - 1) f ≡ rows (v + 1 - 1) f =
        sym (piece-more f v laid.low ∙ ap (λ (l : List ℕ). rows (v - 1) f ++ l) none ∙ append-nil (rows (v - 1) f)) in
        record {
          low = omega arith;
          high = omega arith;
          behind = eq ∙ laid.behind ∙ ap (λ (l : List ℕ). at + length l) e;
          same = ap length ez ∙ laid.same;
          bytes = ez ∙ laid.bytes ∙ ap (written xs at) e;
        }

    module _ (room : Inside xs at (length (rows n f))) where
      -- there is room for piece v
      pub laid-room : Inside ys place (length (f v))
      laid-room = record {
        small = omega (arith, piece-in f v n laid.low (omega arith), laid.behind, room.small);
        inside = omega (arith, piece-in f v n laid.low (omega arith), laid.behind, laid.same, room.inside);
      }

      -- piece v was written
      pub laid_next : ((u : ℕ) → Below 2 (f u)) → {zs : List ℕ} {q : ℕ} → zs ≡ written ys place (f v) → q ≡ place + length (f v)
          → Laid f n xs at zs q (v + 1)
      laid_next b {zs} {q} ez eq =
          let e : zs ≡ written xs at (rows (v + 1 - 1) f) =
          ez ∙ ap (λ (l : List ℕ). written l place (f v)) laid.bytes
          ∙ written-written xs at (rows (v - 1) f) (f v) place (below_rows 2 (v - 1) f (omega arith) b) laid.behind
          (omega (arith, laid-room.inside, laid.same))
          ∙ ap (written xs at) (sym (piece-more f v laid.low)) in
          record {
            low = omega arith;
            high = omega arith;
            behind = omega (arith, eq, laid.behind, length_more f v laid.low);
            same = ap length e ∙ length-written xs at (rows (v + 1 - 1) f);
            bytes = e;
          }
