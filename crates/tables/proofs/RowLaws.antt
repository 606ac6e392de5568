-- A node's row: what it holds after it is written, and that its numbers give its words back.
use Prim.Native.Nat.{ℕ, zero, suc, ◌+◌, ◌*◌, ◌^◌, ◌<◌, ◌≤◌}
use native.Mathlib.Omega.{arith}
use native.Mathlib.Decide.{dec_lt}
use mathlib.Core.List.{List, ◌∷◌}
use mathlib.Core.Logic.{◌⊎◌, inl, inr}
use mathlib.Core.Path.{◌≡◌, refl, sym, ap, ◌∙◌, fun_ext}
use lib.ListN.{get_or, length, take, drop, set, length-drop, length-set, get_or-eq_default}
use lib.Seq.{drop-cons, drop-drop, get_or-set_same, get_or-set_other}
use Rattle.basics.specs.Functions.{update}
use Rattle.basics.proofs.FunctionsLaws.{update-at, update-off}
use Rattle.basics.proofs.Tests.{equal?}
use Rattle.height.specs.Height.{zero_height}
use Rattle.height.specs.Words.{height_at, height_words, delta_of}
use Rattle.height.specs.inner.Stored.{stored_at}
use Rattle.height.specs.declared.Height.{Height}
use Rattle.height.proofs.WordsLaws.{same-words, load_stored, load-before, load_past, stored-before, stored_past, stored-length, sets-in}
use Rattle.nodeset.specs.NodeSet.{member, set_of}
use Rattle.nodeset.proofs.Members.{set_of-member}
use Rattle.protocol.specs.Network.{Node}
use Rattle.tables.specs.Row.{clock_in, neighbors_in, forming_in, height_in}
use Rattle.tables.specs.inner.Written.{put_height, with_head}
use Rattle.tables.specs.Rows.{row_at, rows}
use Rattle.tables.specs.Tables.{width}
use Rattle.tables.specs.inner.Fit.{RowFits}
use Rattle.tables.proofs.WordRuns.{part-run, rows_are, run-words}
use Rattle.tables.proofs.Wordy.{Wordy, word_lt}

-- ---- the numbers give the words back

module _ (n : ℕ) (row : List ℕ) (fits : RowFits n row) where
  views : drop 3 row ≡ rows n (λ v. height_words (height_in row v))
  unfolding row_at height_in
  views = rows_are 7 n (drop 3 row) (λ v. height_words (height_in row v)) (length-drop 3 row ∙ omega (arith, fits.wide)) at
    where
      at : (i : ℕ) → i < n → take 7 (drop (i * 7) (drop 3 row)) ≡ height_words (height_at row (3 + i * 7))
      at i l =
          ap (take 7) (drop-drop (i * 7) 3 row) ∙ part-run 7 (3 + i * 7) row (omega (arith, fits.wide)) ∙ run-words row (3 + i * 7) (fits.deltas i l)

  pub row_back : row ≡ clock_in row ∷ set_of n (member (neighbors_in row)) ∷ set_of n (member (forming_in row)) ∷ rows n (λ v. height_words (height_in row v))
  row_back =
      let a : row ≡ clock_in row ∷ drop 1 row = drop-cons row 0 0 (omega (arith, fits.wide)) in
      let b : drop 1 row ≡ neighbors_in row ∷ drop 2 row = drop-cons row 1 0 (omega (arith, fits.wide)) in
      let c : drop 2 row ≡ forming_in row ∷ drop 3 row = drop-cons row 2 0 (omega (arith, fits.wide)) in
      a ∙ ap (λ (xs : List ℕ). clock_in row ∷ xs) (b ∙ ap (λ (xs : List ℕ). neighbors_in row ∷ xs) (c ∙ ap (λ (xs : List ℕ). forming_in row ∷ xs) views))
      ∙ rw (set_of-member n (neighbors_in row) fits.neighbors-lt, set_of-member n (forming_in row) fits.forming-lt)

-- past the last node a row has no height
pub height-past : (n : ℕ) (row : List ℕ) → length row ≡ width n → (k : ℕ) → n ≤ k → height_in row (suc k) ≡ zero_height
unfolding height_in height_at delta_of
height-past n row wide k l =
    let past : (j : ℕ) → get_or row (3 + k * 7 + j) 0 ≡ 0 = λ j. get_or-eq_default row 0 (omega (arith, wide)) in
    let first : get_or row (3 + k * 7) 0 ≡ 0 = get_or-eq_default row 0 (omega (arith, wide)) in
    rw (first, past 1, past 2, past 3, past 4, past 5, past 6)

-- ---- one height put

pub put-length : (row : List ℕ) (v : ℕ) (h : Height) → length (put_height row v h) ≡ length row
unfolding put_height
put-length row zero h = refl
put-length row (suc k) h = stored-length row (3 + k * 7) h

-- the heights of two nodes lie apart
apart : (k j : ℕ) → (j ≡ k → ⊥) → (3 + j * 7 + 7 ≤ 3 + k * 7) ⊎ (3 + k * 7 + 7 ≤ 3 + j * 7)
apart k j d = go (dec_lt j k)
  where
    go : Dec (j < k) → (3 + j * 7 + 7 ≤ 3 + k * 7) ⊎ (3 + k * 7 + 7 ≤ 3 + j * 7)
    go (yes q) = inl (omega arith)
    go (no q) = inr (omega arith)

module _ (n k : ℕ) (inside : k < n) (row : List ℕ) (wide : length row ≡ width n) (h : Height) (w : Wordy h) where
  put-height : (z : ℕ) → height_in (put_height row (suc k) h) z ≡ update (height_in row) (suc k) h z
  unfolding put_height height_in
  put-height zero = sym (update-off (height_in row) (suc k) h 0 (λ e. omega arith))
  put-height (suc j) = go (equal? j k)
    where
      go : (j ≡ k) ⊎ (j ≡ k → ⊥) → height_at (stored_at row (3 + k * 7) h) (3 + j * 7) ≡ update (height_in row) (suc k) h (suc j)
      go (inl e) = rw (e, update-at (height_in row) (suc k) h) (load_stored row (3 + k * 7) h (omega (arith, wide)) w.delta w.nlts)
      go (inr d) = side (apart k j d) ∙ sym (update-off (height_in row) (suc k) h (suc j) (λ e. d (omega arith)))
        where
          side : (3 + j * 7 + 7 ≤ 3 + k * 7) ⊎ (3 + k * 7 + 7 ≤ 3 + j * 7) → height_at (stored_at row (3 + k * 7) h) (3 + j * 7) ≡ height_at row (3 + j * 7)
          side (inl q) = load-before row (3 + k * 7) h (3 + j * 7) q
          side (inr q) = load_past row (3 + k * 7) h (3 + j * 7) q

  put-deltas : ((j : ℕ) → j < n → get_or row (3 + j * 7 + 3) 0 < 4294967296) → (j : ℕ) → j < n → get_or (put_height row (suc k) h) (3 + j * 7 + 3) 0 < 4294967296
  unfolding put_height stored_at height_words
  put-deltas old j l = go (equal? j k)
    where
      go : (j ≡ k) ⊎ (j ≡ k → ⊥) → get_or (stored_at row (3 + k * 7) h) (3 + j * 7 + 3) 0 < 4294967296
      go (inl e) = rw (e, sets-in row (3 + k * 7) (height_words h) 3 0 (omega arith) (omega (arith, wide))) (word_lt h.delta w.delta)
      go (inr d) = side (apart k j d)
        where
          side : (3 + j * 7 + 7 ≤ 3 + k * 7) ⊎ (3 + k * 7 + 7 ≤ 3 + j * 7) → get_or (stored_at row (3 + k * 7) h) (3 + j * 7 + 3) 0 < 4294967296
          side (inl q) = rw (stored-before row (3 + k * 7) h (3 + j * 7 + 3) (omega arith)) (old j l)
          side (inr q) = rw (stored_past row (3 + k * 7) h (3 + j * 7 + 3) (omega arith)) (old j l)

-- the three words before the heights stay
pub put_word : (row : List ℕ) (v : ℕ) (h : Height) (j : ℕ) → j < 3 → get_or (put_height row v h) j 0 ≡ get_or row j 0
unfolding put_height
put_word row zero h j l = refl
put_word row (suc k) h j l = stored-before row (3 + k * 7) h j (omega arith)

pub put-heights : (n : ℕ) (row : List ℕ) → length row ≡ width n → (v : ℕ) → Node n v → (h : Height) → Wordy h
    → height_in (put_height row v h) ≡ update (height_in row) v h
put-heights n row wide zero a h w = absurd (omega (arith, a.low))
put-heights n row wide (suc k) a h w = fun_ext (put-height n k a.high row wide h w)

pub put-fits : (n : ℕ) (row : List ℕ) → RowFits n row → (v : ℕ) → Node n v → (h : Height) → Wordy h → RowFits n (put_height row v h)
put-fits n row fits zero a h w = absurd (omega (arith, a.low))
put-fits n row fits (suc k) a h w = record {
  wide = put-length row (suc k) h ∙ fits.wide;
  neighbors-lt = rw (put_word row (suc k) h 1 (omega arith)) fits.neighbors-lt;
  forming-lt = rw (put_word row (suc k) h 2 (omega arith)) fits.forming-lt;
  deltas = put-deltas n k a.high row fits.wide h w fits.deltas;
}

-- ---- the three words before the heights

module _ (row : List ℕ) (clock N F : ℕ) (long : 3 ≤ length row) where
  headed-length : length (with_head row clock N F) ≡ length row
  unfolding with_head
  headed-length = simp length-set

  pub headed-clock : clock_in (with_head row clock N F) ≡ clock
  unfolding with_head
  headed-clock =
      get_or-set_other (set (set row 0 clock) 1 N) 2 0 F 0 (λ e. omega arith)
      ∙ get_or-set_other (set row 0 clock) 1 0 N 0 (λ e. omega arith) ∙ get_or-set_same row 0 clock 0 (omega arith)

  pub headed-neighbors : neighbors_in (with_head row clock N F) ≡ N
  unfolding with_head
  headed-neighbors =
      get_or-set_other (set (set row 0 clock) 1 N) 2 1 F 0 (λ e. omega arith) ∙ get_or-set_same (set row 0 clock) 1 N 0 (simp length-set (omega arith))

  pub headed-forming : forming_in (with_head row clock N F) ≡ F
  unfolding with_head
  headed-forming = get_or-set_same (set (set row 0 clock) 1 N) 2 F 0 (simp length-set (omega arith))

  headed-word : (j : ℕ) → 3 ≤ j → get_or (with_head row clock N F) j 0 ≡ get_or row j 0
  unfolding with_head
  headed-word j q =
      get_or-set_other (set (set row 0 clock) 1 N) 2 j F 0 (λ e. omega arith)
      ∙ get_or-set_other (set row 0 clock) 1 j N 0 (λ e. omega arith) ∙ get_or-set_other row 0 j clock 0 (λ e. omega arith)

  headed-height : (z : ℕ) → height_in (with_head row clock N F) z ≡ height_in row z
  unfolding height_in
  headed-height zero = refl
  headed-height (suc k) = same-words (with_head row clock N F) row (3 + k * 7) (3 + k * 7) (λ j q. headed-word (3 + k * 7 + j) (omega arith))

  pub headed-heights : height_in (with_head row clock N F) ≡ height_in row
  headed-heights = fun_ext headed-height

pub headed-fits : (n : ℕ) (row : List ℕ) → RowFits n row → (clock N F : ℕ) → N < 2 ^ n → F < 2 ^ n → RowFits n (with_head row clock N F)
headed-fits n row fits clock N F h_n h_f = record {
  wide = headed-length row clock N F long ∙ fits.wide;
  neighbors-lt = rw (headed-neighbors row clock N F long) h_n;
  forming-lt = rw (headed-forming row clock N F long) h_f;
  deltas = λ k l. rw (headed-word row clock N F long (3 + k * 7 + 3) (omega arith)) (fits.deltas k l);
}
  where
    long : 3 ≤ length row
    long = omega (arith, fits.wide)
