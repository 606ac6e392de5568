-- Bytes as many as `election_image_len` says hold every image: with them no save is refused with 14 (`save-room`).
-- Assumes tables of 32-bit words that pass the check.
-- Bytes as many as `election_drawing_len` says hold every drawing: with them none is refused with 14 (`draw-room`). Assumes that the check passes.
use Prim.Native.Nat.{ℕ, zero, suc, ◌+◌, ◌-◌, ◌*◌, ◌/◌, ◌≤◌, ◌<◌}
use native.Mathlib.Nat.{mul_assoc, suc-mul}
use native.Mathlib.Omega.{arith}
use mathlib.Core.List.{List}
use mathlib.Core.Logic.{◌⊎◌, inl, inr}
use mathlib.Core.Path.{◌≡◌, refl, ap, ◌∙◌}
use borrow.Author.Tests.{le-leb}
use lib.ListN.{length, length-append}
use Rattle.basics.proofs.Tests.{equal?}
use Rattle.drawing.specs.Draw.{draw_on, digits_to, drawing_length}
use Rattle.drawing.specs.Drawing.{drawing}
use Rattle.drawing.proofs.Longest.{drawing-fits}
use Rattle.image.specs.Image.{image}
use Rattle.image.specs.Widths.{node_width}
use Rattle.image.proofs.FieldPlaces.{height-96, message-128}
use Rattle.image_snapshot.specs.Save.{save_on}
use Rattle.image_writing.specs.inner.Words.{cell_bits_at, cells_from_bits, cells_bits}
use Rattle.image_writing.proofs.ImageLaws.{depth-16, counts, length-image}
use Rattle.image_writing.proofs.LengthLaws.{own-none, length-cell, rows-le}
use Rattle.lent.specs.Check.{check_on}
use Rattle.lent.proofs.CheckLaws.{sound-sized}
use Rattle.lent.proofs.SoundTables.{Words, sound-fits}
use Rattle.protocol.specs.Network.{Node}
use Rattle.refusal.specs.Outcome.{put_front, put_checked}
use Rattle.tables.specs.Cell.{count}
use Rattle.tables.specs.Load.{load}
use Rattle.tables.specs.Rows.{rows}
use Rattle.tables.specs.Tables.{Tables, channel_of}
use Rattle.tables.specs.inner.Fit.{TablesFit}
use Rattle.abi.specs.Sizes.{image_length}

-- ---- the channels

-- k rows of at most w, of which one is empty
rows-but-one : (w k j : ℕ) (f : ℕ → List ℕ) → j < k → ((i : ℕ) → i < k → length (f (suc i)) ≤ w) → length (f (suc j)) ≡ 0
    → length (rows k f) + w ≤ k * w
unfolding rows
rows-but-one w zero j f l h e = absurd (omega arith)
rows-but-one w (suc k) zero f l h e =
    omega (
      arith,
      e,
      length-append (f 1) (rows k (λ i. f (suc i))),
      rows-le w k (λ i. f (suc i)) (λ i m. h (suc i) (omega arith)),
      suc-mul k w,
    )
rows-but-one w (suc k) (suc j) f l h e =
    omega (
      arith,
      h 0 (omega arith),
      length-append (f 1) (rows k (λ i. f (suc i))),
      rows-but-one w k j (λ i. f (suc i)) (omega arith) (λ i m. h (suc i) (omega arith)) e,
      suc-mul k w,
    )

module _ (n : ℕ) (t : Tables) (fit : TablesFit n t) where
  -- a count and 8 messages
  cell-le : (u v : ℕ) → Node n u → Node n v → length (cell_bits_at 16 n t.channels u v) ≤ 1028
  cell-le u v a b = go (equal? u v)
    where
      go : (u ≡ v) ⊎ (u ≡ v → ⊥) → length (cell_bits_at 16 n t.channels u v) ≤ 1028
      go (inl e) = rw (own-none 16 n t.channels u v e) (omega arith)
      go (inr e) =
          let c : ℕ = count (channel_of n u v t.channels) in
          omega (
            arith,
            rw message-128 at (length-cell 16 n t.channels u v c depth-16 a b fit.size.channels (counts n t fit) refl e),
            (fit.cells u v a b).few,
          )

  cells-from-le : (u : ℕ) → Node n u → length (cells_from_bits 16 n t.channels u) ≤ (n - 1) * 1028
  unfolding cells_from_bits
  cells-from-le u a =
      let e : u ≡ suc (u - 1) = omega (arith, a.low) in
      omega (
        arith,
        rows-but-one 1028 n (u - 1) (cell_bits_at 16 n t.channels u) (omega (arith, a.low, a.high))
            (λ i l. cell-le u (suc i) a (record { low = omega arith; high = omega arith }))
            (ap length (own-none 16 n t.channels u (suc (u - 1)) e)),
      )

  cells-le : length (cells_bits 16 n t.channels) ≤ n * ((n - 1) * 1028)
  unfolding cells_bits
  cells-le =
      rows-le ((n - 1) * 1028) n (cells_from_bits 16 n t.channels)
      (λ i l. cells-from-le (suc i) (record { low = omega arith; high = omega arith }))

-- ---- bits to bytes: the longest image ends on a byte

half : ℕ → ℕ
half zero = 0
half (suc m) = half m + suc m

halves : (m : ℕ) → suc m * m ≡ 2 * half m
unfolding half
halves zero = refl
halves (suc m) = omega (arith, halves m)

bytes_le : (x y l a b : ℕ) → x ≡ 8 * a → y ≡ 8 * b → l ≤ y → (x + l + 7) / 8 ≤ (x + y) / 8
bytes_le x y l a b p q h = omega (arith, p, q, h)

-- header and nodes, and channels
whole-front : (n : ℕ) → 32 + n * (64 + 96 * n) ≡ 8 * (4 + 8 * n + 12 * (n * n))
whole-front n = omega arith

whole-channels : (n m : ℕ) → n ≡ suc m → n * m * 1028 ≡ 8 * (257 * half m)
whole-channels n m e =
    let h : n * m ≡ 2 * half m = ap (λ (k : ℕ). k * m) e ∙ halves m in
    omega (arith, h)

-- ---- room for every image

pub longest : image_length 16 ≡ 34044
unfolding image_length node_width
longest = rw (height-96, message-128)

module _ (n : ℕ) (t : Tables) where
  length-le : TablesFit n t → length (image n (load n t)) ≤ image_length n
  unfolding image_length node_width
  length-le fit =
      let cells = cells-le n t fit in
      let size = fit.size in
      rw (le-leb 1 n size.low, le-leb n 16 size.few, length-image n t fit, height-96, message-128)
      (bytes_le (32 + n * (64 + 96 * n)) (n * (n - 1) * 1028) (length (cells_bits 16 n t.channels)) _ _ (whole-front n)
      (whole-channels n (n - 1) (omega (arith, size.low))) (omega (arith, cells, mul_assoc n (n - 1) 1028)))

  -- a save of tables that pass the check, with room as for the longest image, is accepted
  pub save-room : Words t → (check_on n t).number ≡ 0 → (out : List ℕ) → image_length n ≤ length out
      → (save_on n t out).said.why.number ≡ 0
  unfolding save_on put_checked put_front
  save-room words sound out room =
      let b : length (image n (load n t)) ≤ length out = omega (arith, room, length-le (sound-fits n t words sound)) in
      rw (sound, le-leb (length (image n (load n t))) (length out) b)

-- ---- room for every drawing

pub longest-drawing : drawing_length 16 ≡ 1409
unfolding drawing_length digits_to
longest-drawing = refl

-- a drawing of tables that pass the check, with room as for the longest one, is accepted
pub draw-room : (n : ℕ) (t : Tables) → (check_on n t).number ≡ 0 → (out : List ℕ) → drawing_length n ≤ length out
    → (draw_on n t out).said.why.number ≡ 0
unfolding draw_on put_checked put_front
draw-room n t sound out room =
    let size = sound-sized n t sound in
    let b : length (drawing n (load n t)) ≤ length out = omega (arith, room, drawing-fits n (load n t) size.low size.few) in
    rw (sound, le-leb (length (drawing n (load n t))) (length out) b)
