-- A channel's cell: its messages after each operation, and that its messages give its words back.
use Prim.Native.Nat.{ℕ, zero, suc, ◌+◌, ◌-◌, ◌*◌, ◌<◌, ◌≤◌}
use native.Mathlib.Decide.{dec_lt}
use native.Mathlib.Numerals.{towards_suc, add-one}
use native.Mathlib.Omega.{arith}
use mathlib.Core.List.{List, [], ◌∷◌, ◌++◌, map, tail}
use mathlib.Core.Logic.{◌⊎◌, inl, inr}
use mathlib.Core.Path.{◌≡◌, refl, sym, ap, ◌∙◌}
use lib.ListN.{get_or, length, take, drop, replicate, set, length-set, length-append, length-drop, length-map, length-replicate, get_or-replicate, get_or-append}
use lib.Seq.{drop-cons, take_all, get_or-set_same, get_or-set_other, get_or-drop, get_or-append-add}
use Rattle.basics.proofs.Tests.{equal?}
use Rattle.height.specs.Words.{height_at, height_words, delta_word}
use Rattle.height.specs.inner.Stored.{stored_at}
use Rattle.height.specs.declared.Height.{Height}
use Rattle.height.proofs.WordsLaws.{same-words, load_stored, stored-before, stored_past, stored-length, word-signed, nat_abs-neg, sets-in}
use Rattle.protocol.specs.Network.{Message}
use Rattle.tables.specs.Cell.{count, slot, message_at, messages_at, queue, message_words}
use Rattle.tables.specs.inner.Written.{appended, taken, emptied}
use Rattle.tables.specs.Records.{slot_words, cell_words}
use Rattle.tables.specs.Rows.{part}
use Rattle.tables.specs.Tables.{cell_width}
use Rattle.tables.specs.inner.Fit.{CellFits}
use Rattle.tables.proofs.WordRuns.{run, part-run, part-add, run-zero}
use Rattle.tables.proofs.Wordy.{Wordy, word_lt}

run-message : (ws : List ℕ) (i : ℕ) → get_or ws (i + 3) 0 < 4294967296 → run 8 ws i ≡ message_words (message_at ws i)
unfolding run message_words height_words message_at height_at
run-message ws i h = rw (word-signed (get_or ws (i + 3) 0) h) (simp (towards_suc, nat_abs-neg))

pub messages-length : (k : ℕ) (ws : List ℕ) (i : ℕ) → length (messages_at k ws i) ≡ k
unfolding messages_at
messages-length zero ws i = refl
messages-length (suc k) ws i = ap suc (messages-length k ws (i + 8))

-- message m of the loaded channel is what stands from word 1 + 8 m of its cell
messages-nth : (k : ℕ) (ws : List ℕ) (i m : ℕ) (d : Message) → m < k → get_or (messages_at k ws i) m d ≡ message_at ws (i + m * 8)
unfolding messages_at
messages-nth zero ws i m d l = absurd (omega arith)
messages-nth (suc k) ws i zero d l = ap (message_at ws) (omega arith)
messages-nth (suc k) ws i (suc m) d l = messages-nth k ws (i + 8) m d (omega arith) ∙ ap (message_at ws) (omega arith)

slots-back : (k c : ℕ) (ws : List ℕ) (i : ℕ) → i + k * 8 ≤ length ws → c ≤ k
    → ((j : ℕ) → j < k → get_or ws (i + (j * 8 + 3)) 0 < 4294967296) → ((j : ℕ) → c * 8 ≤ j → j < k * 8 → get_or ws (i + j) 0 ≡ 0)
    → part i (k * 8) ws ≡ slot_words k (map message_words (messages_at c ws i))
unfolding slot_words messages_at
slots-back zero zero ws i f l d z = refl
slots-back zero (suc c) ws i f l d z = absurd (omega arith)
slots-back (suc k) zero ws i f l d z =
    let e : suc k * 8 ≡ 8 + k * 8 = omega arith in
    let first : part i 8 ws ≡ replicate 8 0 = part-run 8 i ws (omega arith) ∙ run-zero 8 i ws (λ j q. z j (omega arith) (omega arith)) in
    let rest = slots-back k zero ws (i + 8) (omega arith) (omega arith)
    (λ j q. let a : i + 8 + (j * 8 + 3) ≡ i + (suc j * 8 + 3) = omega arith in rw a (d (suc j) (omega arith)))
    (λ j q r. let a : i + 8 + j ≡ i + (8 + j) = omega arith in rw a (z (8 + j) (omega arith) (omega arith))) in
    ap (λ (m : ℕ). part i m ws) e ∙ part-add i 8 (k * 8) ws ∙ ap (λ (xs : List ℕ). xs ++ part (i + 8) (k * 8) ws) first
    ∙ ap (λ (xs : List ℕ). replicate 8 0 ++ xs) rest
slots-back (suc k) (suc c) ws i f l d z =
    let e : suc k * 8 ≡ 8 + k * 8 = omega arith in
    let first : part i 8 ws ≡ message_words (message_at ws i) = part-run 8 i ws (omega arith) ∙ run-message ws i (d 0 (omega arith)) in
    let rest = slots-back k c ws (i + 8) (omega arith) (omega arith)
    (λ j q. let a : i + 8 + (j * 8 + 3) ≡ i + (suc j * 8 + 3) = omega arith in rw a (d (suc j) (omega arith)))
    (λ j q r. let a : i + 8 + j ≡ i + (8 + j) = omega arith in rw a (z (8 + j) (omega arith) (omega arith))) in
    ap (λ (m : ℕ). part i m ws) e ∙ part-add i 8 (k * 8) ws ∙ ap (λ (xs : List ℕ). xs ++ part (i + 8) (k * 8) ws) first
    ∙ ap (λ (xs : List ℕ). message_words (message_at ws i) ++ xs) rest

pub cell-back : (cell : List ℕ) → CellFits cell → cell ≡ cell_words (map message_words (queue cell))
unfolding cell_words queue
cell-back cell fits =
    let a : cell ≡ get_or cell 0 0 ∷ drop 1 cell = drop-cons cell 0 0 (omega (arith, fits.wide)) in
    let b : drop 1 cell ≡ part 1 64 cell = sym (part-all 64 cell fits.wide) in
    let c = slots-back 8 (count cell) cell 1 (omega (arith, fits.wide)) fits.few fits.deltas fits.unused in
    let ms : List Message = messages_at (count cell) cell 1 in
    let d = length-map ms message_words ∙ messages-length (count cell) cell 1 in
    a ∙ ap (λ (xs : List ℕ). get_or cell 0 0 ∷ xs) (b ∙ c) ∙ ap (λ (k : ℕ). k ∷ slot_words 8 (map message_words ms)) (sym d)
  where
    part-all : (k : ℕ) (xs : List ℕ) → length xs ≡ suc k → take k (drop 1 xs) ≡ drop 1 xs
    part-all k [] h = absurd (omega arith)
    part-all k (x ∷ xs) h = take_all k xs (omega arith)

-- ---- one more message

messages-same : (k : ℕ) (ws us : List ℕ) (i : ℕ) → ((j : ℕ) → j < k * 8 → get_or ws (i + j) 0 ≡ get_or us (i + j) 0) → messages_at k ws i ≡ messages_at k us i
unfolding messages_at message_at
messages-same zero ws us i h = refl
messages-same (suc k) ws us i h =
    rw (
      same-words ws us i i (λ j q. h j (omega arith)),
      h 7 (omega arith),
      messages-same k ws us (i + 8) (λ j q. let a : i + 8 + j ≡ i + (8 + j) = omega arith in rw a (h (8 + j) (omega arith))),
    )

messages-last : (k : ℕ) (ws : List ℕ) (i : ℕ) → messages_at (suc k) ws i ≡ messages_at k ws i ++ (message_at ws (i + k * 8) ∷ [])
unfolding messages_at
messages-last zero ws i = let e : i + 0 * 8 ≡ i = omega arith in rw e
messages-last (suc k) ws i =
    let e : i + 8 + k * 8 ≡ i + suc k * 8 = omega arith in
    ap (λ (ms : List Message). message_at ws i ∷ ms) (messages-last k ws (i + 8) ∙ ap (λ (x : ℕ). messages_at k ws (i + 8) ++ (message_at ws x ∷ [])) e)

module _ (cell : List ℕ) (h : Height) (t : ℕ) (fits : CellFits cell) (room : count cell < 8) (w : Wordy h) where
  c : ℕ
  c = count cell

  stored : List ℕ
  stored = stored_at cell (slot (count cell)) h

  -- a word outside the slot of the new message, and past the count
  appended-other : (j : ℕ) → 1 ≤ j → slot (count cell) + 8 ≤ j → get_or (appended cell h t) j 0 ≡ get_or cell j 0
  unfolding appended
  appended-other j l q =
      get_or-set_other (set (stored_at cell (slot (count cell)) h) (slot (count cell) + 7) t) 0 j (count cell + 1) 0 (λ e. omega arith)
      ∙ get_or-set_other (stored_at cell (slot (count cell)) h) (slot (count cell) + 7) j t 0 (λ e. omega arith)
      ∙ stored_past cell (slot (count cell)) h j (omega arith)

  appended-before : (j : ℕ) → 1 ≤ j → j < slot (count cell) → get_or (appended cell h t) j 0 ≡ get_or cell j 0
  unfolding appended
  appended-before j l q =
      get_or-set_other (set (stored_at cell (slot (count cell)) h) (slot (count cell) + 7) t) 0 j (count cell + 1) 0 (λ e. omega arith)
      ∙ get_or-set_other (stored_at cell (slot (count cell)) h) (slot (count cell) + 7) j t 0 (λ e. omega arith)
      ∙ stored-before cell (slot (count cell)) h j q

  appended-in : (j : ℕ) → j < 7 → get_or (appended cell h t) (slot (count cell) + j) 0 ≡ get_or stored (slot (count cell) + j) 0
  unfolding appended stored
  appended-in j q =
      get_or-set_other (set (stored_at cell (slot (count cell)) h) (slot (count cell) + 7) t) 0 (slot (count cell) + j) (count cell + 1) 0 (λ e. omega arith)
      ∙ get_or-set_other (stored_at cell (slot (count cell)) h) (slot (count cell) + 7) (slot (count cell) + j) t 0 (λ e. omega arith)

  appended-timestamp : get_or (appended cell h t) (slot (count cell) + 7) 0 ≡ t
  unfolding appended
  appended-timestamp =
      get_or-set_other (set (stored_at cell (slot (count cell)) h) (slot (count cell) + 7) t) 0 (slot (count cell) + 7) (count cell + 1) 0 (λ e. omega arith)
      ∙ get_or-set_same (stored_at cell (slot (count cell)) h) (slot (count cell) + 7) t 0 (simp stored-length (omega (arith, fits.wide)))

  pub appended-count : count (appended cell h t) ≡ count cell + 1
  unfolding appended
  appended-count =
      get_or-set_same (set (stored_at cell (slot (count cell)) h) (slot (count cell) + 7) t) 0 (count cell + 1) 0
      (simp (length-set, stored-length) (omega (arith, fits.wide)))

  pub appended-wide : length (appended cell h t) ≡ 65
  unfolding appended
  appended-wide = simp (length-set, stored-length) fits.wide

  appended-message : message_at (appended cell h t) (1 + count cell * 8) ≡ record { height = h; timestamp = t }
  unfolding message_at stored
  appended-message =
      let e : height_at (appended cell h t) (slot (count cell)) ≡ h =
      same-words _ stored (slot (count cell)) (slot (count cell)) appended-in
      ∙ load_stored cell (slot (count cell)) h (omega (arith, fits.wide)) w.delta w.nlts in
      rw (e, appended-timestamp)

  pub queue-appended : queue (appended cell h t) ≡ queue cell ++ (record { height = h; timestamp = t } ∷ [])
  unfolding queue
  queue-appended =
      ap (λ (k : ℕ). messages_at k (appended cell h t) 1) (appended-count ∙ add-one (count cell))
      ∙ messages-last (count cell) (appended cell h t) 1
      ∙ ap (λ (ms : List Message). ms ++ (message_at (appended cell h t) (1 + count cell * 8) ∷ []))
      (messages-same (count cell) (appended cell h t) cell 1 (λ j q. appended-before (1 + j) (omega arith) (omega arith)))
      ∙ ap (λ (m : Message). messages_at (count cell) cell 1 ++ (m ∷ [])) appended-message

  slot-word : (k : ℕ) → k < 8 → (k ≡ count cell → ⊥) → get_or (appended cell h t) (1 + (k * 8 + 3)) 0 ≡ get_or cell (1 + (k * 8 + 3)) 0
  slot-word k l d = go (dec_lt k (count cell))
    where
      go : Dec (k < count cell) → get_or (appended cell h t) (1 + (k * 8 + 3)) 0 ≡ get_or cell (1 + (k * 8 + 3)) 0
      go (yes q) = appended-before (1 + (k * 8 + 3)) (omega arith) (omega arith)
      go (no q) = appended-other (1 + (k * 8 + 3)) (omega arith) (omega arith)

  new-delta : get_or (appended cell h t) (1 + (count cell * 8 + 3)) 0 < 4294967296
  unfolding stored stored_at height_words
  new-delta =
      let e : 1 + (count cell * 8 + 3) ≡ slot (count cell) + 3 = omega arith in
      let q : get_or (appended cell h t) (slot (count cell) + 3) 0 ≡ delta_word h.delta =
      appended-in 3 (omega arith) ∙ sets-in cell (slot (count cell)) (height_words h) 3 0 (omega arith) (omega (arith, fits.wide)) in
      rw (e, q) (word_lt h.delta w.delta)

  pub appended-fits : CellFits (appended cell h t)
  appended-fits = record {
    wide = appended-wide;
    few = omega (arith, appended-count);
    deltas = λ k l. depth k l (equal? k (count cell));
    unused = λ j l q. appended-other (1 + j) (omega arith) (omega (arith, appended-count)) ∙ fits.unused j (omega (arith, appended-count)) q;
  }
    where
      depth : (k : ℕ) → k < 8 → (k ≡ count cell) ⊎ (k ≡ count cell → ⊥) → get_or (appended cell h t) (1 + (k * 8 + 3)) 0 < 4294967296
      depth k l (inl e) = rw e new-delta
      depth k l (inr d) = rw (slot-word k l d) (fits.deltas k l)

-- ---- without the first message

pub messages-moved : (k : ℕ) (ws us : List ℕ) (i j : ℕ) → ((m : ℕ) → m < k * 8 → get_or ws (i + m) 0 ≡ get_or us (j + m) 0)
    → messages_at k ws i ≡ messages_at k us j
unfolding messages_at message_at
messages-moved zero ws us i j h = refl
messages-moved (suc k) ws us i j h =
    rw (
      same-words ws us i j (λ m q. h m (omega arith)),
      h 7 (omega arith),
      messages-moved k ws us (i + 8) (j + 8)
          (λ m q. let a : i + 8 + m ≡ i + (8 + m) = omega arith in let b : j + 8 + m ≡ j + (8 + m) = omega arith in rw (a, b) (h (8 + m) (omega arith))),
    )

module _ (cell : List ℕ) (fits : CellFits cell) (some : 1 ≤ count cell) where
  -- word 1 + j of the shorter cell is word 9 + j, or zero
  moved : (j : ℕ) → j < 56 → get_or (taken cell) (1 + j) 0 ≡ get_or cell (9 + j) 0
  unfolding taken
  moved j l =
      let e : 1 + j ≡ length ((count cell - 1) ∷ []) + j = omega arith in
      ap (λ (x : ℕ). get_or ((count cell - 1) ∷ (drop 9 cell ++ replicate 8 0)) x 0) e
      ∙ get_or-append-add ((count cell - 1) ∷ []) (drop 9 cell ++ replicate 8 0) j 0
      ∙ get_or-append (drop 9 cell) (replicate 8 0) 0 j (omega (arith, length-drop 9 cell, fits.wide)) ∙ get_or-drop 9 cell j 0

  freed : (j : ℕ) → 56 ≤ j → j < 64 → get_or (taken cell) (1 + j) 0 ≡ 0
  unfolding taken
  freed j l h =
      let e : 1 + j ≡ length ((count cell - 1) ∷ []) + (length (drop 9 cell) + (j - 56)) = omega (arith, length-drop 9 cell, fits.wide) in
      ap (λ (x : ℕ). get_or ((count cell - 1) ∷ (drop 9 cell ++ replicate 8 0)) x 0) e
      ∙ get_or-append-add ((count cell - 1) ∷ []) (drop 9 cell ++ replicate 8 0) (length (drop 9 cell) + (j - 56)) 0
      ∙ get_or-append-add (drop 9 cell) (replicate 8 0) (j - 56) 0 ∙ get_or-replicate 8 (j - 56) 0 0 (omega arith)

  taken-count : count (taken cell) ≡ count cell - 1
  unfolding taken
  taken-count = refl

  pub queue-taken : queue (taken cell) ≡ tail (queue cell)
  unfolding queue messages_at
  queue-taken = go (count cell) refl
    where
      rest : (c : ℕ) → count cell ≡ suc c → messages_at c (taken cell) 1 ≡ messages_at c cell (1 + 8)
      rest c e =
          messages-moved c (taken cell) cell 1 (1 + 8)
          (λ m q. let f : 1 + 8 + m ≡ 9 + m = omega arith in rw f (moved m (omega (arith, fits.few))))

      go : (c : ℕ) → count cell ≡ c → messages_at (count (taken cell)) (taken cell) 1 ≡ tail (messages_at (count cell) cell 1)
      go zero e = absurd (omega arith)
      go (suc c) e = let f : count (taken cell) ≡ c = omega (arith, taken-count) in rw (f, e) (rest c e)

  pub taken-fits : CellFits (taken cell)
  taken-fits = record {
    wide = wide;
    few = omega (arith, taken-count, fits.few);
    deltas = λ k l. delta k l (dec_lt k 7);
    unused = λ j l h. unused j l h (dec_lt j 56);
  }
    where
      wide : length (taken cell) ≡ cell_width
      wide = unfold taken in omega (arith, length-append (drop 9 cell) (replicate 8 0), length-drop 9 cell, length-replicate {A = ℕ} 8 0, fits.wide)

      delta : (k : ℕ) → k < 8 → Dec (k < 7) → get_or (taken cell) (1 + (k * 8 + 3)) 0 < 4294967296
      delta k l (yes q) =
          let e : 9 + (k * 8 + 3) ≡ 1 + (suc k * 8 + 3) = omega arith in
          rw (moved (k * 8 + 3) (omega arith), e) (fits.deltas (suc k) (omega arith))
      delta k l (no q) = rw (freed (k * 8 + 3) (omega arith) (omega arith)) (omega arith)

      unused : (j : ℕ) → count (taken cell) * 8 ≤ j → j < 64 → Dec (j < 56) → get_or (taken cell) (1 + j) 0 ≡ 0
      unused j l h (yes q) =
          let e : 9 + j ≡ 1 + (8 + j) = omega arith in
          moved j q ∙ ap (λ (x : ℕ). get_or cell x 0) e ∙ fits.unused (8 + j) (omega (arith, taken-count)) (omega arith)
      unused j l h (no q) = freed j (omega arith) h

-- ---- without messages

zero_word : (j : ℕ) → j < 65 → get_or emptied j 0 ≡ 0
zero_word j l = get_or-replicate 65 j 0 0 l

pub queue-emptied : queue emptied ≡ []
unfolding queue messages_at
queue-emptied = refl

pub emptied-fits : CellFits emptied
emptied-fits = record {
  wide = length-replicate {A = ℕ} 65 0;
  few = omega arith;
  deltas = λ k l. rw (zero_word (1 + (k * 8 + 3)) (omega arith)) (omega arith);
  unused = λ j l h. zero_word (1 + j) (omega arith);
}
