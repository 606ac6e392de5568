-- A row and a cell, call by call: fields put one behind the other are the part's bits, and words set before a filled tail are the part read.
use Prim.Native.Nat.{ℕ, ◌+◌, ◌-◌, ◌*◌, ◌≤◌}
use native.Mathlib.Omega.{arith}
use mathlib.Core.List.{List, [], ◌∷◌, ◌++◌, append-nil}
use mathlib.Core.Path.{◌≡◌, refl, sym, ap, ◌∙◌}
use lib.ListN.{length, take, drop, set, length-append, length-drop, length-set, drop_of_length-le}
use Rattle.bits.specs.Bits.{bits, unpacked, field}
use Rattle.bits.specs.inner.Written.{written}
use Rattle.bits.proofs.Bytes.{length-written, written-written}
use Rattle.bits.proofs.Numbers.{below-bits, length-bits}
use Rattle.tables.specs.Cell.{count}
use Rattle.tables.specs.Records.{slot_words, cell_words}
use Rattle.tables.specs.Row.{clock_in, neighbors_in, forming_in}
use Rattle.tables.specs.Rows.{rows}
use Rattle.tables.specs.Tables.{width}
use Rattle.tables.proofs.RowsLaws.{rest-is}
use Rattle.image.specs.Places.{field_in, messages_of, channel_from, heights_from}
use Rattle.image.specs.Widths.{message_width, node_width}
use Rattle.image.specs.inner.Parts.{Inside, Depth, records_bits, row_bits, cell_bits, row_from, cell_from}
use Rattle.image.proofs.ChannelLaws.{length-messages-of}
use Rattle.image.proofs.PartLaws.{length-heights-bits, length-messages-bits}
use Rattle.image.proofs.PartTurns.{behind-sets}

-- ---- the rest of a slice, `&xs[k..]`

pub rest-length : (k : ℕ) (xs : List ℕ) → length (take (length xs - k) (drop k xs)) ≡ length xs - k
rest-length k xs = ap length (rest-is k xs) ∙ length-drop k xs

rest-none : (k : ℕ) (xs : List ℕ) → drop (length xs - k) (drop k xs) ≡ []
rest-none k xs = drop_of_length-le (drop k xs) {i = length xs - k} (simp length-drop (omega arith))

-- ---- bits put

-- what fits bytes fits those after a write
pub inside-after : {xs ys : List ℕ} {at w : ℕ} → length ys ≡ length xs → Inside xs at w → Inside ys at w
inside-after e i = record { small = i.small; inside = omega arith }

-- a field, and bits right behind it
pub put_then : (xs ys zs : List ℕ) (at w v n : ℕ) (cs : List ℕ) → n ≡ at + w → ys ≡ written xs at (bits w v) → zs ≡ written ys n cs
    → n + length cs ≤ 8 * length xs → zs ≡ written xs at (bits w v ++ cs)
put_then xs ys zs at w v n cs e p q h =
    q ∙ ap (λ (x : List ℕ). written x n cs) p
    ∙ written-written xs at (bits w v) cs n (below-bits w v) (omega (arith, length-bits w v)) h

-- the clock, both sets and the heights
pub row_put : (d n : ℕ) (row xs x₁ x₂ x₃ x₄ : List ℕ) (at : ℕ) → length row ≡ width n → Inside xs at (node_width d n)
    → x₁ ≡ written xs at (bits 32 (clock_in row)) → x₂ ≡ written x₁ (at + 32) (bits 16 (neighbors_in row))
    → x₃ ≡ written x₂ (at + 48) (bits 16 (forming_in row)) → x₄ ≡ written x₃ (at + 64) (records_bits d 7 n (take (length row - 3) (drop 3 row)))
    → x₄ ≡ written xs at (row_bits d n row)
unfolding row_bits
row_put d n row xs x₁ x₂ x₃ x₄ at s i p q r t =
    let hs : List ℕ = records_bits d 7 n (drop 3 row) in
    let N : List ℕ = bits 16 (neighbors_in row) in
    let F : List ℕ = bits 16 (forming_in row) in
    let room : at + 64 + length hs ≤ 8 * length xs =
    omega (arith, (behind-sets d n i).inside, length-heights-bits d n (drop 3 row) (simp length-drop (omega arith))) in
    let e₁ : length x₁ ≡ length xs = ap length p ∙ length-written xs at (bits 32 (clock_in row)) in
    let e₂ : length x₂ ≡ length x₁ = ap length q ∙ length-written x₁ (at + 32) N in
    let t₄ : x₄ ≡ written x₃ (at + 64) hs = t ∙ ap (λ (ws : List ℕ). written x₃ (at + 64) (records_bits d 7 n ws)) (rest-is 3 row) in
    let t₃ : x₄ ≡ written x₂ (at + 48) (F ++ hs) =
    put_then x₂ x₃ x₄ (at + 48) 16 (forming_in row) (at + 64) hs (omega arith) r t₄ (omega arith) in
    let t₂ : x₄ ≡ written x₁ (at + 32) (N ++ (F ++ hs)) =
    put_then x₁ x₂ x₄ (at + 32) 16 (neighbors_in row) (at + 48) (F ++ hs) (omega arith) q t₃ (simp (length-append, length-bits) (omega arith)) in
    put_then xs x₁ x₄ at 32 (clock_in row) (at + 32) (N ++ (F ++ hs)) refl p t₂ (simp (length-append, length-bits) (omega arith))

-- the count and the messages
pub cell-put : (d : ℕ) (cell xs x₁ x₂ : List ℕ) (at : ℕ) → length cell ≡ 65 → count cell ≤ 8 → Inside xs at (4 + count cell * message_width d)
    → x₁ ≡ written xs at (bits 4 (count cell)) → x₂ ≡ written x₁ (at + 4) (records_bits d 8 (count cell) (take (length cell - 1) (drop 1 cell)))
    → x₂ ≡ written xs at (cell_bits d cell)
unfolding cell_bits
cell-put d cell xs x₁ x₂ at s h i p q =
    let ms : List ℕ = records_bits d 8 (count cell) (drop 1 cell) in
    let room : at + 4 + length ms ≤ 8 * length xs =
    omega (arith, length-messages-bits d (count cell) (drop 1 cell) (simp length-drop (omega arith))) in
    put_then xs x₁ x₂ at 4 (count cell) (at + 4) ms refl p
    (q ∙ ap (λ (ws : List ℕ). written x₁ (at + 4) (records_bits d 8 (count cell) ws)) (rest-is 1 cell)) room

-- a channel without messages is its count alone
pub cell-empty : (d : ℕ) (cell xs : List ℕ) (at : ℕ) {x : List ℕ} → count cell ≡ 0
    → x ≡ written xs at (bits 4 (count cell)) → x ≡ written xs at (cell_bits d cell)
unfolding cell_bits records_bits rows
cell-empty d cell xs at none p = p ∙ rw none (ap (written xs at) (sym (append-nil (bits 4 0))))

-- ---- words got

pub row-got : (d n : ℕ) (xs row hs : List ℕ) (at x y z : ℕ) → length row ≡ width n
    → x ≡ field xs at 32 → y ≡ field xs (at + 32) 16 → z ≡ field xs (at + 48) 16 → hs ≡ heights_from d n (unpacked xs) at
    → take 3 (set (set (set row 0 x) 1 y) 2 z)
    ++ (hs ++ drop (length (set (set (set row 0 x) 1 y) 2 z) - 3) (drop 3 (set (set (set row 0 x) 1 y) 2 z)))
    ≡ row_from d n (unpacked xs) at
unfolding row_from field field_in
row-got d n xs [] hs at x y z s p q r t = absurd (omega arith)
row-got d n xs (a ∷ []) hs at x y z s p q r t = absurd (omega arith)
row-got d n xs (a ∷ b ∷ []) hs at x y z s p q r t = absurd (omega arith)
row-got d n xs (a ∷ b ∷ c ∷ ws) hs at x y z s p q r t =
    ap (λ (us : List ℕ). x ∷ y ∷ z ∷ (hs ++ us)) (rest-none 3 (x ∷ y ∷ z ∷ ws)) ∙ rw (append-nil hs, p, q, r, t)

-- what the heights' reader requires of the words
pub row-rest : (n : ℕ) (row : List ℕ) (x y z : ℕ) → length row ≡ width n
    → length (take (length (set (set (set row 0 x) 1 y) 2 z) - 3) (drop 3 (set (set (set row 0 x) 1 y) 2 z))) ≡ n * 7
row-rest n row x y z h = rest-length 3 (set (set (set row 0 x) 1 y) 2 z) ∙ simp length-set (omega arith)

pub cell-got : (d : ℕ) (xs cell ms : List ℕ) (at x : ℕ) → length cell ≡ 65
    → x ≡ field xs at 4 → ms ≡ slot_words 8 (messages_of d x (drop (at + 4) (unpacked xs)))
    → take 1 (set cell 0 x) ++ (ms ++ drop (length (set cell 0 x) - 1) (drop 1 (set cell 0 x))) ≡ cell_from d (unpacked xs) at
unfolding cell_from cell_words channel_from field field_in
cell-got d xs [] ms at x s p q = absurd (omega arith)
cell-got d xs (a ∷ ws) ms at x s p q =
    ap (λ (us : List ℕ). x ∷ (ms ++ us)) (rest-none 1 (x ∷ ws))
    ∙ ap (λ (us : List ℕ). x ∷ us) (append-nil ms ∙ q)
    ∙ ap (λ (k : ℕ). k ∷ slot_words 8 (messages_of d x (drop (at + 4) (unpacked xs)))) (sym (length-messages-of d x (drop (at + 4) (unpacked xs))))
    ∙ ap (λ (k : ℕ). cell_words (messages_of d k (drop (at + 4) (unpacked xs)))) p

-- what the messages' reader requires, after the count
pub behind-count : (d : ℕ) (xs cell : List ℕ) (at x : ℕ)
    → Depth d × (length cell ≡ 65) × (field_in (unpacked xs) at 4 ≤ 8) × Inside xs at (4 + field_in (unpacked xs) at 4 * message_width d)
    → x ≡ field xs at 4
    → Depth d × (x ≤ 8) × (length (take (length (set cell 0 x) - 1) (drop 1 (set cell 0 x))) ≡ 64) × Inside xs (at + 4) (x * message_width d)
unfolding field field_in
behind-count d xs cell at x h e =
    let n : x * message_width d ≡ field_in (unpacked xs) at 4 * message_width d = ap (λ (k : ℕ). k * message_width d) e in (
      h.0,
      rw e h.2,
      rest-length 1 (set cell 0 x) ∙ simp length-set (omega arith),
      record { small = omega (arith, n, h.3.small); inside = omega (arith, n, h.3.inside) },
    )
