-- A node's record: read from the byte on in which it starts, and by what the tests before it answer.
use Prim.Native.Nat.{ℕ, suc, ◌+◌, ◌-◌, ◌*◌, ◌/◌, ◌%◌, ◌^◌, ◌≤◌, ◌<◌}
use native.Mathlib.Omega.{arith}
use mathlib.Core.Bool.{Bool, true, false, not, ◌||◌}
use mathlib.Core.List.{List}
use mathlib.Core.Path.{◌≡◌, ap, ◌∙◌}
use borrow.Author.Tests.{eqb-true, ltb-false, not-false}
use lib.Dec.{eqb, ltb}
use lib.ListN.{length, take, drop}
use Rattle.basics.proofs.Tests.{neither_left, neither_right}
use Rattle.bits.specs.Bits.{number, unpacked}
use Rattle.image.specs.Places.{field_in, height_from, heights_from}
use Rattle.image.specs.Widths.{record_of, height_width, node_width}
use Rattle.image.specs.inner.Parts.{Inside}
use Rattle.image.proofs.Bounds.{node-small}
use Rattle.image.proofs.PartCalls.{rest-length}
use Rattle.refusal.specs.Outcome.{Answered, Outcome, accepted, outcome}
use Rattle.refusal.specs.Refusal.{why}
use Rattle.tables.proofs.RowsLaws.{rest-is}
use Rattle.tables.proofs.RowsMore.{rows_same}
use Rattle.image_reader.specs.Fields.{stands_in}
use Rattle.image_reader.specs.Record.{unread, record_in, node_inside, node_on}
use Rattle.image_reader.specs.declared.NodeRecord.{NodeRecord}
use Rattle.image_reader.proofs.FieldLaws.{from_byte, fits}

-- the first 64 bits of a record that stands inside the bytes
pub head-inside : (xs : List ℕ) (at n : ℕ) → Inside xs at (node_width 16 n) → (at + 64 < 2 ^ 32) × (at + 64 ≤ 8 * length xs)
unfolding node_width
head-inside xs at n h = (omega (arith, h.small), omega (arith, h.inside))

-- ---- from the byte on in which the record starts

module _ (xs : List ℕ) (k p at : ℕ) (e : 8 * k + p ≡ at) where
  field-from : (a w : ℕ) → field_in (unpacked (drop k xs)) (p + a) w ≡ field_in (unpacked xs) (at + a) w
  unfolding field_in
  field-from a w = ap (λ (l : List ℕ). number (take w l)) (from_byte xs k (p + a) (at + a) (omega (arith, e)))

  heights-from : (n : ℕ) → heights_from 16 n (unpacked (drop k xs)) p ≡ heights_from 16 n (unpacked xs) at
  unfolding heights_from height_from
  heights-from n =
      rows_same n (λ v. record_of 16 7 (drop (p + 64 + (v - 1) * height_width 16) (unpacked (drop k xs))))
      (λ v. record_of 16 7 (drop (at + 64 + (v - 1) * height_width 16) (unpacked xs)))
      (λ i l. ap (record_of 16 7) (from_byte xs k (p + 64 + (suc i - 1) * height_width 16) (at + 64 + (suc i - 1) * height_width 16) (omega (arith, e))))

  clock-from : field_in (unpacked (drop k xs)) p 32 ≡ field_in (unpacked xs) at 32
  unfolding field_in
  clock-from = ap (λ (l : List ℕ). number (take 32 l)) (from_byte xs k p at e)

  record-from : (n : ℕ) → record_in n (unpacked (drop k xs)) p ≡ record_in n (unpacked xs) at
  unfolding record_in
  record-from n = λ i.
      outcome (accepted (record { clock = record { 0 = clock-from i }; neighbors = field-from 32 16 i; forming = field-from 48 16 i })) (heights-from n i)

-- the record stands inside what is left from its first byte on
pub rest-inside : (n : ℕ) (xs : List ℕ) (at : ℕ) → n ≤ 16 → at + node_width 16 n ≤ 8 * length xs
    → Inside (take (length xs - at / 8) (drop (at / 8) xs)) (at % 8) (node_width 16 n)
rest-inside n xs at few h = record { small = omega (arith, node-small 16 n (omega arith) few); inside = omega (arith, h, rest-length (at / 8) xs) }

pub rest_read : (n : ℕ) (xs : List ℕ) (at : ℕ) {s : Outcome (Answered NodeRecord) (List ℕ)}
    → s ≡ record_in n (unpacked (take (length xs - at / 8) (drop (at / 8) xs))) (at % 8)
    → s ≡ record_in n (unpacked xs) at
rest_read n xs at h =
    let a : 8 * (at / 8) + at % 8 ≡ at = omega arith in
    h ∙ ap (λ (ys : List ℕ). record_in n (unpacked ys) (at % 8)) (rest-is (at / 8) xs) ∙ record-from xs (at / 8) (at % 8) at a n

-- ---- 12, else the record

module _ (n : ℕ) (xs : List ℕ) (at : ℕ) (row : List ℕ) {r : Bool} (answers : r ≡ stands_in xs at (node_width 16 n)) where
  inside_is : {b : Bool} → not r ≡ b → not (stands_in xs at (node_width 16 n)) ≡ b
  inside_is e = rw (← answers) e

  pub node-short : not r ≡ true → unread (why 12 0 0) row ≡ node_inside n xs at row
  unfolding node_inside
  node-short e = rw (inside_is e)

  pub node-inside : not r ≡ false → at + node_width 16 n ≤ 8 * length xs
  node-inside e = (fits xs at (node_width 16 n) answers e).1

  pub node-read : {s : Outcome (Answered NodeRecord) (List ℕ)} → not r ≡ false → s ≡ record_in n (unpacked xs) at → s ≡ node_inside n xs at row
  unfolding node_inside
  node-read e h = rw (inside_is e) h

-- ---- 1, else on

pub sizes-are : (n : ℕ) (row : List ℕ) → ((ltb n 1 || ltb 16 n) || not (eqb (length row) (n * 7))) ≡ false → (n ≤ 16) × (length row ≡ n * 7)
sizes-are n row e = (
  ltb-false 16 n (neither_right (ltb n 1) (ltb 16 n) (neither_left (ltb n 1 || ltb 16 n) (not (eqb (length row) (n * 7))) e)),
  eqb-true (length row) (n * 7) (not-false (eqb (length row) (n * 7)) (neither_right (ltb n 1 || ltb 16 n) (not (eqb (length row) (n * 7))) e)),
)

module _ (n : ℕ) (xs : List ℕ) (at : ℕ) (row : List ℕ) where
  pub node-sizes : ((ltb n 1 || ltb 16 n) || not (eqb (length row) (n * 7))) ≡ true → unread (why 1 0 0) row ≡ node_on n xs at row
  unfolding node_on
  node-sizes e = rw e

  pub node-sized : {s : Outcome (Answered NodeRecord) (List ℕ)} → ((ltb n 1 || ltb 16 n) || not (eqb (length row) (n * 7))) ≡ false
      → s ≡ node_inside n xs at row → s ≡ node_on n xs at row
  unfolding node_on
  node-sized e h = rw e h
