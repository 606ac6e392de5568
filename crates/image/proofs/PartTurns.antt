-- A loop over n records of m words, w bits apart: what holds before each turn, after one more, and at the end.
-- A height has 7 words, a message 8.
use Prim.Native.Nat.{ℕ, ◌+◌, ◌-◌, ◌*◌, ◌^◌, ◌≤◌, ◌<◌}
use native.Mathlib.Nat.{zero-mul, suc-mul, mul_comm, le_refl}
use native.Mathlib.Numerals.{add-one}
use native.Mathlib.Omega.{arith}
use mathlib.Core.List.{List, [], ◌++◌, append_assoc, append-nil}
use mathlib.Core.Path.{◌≡◌, refl, sym, ap, ap₂, ◌∙◌}
use lib.ListN.{length, take, drop, replicate, length-append, length-drop, length-replicate, replicate-append-replicate, drop_of_length-le}
use lib.Seq.{take_at, drop_at, drop-drop}
use Rattle.bits.specs.Bits.{unpacked}
use Rattle.bits.specs.inner.Written.{written, RoomFor}
use Rattle.bits.proofs.Bytes.{length-written, written_none, written-written}
use Rattle.bits.proofs.Numbers.{Below}
use Rattle.tables.specs.Records.{slot_words}
use Rattle.tables.specs.Rows.{rows, row_at}
use Rattle.tables.proofs.RowsLaws.{row_fits, product_le, part-row}
use Rattle.image.specs.Places.{height_from, messages_of, heights_from}
use Rattle.image.specs.inner.Parts.{records_from, Inside, Depth, RecordRun, records_bits}
use Rattle.image.specs.Widths.{widths_of, record_bits, record_of, height_width, message_width, node_width}
use Rattle.image.proofs.FieldPlaces.{height-place, message-place}
use Rattle.image.proofs.PartLaws.{length-records-from, records-from-more, slots-run}
use Rattle.image.proofs.PartLaws.{length-row-at, below-records-bits, length-records-bits, records-bits-more}
use Rattle.image.proofs.RecordLaws.{room, length-record-bits}

pub heights : {d n : ℕ} {xs ws : List ℕ} {at : ℕ} → Depth d × (n ≤ 16) × (length ws ≡ n * 7) × Inside xs at (n * height_width d)
    → RecordRun d 7 (height_width d) n xs ws at
heights {d} h =
    record { depth = h.0; least = omega arith; most = omega arith; bits = height-place d; few = h.1; words = omega arith; inside = h.3 }

-- the heights behind the clock and the sets
pub behind-sets : (d n : ℕ) {xs : List ℕ} {at : ℕ} → Inside xs at (node_width d n) → Inside xs (at + 64) (n * height_width d)
unfolding node_width
behind-sets d n i = record {
  small = omega (arith, mul_comm n (height_width d));
  inside = omega (arith, mul_comm n (height_width d));
}

pub node-heights : {d n : ℕ} {xs ws : List ℕ} {at : ℕ} → Depth d × (n ≤ 16) × (length ws ≡ n * 7) × Inside xs at (node_width d n)
    → RecordRun d 7 (height_width d) n xs ws (at + 64)
node-heights {d} {n} h = heights (h.0, h.1, h.2, behind-sets d n h.3)

pub messages : {d c : ℕ} {xs ws : List ℕ} {at : ℕ} → Depth d × (c ≤ 8) × (length ws ≡ 64) × Inside xs at (c * message_width d)
    → RecordRun d 8 (message_width d) c xs ws at
messages {d} h =
    record { depth = h.0; least = omega arith; most = omega arith; bits = message-place d; few = omega arith; words = omega arith; inside = h.3 }

-- k of n records are put: bytes and place after them
pub record Putting (d m w n : ℕ) (ws start : List ℕ) (at place k : ℕ) (xs : List ℕ) : Type 0 where
  pub count : k ≤ n
  pub here : place ≡ at + k * w
  pub size : length xs ≡ length start
  pub bytes : xs ≡ written start at (records_bits d m k ws)

-- k of n records are got: words and place after them
pub record Getting (d m w n : ℕ) (l start : List ℕ) (at place k : ℕ) (ws : List ℕ) : Type 0 where
  pub count : k ≤ n
  pub here : place ≡ at + k * w
  pub size : length ws ≡ length start
  pub words : ws ≡ records_from d m w k l at ++ drop (k * m) start

-- the words of record k, and of all
pub words-in : {d m w n : ℕ} {xs ws : List ℕ} {at : ℕ} → RecordRun d m w n xs ws at → {k : ℕ} → k < n → (k * m + m ≤ length ws) × (k * m + m ≤ 128)
words-in {m = m} {n = n} r {k} h = omega (arith, row_fits m k n h, r.words, product_le n m {a = 16} {b = 8} r.few r.most)

next_place : (at place k w : ℕ) → place ≡ at + k * w → place + w ≡ at + (k + 1) * w
next_place at place k w e = omega (arith, ap (λ (x : ℕ). x * w) (add-one k), suc-mul k w)

-- ---- putting

module _ {d m w n : ℕ} {start ws : List ℕ} {at : ℕ} (r : RecordRun d m w n start ws at) where
  pub put-start : Below 256 start → Putting d m w n ws start at at 0 start
  unfolding records_bits rows
  put-start b =
      record { count = omega arith; here = omega (arith, zero-mul w); size = refl; bytes = sym (written_none start at b (omega arith)) }

  module _ {place k : ℕ} {xs : List ℕ} (p : Putting d m w n ws start at place k xs) where
    pub put-done : n ≤ k → xs ≡ written start at (records_bits d m n ws)
    put-done h = let e : k ≡ n = omega arith in p.bytes ∙ ap (λ (x : ℕ). written start at (records_bits d m x ws)) e

    module _ (h : k < n) where
      -- the place behind the record is inside
      pub put-fits : (place + w ≤ 8 * length xs) × (place + w < 2 ^ 31)
      put-fits = omega (arith, row_fits w k n h)

      -- the words are `&ws[a..e]`
      module _ {a e : ℕ} (starts : a ≡ k * m) (ends : e ≡ a + m) where
        abbrev us : List ℕ
        us = take (e - a) (drop a ws)

        row : us ≡ row_at m k ws
        row = part-row m k ws starts ends

        wide : length us ≡ m
        wide = ap length row ∙ length-row-at m n k ws r.words h

        pub put-room : RoomFor xs place (take (length (take (e - a) (drop a ws))) (widths_of d))
            × ((7 ≤ length (take (e - a) (drop a ws))) × (length (take (e - a) (drop a ws)) ≤ 8))
        put-room = rw wide (room xs place d m w r.depth.high r.bits (omega (arith, put-fits)) put-fits.0, (r.least, r.most))

        pub put_next : {ys : List ℕ} → ys ≡ written xs place (record_bits d (take (e - a) (drop a ws)))
            → Putting d m w n ws start at (place + w) (k + 1) ys
        put_next {ys} q = record {
          count = omega arith;
          here = next_place at place k w p.here;
          size = ap length q ∙ length-written xs place (record_bits d us) ∙ p.size;
          bytes = q ∙ ap₂ (λ (x : List ℕ) (y : ℕ). written x y (record_bits d us)) p.bytes p.here ∙ one;
        }
          where
            done : length (records_bits d m k ws) ≡ k * w
            done =
                length-records-bits d m k ws r.most (omega (arith, product_le k m p.count (le_refl m)))
                ∙ ap (λ (x : ℕ). k * x) r.bits

            more : length (record_bits d us) ≡ w
            more = length-record-bits d m r.most us wide ∙ r.bits

            one : written (written start at (records_bits d m k ws)) (at + k * w) (record_bits d us) ≡ written start at (records_bits d m (k + 1) ws)
            one =
                written-written start at (records_bits d m k ws) (record_bits d us) (at + k * w) (below-records-bits d m k ws) (omega (arith, done))
                (omega (arith, more, row_fits w k n h, r.inside.inside))
                ∙ ap (λ (x : List ℕ). written start at (records_bits d m k ws ++ record_bits d x)) row
                ∙ ap (written start at) (sym (records-bits-more d m k ws))
                ∙ ap (λ (x : ℕ). written start at (records_bits d m x ws)) (sym (add-one k))

-- ---- getting

module _ {d m w n : ℕ} {xs start : List ℕ} {at : ℕ} (r : RecordRun d m w n xs start at) where
  pub get-start : Getting d m w n (unpacked xs) start at at 0 start
  unfolding records_from rows
  get-start = record { count = omega arith; here = omega (arith, zero-mul w); size = refl; words = rw (zero-mul m) refl }

  module _ {place k : ℕ} {ws : List ℕ} (p : Getting d m w n (unpacked xs) start at place k ws) where
    pub get-done : n ≤ k → ws ≡ records_from d m w n (unpacked xs) at ++ drop (n * m) start
    get-done h = let e : k ≡ n = omega arith in p.words ∙ ap (λ (x : ℕ). records_from d m w x (unpacked xs) at ++ drop (x * m) start) e

    module _ (h : k < n) where
      pub get-fits : (place + w ≤ 8 * length xs) × (place + w < 2 ^ 31)
      get-fits = omega (arith, row_fits w k n h)

      -- the words are `&mut ws[a..e]`, and come back as `got`
      module _ {a e : ℕ} (starts : a ≡ k * m) (ends : e ≡ a + m) where
        got-wide : length (take (e - a) (drop a ws)) ≡ m
        got-wide = ap length (part-row m k ws starts ends) ∙ length-row-at m n k ws (omega arith) h

        pub get-room : RoomFor xs place (take (length (take (e - a) (drop a ws))) (widths_of d))
            × (((7 ≤ length (take (e - a) (drop a ws))) × (length (take (e - a) (drop a ws)) ≤ 8)) × (1 ≤ d))
        get-room =
            rw got-wide
            (room xs place d m w r.depth.high r.bits (omega (arith, get-fits)) get-fits.0, ((r.least, r.most), r.depth.low))

        pub get-next : {got : List ℕ} → got ≡ record_of d (length (take (e - a) (drop a ws))) (drop place (unpacked xs))
            → Getting d m w n (unpacked xs) start at (place + w) (k + 1) (take a ws ++ (got ++ drop (e - a) (drop a ws)))
        get-next {got} q = record {
          count = omega arith;
          here = next_place at place k w p.here;
          size = ap length one ∙ all;
          words = one;
        }
          where
            l : List ℕ
            l = unpacked xs

            run : List ℕ
            run = records_from d m w k l at

            done : length run ≡ k * m
            done = length-records-from d m w k l at r.most

            next : k * m + m ≡ (k + 1) * m
            next = omega (arith, ap (λ (x : ℕ). x * m) (add-one k), suc-mul k m)

            word : got ≡ record_of d m (drop (at + k * w) l)
            word = q ∙ ap₂ (λ (x y : ℕ). record_of d x (drop y l)) got-wide p.here

            part : e - a ≡ m
            part = omega arith

            front : take a ws ≡ run
            front = ap₂ take starts p.words ∙ take_at run (drop (k * m) start) (k * m) done

            back : drop (e - a) (drop a ws) ≡ drop ((k + 1) * m) start
            back =
                ap₂ (λ (x y : ℕ). drop x (drop y ws)) part starts
                ∙ ap (λ (x : List ℕ). drop m (drop (k * m) x)) p.words ∙ ap (drop m) (drop_at run (drop (k * m) start) (k * m) done)
                ∙ drop-drop m (k * m) start ∙ ap (λ (x : ℕ). drop x start) next

            grown : records_from d m w (k + 1) l at ≡ run ++ record_of d m (drop (at + k * w) l)
            grown = ap (λ (x : ℕ). records_from d m w x l at) (add-one k) ∙ records-from-more d m w k l at

            one : take a ws ++ (got ++ drop (e - a) (drop a ws)) ≡ records_from d m w (k + 1) l at ++ drop ((k + 1) * m) start
            one =
                ap₂ (λ (x y : List ℕ). x ++ (got ++ y)) front back
                ∙ ap (λ (x : List ℕ). run ++ (x ++ drop ((k + 1) * m) start)) word
                ∙ sym (append_assoc run (record_of d m (drop (at + k * w) l)) (drop ((k + 1) * m) start))
                ∙ ap (λ (x : List ℕ). x ++ drop ((k + 1) * m) start) (sym grown)

            all : length (records_from d m w (k + 1) l at ++ drop ((k + 1) * m) start) ≡ length start
            all =
                length-append (records_from d m w (k + 1) l at) (drop ((k + 1) * m) start)
                ∙ ap₂ (λ (x y : ℕ). x + y) (length-records-from d m w (k + 1) l at r.most) (length-drop ((k + 1) * m) start)
                ∙ omega (arith, row_fits m k n h, r.words, next)

-- ---- the whole: a node's heights, and a channel's messages before zero words

pub heights-done : (d n : ℕ) (l : List ℕ) (at : ℕ) (start : List ℕ) {ws : List ℕ} → length start ≡ n * 7
    → ws ≡ records_from d 7 (height_width d) n l (at + 64) ++ drop (n * 7) start → ws ≡ heights_from d n l at
unfolding heights_from height_from records_from
heights-done d n l at start z e =
    let none : drop (n * 7) start ≡ [] = drop_of_length-le start {i = n * 7} (omega arith) in
    e ∙ ap (λ (x : List ℕ). records_from d 7 (height_width d) n l (at + 64) ++ x) none
    ∙ append-nil (records_from d 7 (height_width d) n l (at + 64))

drop-zeros : (a b : ℕ) → drop a (replicate (a + b) 0) ≡ replicate {A = ℕ} b 0
drop-zeros a b =
    ap (drop a) (sym (replicate-append-replicate {A = ℕ} a b 0))
    ∙ drop_at (replicate a 0) (replicate b 0) a (length-replicate {A = ℕ} a 0)

pub no-messages : (d c : ℕ) (l : List ℕ) (at : ℕ) {ws : List ℕ} → c ≡ 0 → ws ≡ replicate 64 0 → ws ≡ slot_words 8 (messages_of d c (drop at l))
unfolding slot_words messages_of
no-messages d c l at none z = rw none z

pub messages-done : (d c : ℕ) (l : List ℕ) (at : ℕ) {ws zeros : List ℕ} → c ≤ 8 → zeros ≡ replicate 64 0
    → ws ≡ records_from d 8 (message_width d) c l at ++ drop (c * 8) zeros → ws ≡ slot_words 8 (messages_of d c (drop at l))
messages-done d c l at h z e =
    let q : 64 ≡ c * 8 + (8 - c) * 8 = omega arith in
    e
    ∙ ap (λ (x : List ℕ). records_from d 8 (message_width d) c l at ++ drop (c * 8) x) (z ∙ ap (λ (x : ℕ). replicate {A = ℕ} x 0) q)
    ∙ ap (λ (x : List ℕ). records_from d 8 (message_width d) c l at ++ x) (drop-zeros (c * 8) ((8 - c) * 8))
    ∙ sym (slots-run d 8 c l at h)
