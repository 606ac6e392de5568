-- Bits inside an image's bytes, and a field read from the byte on in which it starts.
use Prim.Native.Nat.{ℕ, ◌+◌, ◌-◌, ◌*◌, ◌/◌, ◌%◌, ◌^◌, ◌≤◌, ◌<◌, min}
use native.Mathlib.Omega.{arith}
use mathlib.Core.Bool.{Bool, true, false, not, ◌||◌}
use mathlib.Core.List.{List}
use mathlib.Core.Path.{◌≡◌, sym, ap, ◌∙◌}
use borrow.Author.Tests.{lt-ltb, le-ltb, le-leb, lt-leb, leb-true, ltb-true, ltb-false, leb-false, not-false}
use lib.Dec.{leb, ltb}
use lib.ListN.{length, take, drop}
use lib.Seq.{drop-drop}
use Rattle.basics.proofs.Tests.{Choice, yes!, no!, choice, and_left, and_right, neither_left, neither_right}
use Rattle.bits.specs.Bits.{number, unpacked, field}
use Rattle.bits.proofs.Bytes.{unpacked-drop}
use Rattle.refusal.specs.Outcome.{accepted, outcome, refused_with}
use Rattle.refusal.specs.Refusal.{why}
use Rattle.tables.proofs.RowsLaws.{rest-is}
use Rattle.image_reader.specs.Fields.{stands_in, take_on}

-- ---- bits inside the bytes

pub past_words : (xs : List ℕ) (at w : ℕ) → 2 ^ 64 ≤ at + w → false ≡ stands_in xs at w
unfolding stands_in
past_words xs at w h = rw (le-ltb (at + w) (2 ^ 64) h)

-- bytes up to the end of a place are as many as hold it
pub bytes-hold : (xs : List ℕ) (at w : ℕ) → at + w < 2 ^ 64 → leb ((at + w) / 8 + min 1 ((at + w) % 8)) (length xs) ≡ stands_in xs at w
unfolding stands_in
bytes-hold xs at w h = rw (lt-ltb (at + w) (2 ^ 64) h) (go (at + w) (length xs) (choice (leb (at + w) (8 * length xs))))
  where
    go : (e n : ℕ) → Choice (leb e (8 * n)) → leb (e / 8 + min 1 (e % 8)) n ≡ leb e (8 * n)
    go e n (yes! q) = let l = leb-true e (8 * n) q in rw (q, le-leb (e / 8 + min 1 (e % 8)) n (omega (arith, l)))
    go e n (no! q) = let l = leb-false e (8 * n) q in rw (q, lt-leb (e / 8 + min 1 (e % 8)) n (omega (arith, l)))

pub within-is : (xs : List ℕ) (at w : ℕ) → stands_in xs at w ≡ true → (at + w < 2 ^ 64) × (at + w ≤ 8 * length xs)
unfolding stands_in
within-is xs at w e = (
  ltb-true (at + w) (2 ^ 64) (and_left (ltb (at + w) (2 ^ 64)) (leb (at + w) (8 * length xs)) e),
  leb-true (at + w) (8 * length xs) (and_right (ltb (at + w) (2 ^ 64)) (leb (at + w) (8 * length xs)) e),
)

-- ---- from the byte on in which a place lies

pub from_byte : (xs : List ℕ) (k p at : ℕ) → 8 * k + p ≡ at → drop p (unpacked (drop k xs)) ≡ drop at (unpacked xs)
from_byte xs k p at e =
    ap (drop p) (sym (unpacked-drop k xs))
    ∙ drop-drop p (8 * k) (unpacked xs)
    ∙ ap (λ (i : ℕ). drop i (unpacked xs)) e

-- the field at a place, from the rest of the slice on
pub field-rest : (xs : List ℕ) (at w v : ℕ) → v ≡ field (take (length xs - at / 8) (drop (at / 8) xs)) (at % 8) w → v ≡ field xs at w
unfolding field
field-rest xs at w v h =
    let e : 8 * (at / 8) + at % 8 ≡ at = omega arith in
    h ∙ ap (λ (ys : List ℕ). number (take w (drop (at % 8) (unpacked ys)))) (rest-is (at / 8) xs)
    ∙ ap (λ (l : List ℕ). number (take w l)) (from_byte xs (at / 8) (at % 8) at e)

-- ---- what is said, and the place afterwards

module _ (xs : List ℕ) (at w : ℕ) {r : Bool} (answers : r ≡ stands_in xs at w) where
  -- bits that stand inside, by the test's answer
  pub fits : not r ≡ false → (at + w < 2 ^ 64) × (at + w ≤ 8 * length xs)
  fits e = within-is xs at w (sym answers ∙ not-false r e)

  pub take-refused : (ltb 32 w || not r) ≡ true → outcome (refused_with 0 (why 12 0 0)) at ≡ take_on xs at w
  unfolding take_on
  take-refused e = rw (← answers, e)

  pub take-taken : (v : ℕ) → v ≡ field xs at w → (ltb 32 w || not r) ≡ false → outcome (accepted v) (at + w) ≡ take_on xs at w
  unfolding take_on
  take-taken v h e = rw (← answers, e, h)

  pub take-fits : (ltb 32 w || not r) ≡ false → (w ≤ 32) × ((at + w < 2 ^ 64) × (at + w ≤ 8 * length xs))
  take-fits e = (ltb-false 32 w (neither_left (ltb 32 w) (not r) e), fits (neither_right (ltb 32 w) (not r) e))
