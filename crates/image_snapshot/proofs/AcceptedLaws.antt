-- What an accepted restore shows of its bytes: header, walk, end and contents, and the tables afterwards.
use Prim.Native.Nat.{ℕ, ◌+◌, ◌≤◌, ◌<◌}
use native.Mathlib.Omega.{arith}
use mathlib.Core.Bool.{true, cond, ◌&&◌}
use mathlib.Core.List.{List}
use mathlib.Core.Path.{◌≡◌, refl}
use borrow.Author.Tests.{eq-eqb, eqb-true, eqb-false, leb-true, ltb-true, ltb-false}
use lib.Dec.{eqb, leb, ltb}
use lib.ListN.{length, drop}
use Rattle.basics.proofs.Tests.{Choice, yes!, no!, choice, and_left, and_right, clash}
use Rattle.bits.specs.Bits.{field, number, unpacked}
use Rattle.image.specs.Places.{tables_in}
use Rattle.image.specs.inner.Parts.{image_end}
use Rattle.image_reading.specs.Examine.{after_walk, examined}
use Rattle.image_reading.specs.inner.Cells.{Walkable}
use Rattle.image_reading.specs.Header.{fields_of, header_holds, header_of}
use Rattle.image_reading.specs.Walk.{Walk, walk, ends_at}
use Rattle.std.specs.Prelude.{Ok, Err}
use Rattle.image_reading.proofs.WalkLaws.{walk-accepted}
use Rattle.lent.specs.Check.{contents_on}
use Rattle.refusal.specs.Outcome.{accepted}
use Rattle.refusal.specs.Refusal.{why, why_of}
use Rattle.refusal.proofs.RefusalLaws.{never-0}
use Rattle.tables.specs.Tables.{Tables, sized}
use Rattle.image.specs.Widths.{header_length, depth_width}
use Rattle.image_snapshot.specs.Restore.{restore_examined, restore_of, restore_headed, restore_on}

-- ---- the header

pub record HeaderGood (xs : List ℕ) : Type 0 where
  pub long : 4 ≤ length xs
  pub version : field xs 0 4 ≡ 1
  pub header : field xs 4 12 ≡ 32
  pub low : 1 ≤ field xs 16 5
  pub few : field xs 16 5 ≤ 16
  pub spare : field xs 21 11 ≡ 0
  pub is : header_of xs ≡ accepted (fields_of xs)

pub header-good : (xs : List ℕ) → (header_of xs).why.number ≡ 0 → HeaderGood xs
unfolding header_of header_holds
header-good xs zero = go (choice (ltb (length xs) 4)) (choice (header_holds 1 32 xs)) zero
  where
    go : Choice (ltb (length xs) 4) → Choice (header_holds 1 32 xs) → (header_of xs).why.number ≡ 0 → HeaderGood xs
    go (yes! e) b q = let y : ◌≡◌ {A = ℕ} 10 0 = rw e at q in absurd (omega arith)
    go (no! e) (no! f) q = let y : ◌≡◌ {A = ℕ} 11 0 = rw (e, f) at q in absurd (omega arith)
    go (no! e) (yes! f) q =
        let a = eqb (field xs 0 4) 1 in
        let b = eqb (field xs 4 12) 32 in
        let c = leb 1 (field xs 16 5) in
        let d = leb (field xs 16 5) 16 in
        let z = eqb (field xs 21 11) 0 in
        let abc = and_left (a && b && (c && d)) z f in
        let ab = and_left (a && b) (c && d) abc in
        let cd = and_right (a && b) (c && d) abc in
        record {
          long = ltb-false (length xs) 4 e;
          version = eqb-true (field xs 0 4) 1 (and_left a b ab);
          header = eqb-true (field xs 4 12) 32 (and_right a b ab);
          low = leb-true 1 (field xs 16 5) (and_left c d cd);
          few = leb-true (field xs 16 5) 16 (and_right c d cd);
          spare = eqb-true (field xs 21 11) 0 (and_right (a && b && (c && d)) z f);
          is = rw (e, f);
        }

-- ---- the checks behind it

pub record ExaminedGood (n : ℕ) (l : List ℕ) : Type 0 where
  pub walks : walk header_length depth_width n l ≡ Ok (image_end header_length depth_width n l)
  pub walkable : Walkable header_length depth_width n l
  pub no_more : length l < image_end header_length depth_width n l + 8
  pub pad : number (drop (image_end header_length depth_width n l) l) ≡ 0
  pub no-fault : (contents_on n (tables_in header_length depth_width n l)).number ≡ 0

pub examined-good : (n : ℕ) (l : List ℕ) → n ≤ 16 → (examined header_length depth_width n l).number ≡ 0 → ExaminedGood n l
unfolding examined after_walk ends_at
examined-good n l few zero = go (walk header_length depth_width n l) refl zero
  where
    good : (q : ℕ) → walk header_length depth_width n l ≡ Ok q → Choice (ends_at l q)
        → (cond (ends_at l q) (contents_on n (tables_in header_length depth_width n l)) (why 12 0 0)).number ≡ 0
        → ExaminedGood n l
    good q w (no! e) z = let y : ◌≡◌ {A = ℕ} 12 0 = rw e at z in absurd (omega arith)
    good q w (yes! e) z =
        let both = walk-accepted header_length depth_width n l q (omega arith) (omega arith) few w in
        let near = ltb-true (length l) (q + 8) (and_left (ltb (length l) (q + 8)) (eqb (number (drop q l)) 0) e) in
        let pad = eqb-true (number (drop q l)) 0 (and_right (ltb (length l) (q + 8)) (eqb (number (drop q l)) 0) e) in
        record {
          walks = rw (← both.0) w;
          walkable = both.1;
          no_more = rw (← both.0) near;
          pad = rw (← both.0) pad;
          no-fault = rw e at z;
        }

    go : (w : Walk) → walk header_length depth_width n l ≡ w → (after_walk header_length depth_width n l w).number ≡ 0 → ExaminedGood n l
    go (Ok q) e z = good q e (choice (ends_at l q)) z
    go (Err r) e z = clash (eq-eqb (why_of r).number 0 z) (never-0 r)

-- ---- an accepted restore

pub record RestoreGood (xs : List ℕ) (t : Tables) : Type 0 where
  pub header : HeaderGood xs
  pub fit : sized (field xs 16 5) t ≡ true
  pub contents : ExaminedGood (field xs 16 5) (unpacked xs)
  pub after_is : (restore_on xs t).after ≡ tables_in header_length depth_width (field xs 16 5) (unpacked xs)

pub restore-good : (xs : List ℕ) (t : Tables) → (restore_on xs t).said.number ≡ 0 → RestoreGood xs t
unfolding restore_on restore_headed restore_of restore_examined
restore-good xs t zero = go (choice (eqb (header_of xs).why.number 0)) zero
  where
    good : HeaderGood xs → Choice (sized (field xs 16 5) t) → Choice (eqb (examined header_length depth_width (field xs 16 5) (unpacked xs)).number 0)
        → (restore_of (field xs 16 5) (unpacked xs) t).said.number ≡ 0 → RestoreGood xs t
    good h (no! e) b z = let y : ◌≡◌ {A = ℕ} 1 0 = rw e at z in absurd (omega arith)
    good h (yes! e) (no! f) z =
        let y : (examined header_length depth_width (field xs 16 5) (unpacked xs)).number ≡ 0 = rw e at z in
        absurd (eqb-false (examined header_length depth_width (field xs 16 5) (unpacked xs)).number 0 f y)
    good h (yes! e) (yes! f) z = record {
      header = h;
      fit = e;
      contents = examined-good (field xs 16 5) (unpacked xs) h.few (eqb-true (examined header_length depth_width (field xs 16 5) (unpacked xs)).number 0 f);
      after_is = rw (h.is, e, f);
    }

    go : Choice (eqb (header_of xs).why.number 0) → (restore_headed (unpacked xs) t (header_of xs)).said.number ≡ 0 → RestoreGood xs t
    go (no! e) z = absurd (eqb-false (header_of xs).why.number 0 e (rw e at z))
    go (yes! e) z =
        let h = header-good xs (eqb-true (header_of xs).why.number 0 e) in
        good h (choice (sized (field xs 16 5) t)) (choice (eqb (examined header_length depth_width (field xs 16 5) (unpacked xs)).number 0)) (rw h.is at z)
