-- A restore by what the header, the sizes and the checks answer: 10, 11, 1, 2, 12, or the tables of the image's records.
use Prim.Native.Nat.{ℕ, ◌≤◌}
use native.Mathlib.Omega.{arith}
use mathlib.Core.Bool.{true, false}
use mathlib.Core.List.{List}
use mathlib.Core.Path.{◌≡◌, sym, ap, ◌∙◌}
use borrow.Author.Tests.{eq-eqb, ne_eqb}
use Rattle.std.specs.Prelude.{Result, Err}
use Rattle.basics.proofs.Tests.{clash}
use Rattle.bits.specs.Bits.{field, unpacked}
use Rattle.image.specs.Places.{tables_in}
use Rattle.image_reading.specs.Examine.{examined}
use Rattle.image_reading.specs.inner.Cells.{Walkable}
use Rattle.image_reading.specs.Header.{header_of, no_fields}
use Rattle.image_reading.specs.declared.Fields.{Fields}
use Rattle.refusal.specs.Outcome.{Answered, accepted, outcome, said_as}
use Rattle.refusal.specs.Refusal.{why, why_of}
use Rattle.refusal.specs.declared.Refusal.{Refusal}
use Rattle.refusal.specs.declared.Why.{Why}
use Rattle.refusal.proofs.RefusalLaws.{never-0}
use Rattle.tables.specs.Tables.{Tables, sized}
use Rattle.image_snapshot.specs.Restore.{restore_examined, restore_of, restore_headed, restore_on}
use Rattle.image.specs.Widths.{header_length, depth_width}
use Rattle.image_snapshot.proofs.AcceptedLaws.{header-good, examined-good}

-- ---- the header

-- one that `let .. else` turns away is not good
pub refused : {h : Result Fields Refusal} {r : Refusal} → h ≡ Err r → (said_as no_fields h).why.number ≡ 0 → ⊥
refused {h} {r} e z =
    clash (eq-eqb (why_of r).number 0 (ap (λ (x : Result Fields Refusal). (said_as no_fields x).why.number) (sym e) ∙ z)) (never-0 r)

pub headed-refused : (xs : List ℕ) (t : Tables) {s : Answered Fields} → s ≡ header_of xs → (s.why.number ≡ 0 → ⊥) → {w : Why} → w ≡ s.why
    → outcome w t ≡ restore_on xs t
unfolding restore_on restore_headed
headed-refused xs t {s} e d q = rw (← e, ne_eqb s.why.number 0 d, q)

pub headed-good : (xs : List ℕ) (t : Tables) {f : Fields} → accepted f ≡ header_of xs → restore_of f.n (unpacked xs) t ≡ restore_on xs t
unfolding restore_on restore_headed
headed-good xs t e = ap (restore_headed (unpacked xs) t) e

pub record GoodFields (f : Fields) : Type 0 where
  pub length-is : f.length ≡ 32
  pub low : 1 ≤ f.n
  pub few : f.n ≤ 16

pub good-fields : (xs : List ℕ) {f : Fields} → accepted f ≡ header_of xs → GoodFields f
good-fields xs {f} says =
    let g = header-good xs (sym (ap (λ (s : Answered Fields). s.why.number) says)) in
    let nodes : f.n ≡ field xs 16 5 = ap (λ (s : Answered Fields). s.value.n) (says ∙ g.is) in
    record { length-is = ap (λ (s : Answered Fields). s.value.length) (says ∙ g.is) ∙ g.header; low = omega arith; few = omega arith }

-- ---- behind it

module _ (n : ℕ) (l : List ℕ) where
  -- nothing is at fault: all stands inside the image
  pub sound-walks : n ≤ 16 → why 0 0 0 ≡ examined header_length depth_width n l → Walkable header_length depth_width n l
  sound-walks few e = (examined-good n l few (ap (λ (c : Why). c.number) (sym e))).walkable

  module _ (t : Tables) (fit : sized n t ≡ true) where
    pub of-refused : (r : Refusal) → why_of r ≡ examined header_length depth_width n l → outcome (why_of r) t ≡ restore_of n l t
    unfolding restore_of restore_examined
    of-refused r e = rw (fit, ← e, never-0 r)

    pub of-done : why 0 0 0 ≡ examined header_length depth_width n l → outcome (why 0 0 0) (tables_in header_length depth_width n l) ≡ restore_of n l t
    unfolding restore_of restore_examined
    of-done e = rw (fit, ← e)

pub of-sizes : (n : ℕ) (l : List ℕ) (t : Tables) → sized n t ≡ false → outcome (why 1 0 0) t ≡ restore_of n l t
unfolding restore_of
of-sizes n l t e = rw e
