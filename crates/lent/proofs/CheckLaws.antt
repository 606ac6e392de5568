-- What a check's answer tells: the sizes, and where it is 0 that every pair holds and its times make sense.
use Prim.Native.Nat.{ℕ, zero, suc, ◌+◌, ◌*◌, ◌≤◌, ◌<◌}
use native.Mathlib.Omega.{arith}
use mathlib.Core.Bool.{Bool, true, false, cond, ◌&&◌}
use mathlib.Core.Logic.{◌⊎◌, inl, inr}
use mathlib.Core.Path.{◌≡◌, refl, subst}
use lib.Dec.{eqb, leb}
use lib.ListN.{length}
use borrow.Author.Tests.{leb-true, le-leb, eqb-true, eqb-false, eq-eqb}
use Rattle.basics.proofs.Tests.{Choice, yes!, no!, choice, equal?, and_left, and_right}
use Rattle.protocol.specs.Network.{Node}
use Rattle.refusal.specs.Refusal.{why}
use Rattle.refusal.specs.declared.Why.{Why}
use Rattle.tables.specs.Tables.{Tables, sized, width, cell_width}
use Rattle.tables.specs.inner.Fit.{Sized}
use Rattle.lent.specs.Check.{pair_at, timely_at, fault_in_row, fault_from, or_else, first_fault, first_untimely, contents_on, check_on}

-- ---- the sizes

pub sized-is : (n : ℕ) (t : Tables) → sized n t ≡ true → Sized n t
unfolding sized
sized-is n t e =
    let low = leb 1 n in
    let nodes = eqb (length t.nodes) (n * width n) in
    let channels = eqb (length t.channels) (n * n * cell_width) in
    let rest = and_right (leb n 16) (low && nodes && channels) e in
    let two = and_left (low && nodes) channels rest in
    record {
      low = leb-true 1 n (and_left low nodes two);
      few = leb-true n 16 (and_left (leb n 16) (low && nodes && channels) e);
      nodes = eqb-true (length t.nodes) (n * width n) (and_right low nodes two);
      channels = eqb-true (length t.channels) (n * n * cell_width) (and_right (low && nodes) channels rest);
    }

pub is-sized : (n : ℕ) (t : Tables) → Sized n t → sized n t ≡ true
unfolding sized
is-sized n t s = rw (le-leb n 16 s.few, le-leb 1 n s.low, eq-eqb _ _ s.nodes, eq-eqb _ _ s.channels)

module _ (n : ℕ) (t : Tables) where
  pub check-sizes : sized n t ≡ false → why 1 0 0 ≡ check_on n t
  unfolding check_on
  check-sizes e = rw e

  pub check-pairs : sized n t ≡ true → contents_on n t ≡ check_on n t
  unfolding check_on
  check-pairs e = rw e

-- ---- no fault: every pair holds

or-none : (s rest : Why) → (or_else s rest).number ≡ 0 → (s.number ≡ 0) × (rest.number ≡ 0)
or-none s rest e = go (choice (eqb s.number 0))
  where
    go : Choice (eqb s.number 0) → (s.number ≡ 0) × (rest.number ≡ 0)
    go (yes! q) = (eqb-true s.number 0 q, rw q at e)
    go (no! q) = let z : s.number ≡ 0 = rw q at e in (z, absurd (omega (arith, eqb-false s.number 0 q)))

-- from w on: at w, or past it
split : (P : ℕ → Type 0) (v w : ℕ) → P w → (w < v → P v) → w ≤ v → P v
split P v w here on h = go (equal? w v)
  where
    go : (w ≡ v) ⊎ (w ≡ v → ⊥) → P v
    go (inl e) = subst P e here
    go (inr d) = on (omega arith)

-- pairs that are said with a number other than 0 where they fail
module _ (number : ℕ) (some : number ≡ 0 → ⊥) (s : ℕ → ℕ → Bool) where
  cond-none : (b : Bool) (rest : Why) (u v : ℕ) → (cond b rest (why number u v)).number ≡ 0 → (b ≡ true) × (rest.number ≡ 0)
  cond-none true rest u v e = (refl, e)
  cond-none false rest u v e = absurd (some e)

  row-holds : (u w k : ℕ) → (fault_in_row number s u w k).number ≡ 0 → (v : ℕ) → w ≤ v → v < w + k → s u v ≡ true
  unfolding fault_in_row
  row-holds u w zero e v h q = absurd (omega arith)
  row-holds u w (suc k) e v h q =
      let both = cond-none (s u w) (fault_in_row number s u (suc w) k) u w e in
      split (λ x. s u x ≡ true) v w both.0 (λ l. row-holds u (suc w) k both.1 v l (omega arith)) h

  rows-hold : (n w k : ℕ) → (fault_from number s n w k).number ≡ 0 → (u v : ℕ) → w ≤ u → u < w + k → Node n v → s u v ≡ true
  unfolding fault_from
  rows-hold n w zero e u v h q b = absurd (omega arith)
  rows-hold n w (suc k) e u v h q b =
      let both = or-none (fault_in_row number s w 1 n) (fault_from number s n (suc w) k) e in
      split (λ x. s x v ≡ true) u w (row-holds w 1 n both.0 v b.low (omega (arith, b.high)))
      (λ l. rows-hold n (suc w) k both.1 u v l (omega arith) b) h

-- contents without a fault
module _ (n : ℕ) (t : Tables) (none : (contents_on n t).number ≡ 0) where
  neither : ((first_fault n t).number ≡ 0) × ((first_untimely n t).number ≡ 0)
  unfolding contents_on
  neither = or-none (first_fault n t) (first_untimely n t) none

  module _ (u v : ℕ) (a : Node n u) (b : Node n v) where
    contents-pair : pair_at n t u v ≡ true
    contents-pair =
        rows-hold 2 (λ e. omega arith) (pair_at n t) n 1 n (unfold first_fault in neither.0) u v a.low (omega (arith, a.high)) b

    contents-timely : timely_at n t u v ≡ true
    contents-timely =
        rows-hold 18 (λ e. omega arith) (timely_at n t) n 1 n (unfold first_untimely in neither.1) u v a.low (omega (arith, a.high)) b

module _ (n : ℕ) (t : Tables) (sound : (check_on n t).number ≡ 0) where
  both : (sized n t ≡ true) × ((contents_on n t).number ≡ 0)
  both = go (choice (sized n t)) (unfold check_on in sound)
    where
      go : Choice (sized n t) → (cond (sized n t) (contents_on n t) (why 1 0 0)).number ≡ 0 → (sized n t ≡ true) × ((contents_on n t).number ≡ 0)
      go (yes! q) e = (q, rw q at e)
      go (no! q) e = let z : ◌≡◌ {A = ℕ} 1 0 = rw q at e in absurd (omega arith)

  pub sound-sized : Sized n t
  sound-sized = sized-is n t both.0

  pub sound-pair : (u v : ℕ) → Node n u → Node n v → pair_at n t u v ≡ true
  sound-pair = contents-pair n t both.1

  pub timely-pair : (u v : ℕ) → Node n u → Node n v → timely_at n t u v ≡ true
  timely-pair = contents-timely n t both.1
