-- A walk over the pairs u, v that finds the first of them to fail a test: what holds at the head of each of its two loops. For tables and for images.
-- `kept` is what was found before. A fault ends the walk, so none is kept (0 0 0); of the untimely pairs the first one is.
use Prim.Native.Nat.{ℕ, suc, ◌+◌, ◌-◌, ◌≤◌, ◌<◌}
use native.Mathlib.Numerals.{add-one}
use native.Mathlib.Omega.{arith}
use mathlib.Core.Bool.{Bool, true, false, cond}
use mathlib.Core.Path.{◌≡◌, refl, ap, sym, ◌∙◌}
use lib.Dec.{eqb}
use borrow.Author.Tests.{ne_eqb}
use Rattle.std.specs.Prelude.{Result, Ok, Err, ⊤}
use Rattle.std.specs.Result.{result_and}
use Rattle.basics.proofs.Tests.{Choice, yes!, no!, choice}
use Rattle.pairs.specs.declared.Finding.{Finding}
use Rattle.pairs.specs.declared.Finding.TheVariants.{Good, Untimely, Faulty}
use Rattle.pairs.specs.inner.Findings.{finding}
use Rattle.pairs.proofs.PairLaws.{found-faulty, found-good, found-untimely}
use Rattle.refusal.specs.Refusal.{why}
use Rattle.refusal.specs.declared.Refusal.{Refusal}
use Rattle.refusal.specs.declared.Refusal.TheVariants as reason
use Rattle.refusal.specs.declared.Why.{Why}
use Rattle.refusal.proofs.RefusalLaws.{never-0}
use Rattle.lent.specs.Check.{fault_in_row, fault_from, or_else, said_check}

-- ---- what was found first

or_assoc : (a b c : Why) → or_else (or_else a b) c ≡ or_else a (or_else b c)
or_assoc a b c = go (choice (eqb a.number 0))
  where
    go : Choice (eqb a.number 0) → or_else (or_else a b) c ≡ or_else a (or_else b c)
    go (yes! e) = rw e
    go (no! e) = rw (e, e)

-- ---- the untimely pair that is kept

abbrev pub none_late : Result ⊤ Refusal
none_late = Ok tt

-- nothing behind it
pub late-or-none : (l : Result ⊤ Refusal) → or_else (said_check l) (why 0 0 0) ≡ said_check l
late-or-none (Ok _) = refl
late-or-none (Err r) = rw (never-0 r)

-- one search behind another
pub kept-late : (l m : Result ⊤ Refusal) → said_check (result_and l m) ≡ or_else (said_check l) (said_check m)
kept-late (Ok _) m = refl
kept-late (Err r) m = rw (never-0 r)

-- ---- one row

-- with pair v of row u next: what was kept before the row (base) or else its first is what is kept now or else the first from v on
pub record Row (number : ℕ) (s : ℕ → ℕ → Bool) (n u : ℕ) (base kept : Why) (v : ℕ) : Type 0 where
  pub same : or_else base (fault_in_row number s u 1 n) ≡ or_else kept (fault_in_row number s u v (n + 1 - v))

module _ (number : ℕ) (s : ℕ → ℕ → Bool) (n u : ℕ) where
  row-start : (base : Why) → Row number s n u base base 1
  row-start base = record { same = ap (λ (k : ℕ). or_else base (fault_in_row number s u 1 k)) (omega arith) }

  module _ (v : ℕ) {base kept : Why} (r : Row number s n u base kept v) where
    pair : v ≤ n → fault_in_row number s u v (n + 1 - v) ≡ cond (s u v) (fault_in_row number s u (v + 1) (n + 1 - (v + 1))) (why number u v)
    unfolding fault_in_row
    pair h =
        let k : n + 1 - v ≡ suc (n + 1 - (v + 1)) = omega arith in
        rw (k, add-one v)

    -- the pair passed, or is kept if nothing was before
    row_next : v ≤ n → {next : Why} → next ≡ or_else kept (cond (s u v) (why 0 0 0) (why number u v)) → (number ≡ 0 → ⊥)
        → Row number s n u base next (v + 1)
    row_next h {next} q some = record {
      same = r.same ∙ here (choice (s u v)) ∙ sym (or_assoc kept (cond (s u v) (why 0 0 0) (why number u v)) after) ∙ ap (λ (w : Why). or_else w after) (sym q);
    }
      where
        after : Why
        after = fault_in_row number s u (v + 1) (n + 1 - (v + 1))

        here : Choice (s u v) → or_else kept (fault_in_row number s u v (n + 1 - v)) ≡ or_else kept (or_else (cond (s u v) (why 0 0 0) (why number u v)) after)
        here (yes! e) = rw (pair h, e)
        here (no! e) = rw (pair h, e, ne_eqb number 0 some)

    row-end : n < v → or_else base (fault_in_row number s u 1 n) ≡ or_else kept (why 0 0 0)
    unfolding fault_in_row
    row-end h = let past : n + 1 - v ≡ 0 = omega arith in r.same ∙ rw past

    row-found : v ≤ n → s u v ≡ false → or_else base (fault_in_row number s u 1 n) ≡ or_else kept (why number u v)
    row-found h e = r.same ∙ rw (pair h, e)

-- ---- all rows

-- with row u next: the first of all pairs is what was kept, or else that of the rows from u on
pub record Rows (number : ℕ) (s : ℕ → ℕ → Bool) (n : ℕ) (kept : Why) (u : ℕ) : Type 0 where
  pub same : fault_from number s n 1 n ≡ or_else kept (fault_from number s n u (n + 1 - u))

module _ (number : ℕ) (s : ℕ → ℕ → Bool) (n : ℕ) where
  rows_start : Rows number s n (why 0 0 0) 1
  rows_start = record { same = ap (fault_from number s n 1) (omega arith) }

  module _ (u : ℕ) {base : Why} (r : Rows number s n base u) where
    open_row : u ≤ n
        → fault_from number s n 1 n ≡ or_else (or_else base (fault_in_row number s u 1 n)) (fault_from number s n (u + 1) (n + 1 - (u + 1)))
    unfolding fault_from
    open_row h =
        let k : n + 1 - u ≡ suc (n + 1 - (u + 1)) = omega arith in
        r.same ∙ rw (k, add-one u) (sym (or_assoc base (fault_in_row number s u 1 n) (fault_from number s n (suc u) (n + 1 - suc u))))

    rows_next : u ≤ n → {kept : Why} → or_else base (fault_in_row number s u 1 n) ≡ or_else kept (why 0 0 0) → Rows number s n kept (u + 1)
    rows_next h {kept} e = record {
      same = open_row h ∙ rw e (or_assoc kept (why 0 0 0) (fault_from number s n (u + 1) (n + 1 - (u + 1))));
    }

    rows-found : u ≤ n → {w : Why} → or_else base (fault_in_row number s u 1 n) ≡ w → eqb w.number 0 ≡ false → fault_from number s n 1 n ≡ w
    rows-found h e some = open_row h ∙ rw (e, some)

    rows_end : n < u → fault_from number s n 1 n ≡ or_else base (why 0 0 0)
    unfolding fault_from
    rows_end h = let k : n + 1 - u ≡ 0 = omega arith in r.same ∙ rw k

-- ---- both tests in one walk: no fault so far, and `late` is the first untimely pair, if there was one

module _ (s t : ℕ → ℕ → Bool) (n : ℕ) where
  pub record BothRow (u : ℕ) (base late : Result ⊤ Refusal) (v : ℕ) : Type 0 where
    pub sound : Row 2 s n u (why 0 0 0) (why 0 0 0) v
    pub timely : Row 18 t n u (said_check base) (said_check late) v

  pub both-row : (u : ℕ) (base : Result ⊤ Refusal) → BothRow u base base 1
  both-row u base = record { sound = row-start 2 s n u (why 0 0 0); timely = row-start 18 t n u (said_check base) }

  module _ (u : ℕ) (base late : Result ⊤ Refusal) (v : ℕ) (r : BothRow u base late v) where
    -- what is found of the pair u, v
    module _ (h : v ≤ n) {g : Finding} (is : g ≡ finding (s u v) (t u v)) where
      sound-next : s u v ≡ true → Row 2 s n u (why 0 0 0) (why 0 0 0) (v + 1)
      sound-next e = row_next 2 s n u v r.sound h (rw e) (λ z. omega arith)

      pub both-next : g ≡ Good → BothRow u base late (v + 1)
      both-next e =
          let both = found-good (s u v) (t u v) is e in
          record {
            sound = sound-next both.0;
            timely = row_next 18 t n u v r.timely h (rw both.1 (sym (late-or-none late))) (λ z. omega arith);
          }

      -- untimely: kept, if nothing was before
      pub both-late : g ≡ Untimely → {next : Result ⊤ Refusal} → next ≡ result_and late (Err (reason.Untimely u v)) → BothRow u base next (v + 1)
      both-late e q =
          let both = found-untimely (s u v) (t u v) is e in
          record {
            sound = sound-next both.0;
            timely = row_next 18 t n u v r.timely h (ap said_check q ∙ rw both.1 (kept-late late (Err (reason.Untimely u v)))) (λ z. omega arith);
          }

      pub both-fault : g ≡ Faulty → fault_in_row 2 s u 1 n ≡ why 2 u v
      both-fault e = row-found 2 s n u v r.sound h (found-faulty (s u v) (t u v) is e)

    pub both_end : n < v → (fault_in_row 2 s u 1 n ≡ why 0 0 0) × (or_else (said_check base) (fault_in_row 18 t u 1 n) ≡ or_else (said_check late) (why 0 0 0))
    both_end h = (row-end 2 s n u v r.sound h, row-end 18 t n u v r.timely h)

  pub record BothRows (late : Result ⊤ Refusal) (u : ℕ) : Type 0 where
    pub sound : Rows 2 s n (why 0 0 0) u
    pub timely : Rows 18 t n (said_check late) u

  pub all_start : BothRows none_late 1
  all_start = record { sound = rows_start 2 s n; timely = rows_start 18 t n }

  module _ (u : ℕ) (base : Result ⊤ Refusal) (r : BothRows base u) where
    pub all-next : u ≤ n → (late : Result ⊤ Refusal) → fault_in_row 2 s u 1 n ≡ why 0 0 0
        → or_else (said_check base) (fault_in_row 18 t u 1 n) ≡ or_else (said_check late) (why 0 0 0) → BothRows late (u + 1)
    all-next h late e l = record { sound = rows_next 2 s n u r.sound h e; timely = rows_next 18 t n u r.timely h l }

    pub all-fault : u ≤ n → {w : Why} → fault_in_row 2 s u 1 n ≡ w → eqb w.number 0 ≡ false → w ≡ or_else (fault_from 2 s n 1 n) (fault_from 18 t n 1 n)
    all-fault h {w} e some = rw (rows-found 2 s n u r.sound h e some, some)

    pub all_end : n < u → said_check base ≡ or_else (fault_from 2 s n 1 n) (fault_from 18 t n 1 n)
    all_end h = rw (rows_end 2 s n u r.sound h, rows_end 18 t n u r.timely h) (sym (late-or-none base))
