-- Lists of event calls from `fresh`, each call with its own n: the tables say and hold what the meaning says and holds,
-- so what `protocol` proves of grown networks holds for tables. Assumes 1 to 16 nodes.
use Prim.Native.Nat.{ℕ, suc, ◌+◌, ◌-◌, ◌*◌, ◌<◌, ◌≤◌}
use native.Mathlib.Omega.{arith}
use mathlib.Core.Bool.{Bool, true, false, and-false}
use mathlib.Core.List.{List, [], ◌∷◌}
use mathlib.Core.Logic.{◌⊎◌, inl, inr}
use mathlib.Core.Path.{◌≡◌, refl, sym}
use lib.Dec.{eqb, ltb}
use borrow.Author.Tests.{eq-eqb, ne_eqb, ltb-true, ltb-false}
use Rattle.basics.specs.Functions.{after_all, say_all}
use Rattle.basics.proofs.Tests.{equal?}
use Rattle.calls.specs.History.{State, started, advance}
use Rattle.calls.proofs.Good.{Good, good-started, good-advance}
use Rattle.calls.proofs.Runs.{Promise, good-promise}
use Rattle.calls.proofs.Theorems.{Steady, good-steady}
use Rattle.lent.proofs.CheckLaws.{check-sizes}
use Rattle.lent.proofs.SoundNetworks.{sound-check}
use Rattle.protocol.specs.Answer.{said_refused}
use Rattle.protocol.specs.Refusal.{answer, next}
use Rattle.protocol.specs.Step.{Event}
use Rattle.protocol.proofs.Holding.{sound-holds, timely-holds}
use Rattle.protocol.proofs.RuleLaws.{by_cases}
use Rattle.refusal.specs.Outcome.{outcome}
use Rattle.refusal.specs.Refusal.{why}
use Rattle.tables.specs.Load.{load, tables_of}
use Rattle.tables.specs.Tables.{sized, width}
use Rattle.tables.proofs.Back.{Storable, storable, load-back, tables-sized}
use Rattle.election.specs.RunOn.{EventCall, tables_left, said_on}
use Rattle.election.specs.inner.Meant.{called, said_to}
use Rattle.election.specs.StepOn.{step_at, step_checked, step_on}

-- tables of n nodes are tables of no other number of nodes
grows : (n k : ℕ) → n * (3 + 7 * n) < (n + suc k) * (3 + 7 * (n + suc k))
grows n k = omega arith

width_one : (n m : ℕ) → n * width n ≡ m * width m → m ≡ n
width_one n m e = go (ltb n m) (ltb m n) refl refl
  where
    go : (a b : Bool) → ltb n m ≡ a → ltb m n ≡ b → m ≡ n
    go true b p q =
        let k = m - suc n in
        let w : m ≡ n + suc k = omega (arith, ltb-true n m p) in
        absurd (omega (arith, e, rw (← w) at (grows n k)))
    go false true p q =
        let k = n - suc m in
        let w : n ≡ m + suc k = omega (arith, ltb-true m n q) in
        absurd (omega (arith, e, rw (← w) at (grows m k)))
    go false false p q = omega (arith, ltb-false n m p, ltb-false m n q)

-- ---- one call

module _ (n : ℕ) (low : 1 ≤ n) (few : n ≤ 16) (s : State) (good : Good n s) where
  fits : Storable n s.network
  fits = storable n s.network good.fits

  pub own-call : (e : Event) → step_on n e (tables_of n s.network) ≡ outcome (answer n s.network e) (tables_of n (next n s.network e))
  unfolding step_on step_checked step_at
  own-call e = rw (sound-check n s.network fits (sound-holds n s.network good.fits) (timely-holds n s.network good.timed) low few, load-back n s.network fits)

  pub not-sized : (m : ℕ) → (m ≡ n → ⊥) → sized m (tables_of n s.network) ≡ false
  unfolding sized
  not-sized m d =
      let size = tables-sized n s.network low few in
      rw (size.nodes, ne_eqb (n * width n) (m * width m) (λ q. d (width_one n m q)), and-false, and-false)

  other-call : (m : ℕ) (e : Event) → (m ≡ n → ⊥)
      → step_on m e (tables_of n s.network) ≡ outcome (said_refused (why 1 0 0)) (tables_of n s.network)
  unfolding step_on step_checked
  other-call m e d = rw (sym (check-sizes m (tables_of n s.network) (not-sized m d)))

  pub one-call : (c : EventCall)
      → step_on c.size c.event (tables_of n s.network) ≡ outcome (said_to n s c) (tables_of n (called n s c).network)
  unfolding advance
  one-call c = go (equal? c.size n)
    where
      go : (c.size ≡ n) ⊎ (c.size ≡ n → ⊥)
          → step_on c.size c.event (tables_of n s.network) ≡ outcome (said_to n s c) (tables_of n (called n s c).network)
      go (inl q) = rw (q, eq-eqb n n refl) (own-call c.event)
      go (inr d) = rw (ne_eqb c.size n d) (other-call c.size c.event d)

  call-good : (c : EventCall) → Good n (called n s c)
  call-good c = by_cases (Good n) (eqb c.size n) (advance n s c.event) s (λ i. good-advance n s c.event good) (λ i. good)

-- ---- lists of calls

-- after a list of calls: the same answers, the same tables, the same network, and what `protocol` shows of it
pub record SameRun (n : ℕ) (s : State) (cs : List EventCall) : Type 0 where
  pub answers-are : say_all tables_left said_on (tables_of n s.network) cs ≡ say_all (called n) (said_to n) s cs
  pub tables-are : after_all tables_left (tables_of n s.network) cs ≡ tables_of n (after_all (called n) s cs).network
  pub network-is : load n (after_all tables_left (tables_of n s.network) cs) ≡ (after_all (called n) s cs).network
  pub steady : Steady n (after_all (called n) s cs).network
  pub promise : Promise n (after_all (called n) s cs)

same-run : (n : ℕ) → 1 ≤ n → n ≤ 16 → (s : State) → Good n s → (cs : List EventCall) → SameRun n s cs
same-run n low few s g [] =
    record {
      answers-are = refl;
      tables-are = refl;
      network-is = load-back n s.network (storable n s.network g.fits);
      steady = good-steady n s g;
      promise = good-promise n s g;
    }
same-run n low few s g (c ∷ cs) =
    let one = one-call n low few s g c in
    let more = same-run n low few (called n s c) (call-good n low few s g c) cs in
    record {
      answers-are = rw (tables_left, said_on, one, more.answers-are);
      tables-are = rw (tables_left, one) more.tables-are;
      network-is = rw (tables_left, one) more.network-is;
      steady = more.steady;
      promise = more.promise;
    }

-- from `fresh`; what `fresh` fills is `tables_of n fresh`
pub run-from-fresh : (n : ℕ) → 1 ≤ n → n ≤ 16 → (cs : List EventCall) → SameRun n started cs
run-from-fresh n low few cs = same-run n low few started (good-started n) cs
