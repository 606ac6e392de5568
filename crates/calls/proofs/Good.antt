-- Every state grown from the fresh network is good: it keeps the invariant, is within the ranges, its times make sense, its history tells what it holds, and
-- the clocks in it are causal.
-- The theorems read their statements off this one induction.
use Prim.Native.Nat.{ℕ}
use mathlib.Core.List.{List, [], ◌∷◌}
use mathlib.Core.Path.{◌≡◌, refl, sym, ap, ◌∙◌}
use borrow.Author.Tests.{eqb-true}
use lib.Dec.{eqb}
use Rattle.basics.specs.Functions.{after_all}
use Rattle.basics.proofs.Tests.{Choice, yes!, no!, choice}
use Rattle.nodeset.specs.NodeSet.{set_of}
use Rattle.protocol.specs.Answer.{Said}
use Rattle.protocol.specs.Network.{Network}
use Rattle.protocol.specs.Refusal.{returned, accepts, answer, next}
use Rattle.protocol.specs.Step.{Event, local}
use Rattle.protocol.proofs.Accepted.{accepts-accepted}
use Rattle.protocol.proofs.Invariant.{Inv}
use Rattle.protocol.proofs.Said.{rule-said}
use Rattle.protocol.proofs.Soundness.{Fits, fresh-fits}
use Rattle.protocol.proofs.StepFits.{step_fits}
use Rattle.protocol.proofs.StepKeeps.{step_keeps, fresh-inv}
use Rattle.protocol.proofs.Timed.{Timed, fresh-timed}
use Rattle.protocol.proofs.TimedStep.{step-timed}
use Rattle.calls.specs.History.{Told, State, started, advance, grown}
use Rattle.calls.proofs.CausalLaws.{Clocked, clocked-started, event-clocked}
use Rattle.calls.proofs.HistoryLaws.{event-told}

pub record Good (n : ℕ) (s : State) : Type 0 where
  pub inv : Inv n s.network
  pub fits : Fits n s.network
  pub timed : Timed s.network
  pub told : Told s.history s.network
  pub clocked : Clocked s.history s.network

pub good-started : (n : ℕ) → Good n started
good-started n = record {
  inv = fresh-inv n;
  fits = fresh-fits n;
  timed = fresh-timed;
  told = record { ups = λ u v. refl; counts = λ u v. refl };
  clocked = clocked-started;
}

-- the number in an answer is the returned one
pub answer-number : (n : ℕ) (p : Network) (e : Event) → (answer n p e).why.number ≡ returned n p e
unfolding answer accepts
answer-number n p e = go (choice (eqb (returned n p e) 0))
  where
    go : Choice (eqb (returned n p e) 0) → (answer n p e).why.number ≡ returned n p e
    go (yes! i) =
        rw i (ap (λ (s : Said). s.why.number) (rule-said (local n p e).rule (set_of n (local n p e).sent)) ∙ sym (eqb-true (returned n p e) 0 i))
    go (no! i) = rw i

pub good-advance : (n : ℕ) (s : State) (e : Event) → Good n s → Good n (advance n s e)
unfolding advance next accepts
good-advance n s e g = go (choice (accepts n s.network e))
  where
    p : Network
    p = s.network

    said : eqb (answer n p e).why.number 0 ≡ eqb (returned n p e) 0
    said = ap (λ k. eqb k 0) (answer-number n p e)

    go : Choice (accepts n p e) → Good n (advance n s e)
    go (yes! i) =
        let ok = accepts-accepted n p e i in
        rw (i, said ∙ i) (record {
          inv = step_keeps n p e g.inv g.timed ok;
          fits = step_fits n p e g.fits ok;
          timed = step-timed n p e g.fits g.timed ok;
          told = event-told n p s.history e g.fits i ok g.told _;
          clocked = event-clocked n p s.history e g.fits i ok g.told g.clocked;
        })
    go (no! i) = rw (i, said ∙ i) g

pub good-advanced : (n : ℕ) (s : State) (es : List Event) → Good n s → Good n (after_all (advance n) s es)
good-advanced n s [] g = g
good-advanced n s (e ∷ es) g = good-advanced n (advance n s e) es (good-advance n s e g)

pub good-grown : (n : ℕ) (es : List Event) → Good n (grown n es)
good-grown n es = good-advanced n started es (good-started n)
