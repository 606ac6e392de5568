-- Lists of calls on a network, by the meaning: the state stays good, and a restore gives back the network of the save whose bytes it is handed.
-- Images are a parameter here. Assumes that a save writes one, that one of a sound network whose times make sense is read as it, and that a refused reading
-- changes nothing.
use Prim.Native.Nat.{ℕ}
use mathlib.Core.Bool.{true}
use mathlib.Core.List.{List}
use mathlib.Core.Path.{◌≡◌, sym, ap, ◌∙◌}
use lib.Dec.{eqb}
use borrow.Author.Tests.{eqb-true, ne_eqb}
use Rattle.basics.proofs.AllOf.{AllOf, none, more}
use Rattle.basics.proofs.Tests.{Choice, yes!, no!, choice}
use Rattle.protocol.specs.Answer.{Said}
use Rattle.protocol.specs.Holds.{sound}
use Rattle.protocol.specs.Network.{Node, Network, fresh, own, restrict}
use Rattle.protocol.specs.Times.{timely}
use Rattle.protocol.proofs.Holding.{sound-holds, timely-holds}
use Rattle.protocol.proofs.Restrict.{restrict-is}
use Rattle.protocol.proofs.RuleLaws.{by_cases}
use Rattle.refusal.specs.Outcome.{Outcome}
use Rattle.calls.specs.Component.{Quiescent, OneLeader}
use Rattle.calls.specs.History.{up_in, waiting, Told, State, advance}
use Rattle.calls.specs.Run.{Call, Saved, RunState, start_of_run, saved_at, last_save, stepped_to, keeping}
use Rattle.calls.specs.Run.{act, Fair, fair_event, fair_save, fair_saved, fair_refused}
use Rattle.calls.specs.inner.Meant.{meant}
use Rattle.calls.proofs.Good.{Good, good-started, good-advance}
use Rattle.calls.proofs.Leaders.{quiet-leader}
use Rattle.calls.proofs.SavesLaws.{found}

-- what is promised of a state: the history tells what the network holds, and a quiet network has one leader in each component
pub record Promise (n : ℕ) (s : State) : Type 0 where
  pub told : Told s.history s.network
  pub leader : Quiescent n (up_in s.history) (waiting s.history)
      → (u : ℕ) → Node n u → OneLeader n (up_in s.history) (own s.network) u

pub good-promise : (n : ℕ) (s : State) → Good n s → Promise n s
good-promise n s g = record { told = g.told; leader = quiet-leader n s g }

-- the network and the history, now and at a save
abbrev pub state_of : RunState Network → State
state_of w = record { network = w.now; history = w.history }

abbrev pub state_at : Saved Network → State
state_at s = record { network = s.at; history = s.history }

module _ (write : ℕ → List ℕ → Network → Outcome ℕ (List ℕ)) (read : List ℕ → Network → Outcome ℕ Network) (n : ℕ)
    (ImageOf : Network → List ℕ → Type 0)
    (writes : (m : ℕ) (out : List ℕ) (p : Network) → (write m out p).said ≡ 0 → ImageOf p (write m out p).after)
    (reads : (p : Network) (b : List ℕ) → sound n p ≡ true → restrict n p ≡ p → timely n p ≡ true → ImageOf p b
    → (q : Network) → read b q ≡ record { said = 0; after = p })
    (kept : (b : List ℕ) (q : Network) → sound n q ≡ true → restrict n q ≡ q → ((read b q).said ≡ 0 → ⊥) → (read b q).after ≡ q) where
  -- a save holds an image of a good state
  pub record Imaged (s : Saved Network) : Type 0 where
    pub good : Good n (state_at s)
    pub image : ImageOf s.at s.bytes

  pub record Sane (w : RunState Network) : Type 0 where
    pub good : Good n (state_of w)
    pub saves : AllOf Imaged w.saves

  -- a restore of an earlier save's bytes gives the network at that save
  pub read-saved : (w : RunState Network) (b : List ℕ) (s : Saved Network) → Sane w → last_save b w.saves ≡ saved_at s
      → (q : Network) → read b q ≡ record { said = 0; after = s.at }
  read-saved w b s sane e q =
      let f = found Imaged b w.saves sane.saves s e in
      let g = f.1.good in
      ap (λ (x : List ℕ). read x q) (sym f.0)
      ∙ reads s.at s.bytes (sound-holds n s.at g.fits) (restrict-is n s.at g.fits) (timely-holds n s.at g.timed) f.1.image q

  -- a refused one leaves the network
  pub read-refused : (w : RunState Network) (b : List ℕ) → Sane w → ((read b w.now).said ≡ 0 → ⊥) → (read b w.now).after ≡ w.now
  read-refused w b sane d =
      let fits = sane.good.fits in
      kept b w.now (sound-holds n w.now fits) (restrict-is n w.now fits) d

  pub act-sane : (w : RunState Network) (c : Call) → Sane w → Fair (meant write read n) w c → Sane (act (meant write read n) w c)
  unfolding advance
  act-sane w c s (fair_event m e) =
      by_cases (λ (o : Outcome Said Network). Sane (stepped_to (λ p. p.clock) w e o)) (eqb m n) _ _
      (λ i. record { good = good-advance n (state_of w) e s.good; saves = s.saves }) (λ i. s)
  act-sane w c s (fair_save m out) = record { good = s.good; saves = go (choice (eqb (write m out w.now).said 0)) }
    where
      go : Choice (eqb (write m out w.now).said 0) → AllOf Imaged (keeping w (write m out w.now))
      go (no! i) = rw i s.saves
      go (yes! i) =
          rw i (more (record { good = s.good; image = writes m out w.now (eqb-true (write m out w.now).said 0 i) }) s.saves)
  act-sane w c s (fair_refused b d) = rw (read-refused w b s d, ne_eqb (read b w.now).said 0 d) s
  act-sane w c s (fair_saved b t e) =
      rw (read-saved w b t s e w.now, e) (record { good = (found Imaged b w.saves s.saves t e).1.good; saves = s.saves })

  pub start-sane : Sane (start_of_run fresh)
  start-sane = record { good = good-started n; saves = none }
