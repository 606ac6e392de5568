-- Calls on a network of n nodes, by the meaning; how an image is written and read are parameters. A means of proof (proofs/Runs.antt).
use Rattle.std.specs.Prelude.{ℕ, cond, List, eqb}
use Rattle.protocol.specs.Answer.{Said, said_refused}
use Rattle.protocol.specs.Network.{Network}
use Rattle.protocol.specs.Refusal.{answer, next}
use Rattle.protocol.specs.Step.{Event}
use Rattle.refusal.specs.Outcome.{Outcome, outcome}
use Rattle.refusal.specs.Refusal.{why}
use Rattle.calls.specs.Run.{Calls}

module _ (write : ℕ → List ℕ → Network → Outcome ℕ (List ℕ)) (read : List ℕ → Network → Outcome ℕ Network) (n : ℕ) where
  -- an event with another n is refused with 1
  abbrev pub step_meant : ℕ → Event → Network → Outcome Said Network
  step_meant m e p = cond (eqb m n) (outcome (answer n p e) (next n p e)) (outcome (said_refused (why 1 0 0)) p)

  abbrev pub meant : Calls Network
  meant = record { stepped = step_meant; clock = λ m p. p.clock; written = write; resumed = read }
