-- Event calls on a network of n nodes, by the meaning: one with another n is refused with 1. A means of proof (proofs/RunLaws.antt).
use Rattle.std.specs.Prelude.{ℕ, cond, eqb}
use Rattle.calls.specs.History.{State, advance}
use Rattle.protocol.specs.Answer.{Said, said_refused}
use Rattle.protocol.specs.Refusal.{answer}
use Rattle.refusal.specs.Refusal.{why}
use Rattle.election.specs.RunOn.{EventCall}

abbrev pub called : ℕ → State → EventCall → State
called n s c = cond (eqb c.size n) (advance n s c.event) s

abbrev pub said_to : ℕ → State → EventCall → Said
said_to n s c = cond (eqb c.size n) (answer n s.network c.event) (said_refused (why 1 0 0))
