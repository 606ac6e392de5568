-- Every event moves its node's clock on, and a receipt, whether its message is used or ignored, past the stamp (document 02, [5]).
use Prim.Native.Nat.{ℕ, ◌<◌}
use native.Mathlib.Omega.{arith}
use mathlib.Core.List.{List, [], ◌∷◌}
use mathlib.Core.Path.{◌≡◌}
use Rattle.protocol.specs.Network.{Message, Network, up_to}
use Rattle.protocol.specs.Step.{Event, up, down, receive, home, Local, carried, local_up, local_down}
use Rattle.protocol.specs.Step.{local_ignored, local_taken, local_receipt, local}
use Rattle.protocol.proofs.RuleLaws.{by_cases}

module _ (n : ℕ) (p : Network) where
  pub moves-on : (e : Event) → p.clock (home e) < (local n p e).clock
  unfolding local_up local_down local_ignored local_taken carried
  moves-on (up u v) = omega arith
  moves-on (down u v) = omega arith
  moves-on (receive v u) = go (p.channel v u)
    where
      go : (q : List Message) → p.clock u < (local_receipt n p u v q).clock
      go [] = omega arith
      go (m ∷ ms) =
          by_cases (λ (l : Local). p.clock u < l.clock) (up_to p u v) (local_taken n p u v m) (local_ignored n p u v m.timestamp)
          (λ _. omega arith) (λ _. omega arith)

  pub past-the-stamp : (v u : ℕ) (m : Message) (ms : List Message) → p.channel v u ≡ m ∷ ms → m.timestamp < (local n p (receive v u)).clock
  unfolding local_ignored local_taken carried
  past-the-stamp v u m ms e =
      rw e (by_cases (λ (l : Local). m.timestamp < l.clock) (up_to p u v) (local_taken n p u v m) (local_ignored n p u v m.timestamp)
      (λ _. omega arith) (λ _. omega arith))
