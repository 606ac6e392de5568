-- The set in an answer holds exactly the nodes sent to: an accepted event sends to nodes 1 to n alone.
-- Assumes that the network is sound, by facts (Soundness.antt).
use Prim.Native.Nat.{ℕ}
use native.Mathlib.Omega.{arith}
use mathlib.Core.Bool.{true, ◌||◌}
use mathlib.Core.List.{List, [], ◌∷◌}
use mathlib.Core.Logic.{◌⊎◌, inl, inr}
use mathlib.Core.Path.{◌≡◌, refl, sym, ap, ◌∙◌}
use Rattle.basics.proofs.FunctionsLaws.{update-at}
use Rattle.basics.proofs.Tests.{not-true-is-false}
use Rattle.nodeset.specs.NodeSet.{member, set_of}
use Rattle.nodeset.proofs.Members.{member-set_of-all}
use Rattle.protocol.specs.Answer.{Said}
use Rattle.protocol.specs.Network.{Node, Message, Network, up_to}
use Rattle.protocol.specs.Refusal.{accepts, answer}
use Rattle.protocol.specs.Step.{Event, up, down, receive, home, peer, sends, Local, carried, local_up}
use Rattle.protocol.specs.Step.{local_down, local_ignored, local_taken, local_receipt, local, commit, step}
use Rattle.protocol.proofs.Accepted.{Accepted, peer-node}
use Rattle.protocol.proofs.RuleLaws.{by_cases}
use Rattle.protocol.proofs.Said.{rule-said}
use Rattle.protocol.proofs.Soundness.{Fits, sends-in, either}
use Rattle.protocol.proofs.StepFits.{step_fits}

-- every event sends by its rule
abbrev SentBy : ℕ → Local → ℕ → Type 0
SentBy v l w = l.sent w ≡ sends v l.rule w (l.neighbors w || l.forming w)

local-sent : (n : ℕ) (p : Network) (e : Event) (w : ℕ) → SentBy (peer e) (local n p e) w
unfolding local_up local_down local_taken local_ignored carried
local-sent n p (up u v) w = refl
local-sent n p (down u v) w = refl
local-sent n p (receive v u) w = go (p.channel v u)
  where
    go : (q : List Message) → SentBy v (local_receipt n p u v q) w
    go [] = refl
    go (m ∷ ms) =
        by_cases (λ l. SentBy v l w) (up_to p u v) (local_taken n p u v m) (local_ignored n p u v m.timestamp) (λ i. refl) (λ i. refl)

module _ (n : ℕ) (p : Network) (e : Event) (fits : Fits n p) (ok : Accepted n p e) where
  sent-node : (w : ℕ) → (local n p e).sent w ≡ true → Node n w
  unfolding step commit
  sent-node w s = go (sends-in (peer e) (local n p e).rule w _ (sym (local-sent n p e w) ∙ s))
    where
      after : Fits n (step n p e)
      after = step_fits n p e fits ok

      in_n : (local n p e).neighbors w ≡ true → Node n w
      in_n i = (after.nodes (home e)).in_n w (rw (update-at p.neighbors (home e) (local n p e).neighbors) i)

      in_f : (local n p e).forming w ≡ true → Node n w
      in_f i = (after.nodes (home e)).in_f w (rw (update-at p.forming (home e) (local n p e).forming) i)

      go : (((local n p e).neighbors w || (local n p e).forming w) ≡ true) ⊎ (w ≡ peer e) → Node n w
      go (inl i) = either ((local n p e).neighbors w) ((local n p e).forming w) i in_n in_f
      go (inr q) = rw q (peer-node n p e ok)

  pub sent-member : (w : ℕ) → member (set_of n (local n p e).sent) w ≡ (local n p e).sent w
  sent-member w =
      member-set_of-all n (local n p e).sent
      (not-true-is-false ((local n p e).sent 0) (λ s. absurd (omega (arith, (sent-node 0 s).low))))
      (λ j h. not-true-is-false ((local n p e).sent j) (λ s. absurd (omega (arith, (sent-node j s).high))))
      w

-- what an accepted event says it sent to
pub answer-sent : (n : ℕ) (p : Network) (e : Event) → accepts n p e ≡ true → (answer n p e).value.sent_to ≡ set_of n (local n p e).sent
unfolding answer
answer-sent n p e ok = rw ok (ap (λ (s : Said). s.value.sent_to) (rule-said (local n p e).rule (set_of n (local n p e).sent)))
