-- Locality: an event's answer and what it leaves at its node u depend only on u's record, the channels from u and the message
-- received; and it changes nothing else.
use Prim.Native.Nat.{ℕ}
use mathlib.Core.Bool.{true, false, cond}
use mathlib.Core.List.{List, [], ◌∷◌, tail}
use mathlib.Core.Logic.{inl, inr}
use mathlib.Core.Path.{◌≡◌, refl, sym, ap, ◌∙◌}
use borrow.Author.Tests.{eq-eqb}
use Rattle.basics.specs.Functions.{update}
use Rattle.basics.proofs.FunctionsLaws.{update-at, update-off, row-off}
use Rattle.basics.proofs.Tests.{Choice, yes!, no!, choice, SameOrNot, equal?}
use Rattle.protocol.specs.Holds.{is_empty}
use Rattle.protocol.specs.Network.{Message, Network}
use Rattle.protocol.specs.Refusal.{unfit, returned, accepts, answer, next}
use Rattle.protocol.specs.Step.{is_receipt, Event, up, down, receive, home, Local, local_up, local_down, local_ignored}
use Rattle.protocol.specs.Step.{local_taken, local_receipt, local, cleared, post, commit, step}
use Rattle.protocol.proofs.Channels.{cleared-receipt, not-down, cleared-off}
use Rattle.protocol.proofs.RuleLaws.{by_cases}

-- u's record and the channels from u are the same in both
pub record SameAt (u : ℕ) (p q : Network) : Type 0 where
  pub clock : p.clock u ≡ q.clock u
  pub neighbors : p.neighbors u ≡ q.neighbors u
  pub forming : p.forming u ≡ q.forming u
  pub height : p.height u ≡ q.height u
  pub channel : p.channel u ≡ q.channel u

-- the first of some messages, alone
abbrev pub first : List Message → List Message
first [] = []
first (m ∷ ms) = m ∷ []

-- the message received, if one waits; an up or a down receives none
abbrev pub heard : Network → Event → List Message
heard p (up u v) = []
heard p (down u v) = []
heard p (receive v u) = first (p.channel v u)

first-empty : (ms : List Message) → is_empty (first ms) ≡ is_empty ms
first-empty [] = refl
first-empty (m ∷ ms) = refl

module _ (n : ℕ) (p q : Network) where
  same-local : (e : Event) → SameAt (home e) p q → heard p e ≡ heard q e → local n p e ≡ local n q e
  unfolding local_up local_down local_taken local_ignored
  same-local (up u v) s h = rw (s.clock, s.neighbors, s.forming, s.height)
  same-local (down u v) s h = rw (s.clock, s.neighbors, s.forming, s.height)
  same-local (receive v u) s h =
      alone p (p.channel v u) ∙ ap (local_receipt n p u v) h ∙ go (first (q.channel v u)) ∙ sym (alone q (q.channel v u))
    where
      alone : (x : Network) (ms : List Message) → local_receipt n x u v ms ≡ local_receipt n x u v (first ms)
      alone x [] = refl
      alone x (m ∷ ms) = refl

      go : (ms : List Message) → local_receipt n p u v ms ≡ local_receipt n q u v ms
      go [] = rw (s.clock, s.neighbors, s.forming, s.height)
      go (m ∷ ms) = rw (s.clock, s.neighbors, s.forming, s.height)

  same-unfit : (e : Event) → SameAt (home e) p q → heard p e ≡ heard q e → unfit p e ≡ unfit q e
  same-unfit (up u v) s h = rw (s.neighbors, s.forming)
  same-unfit (down u v) s h = rw (s.neighbors, s.forming)
  same-unfit (receive v u) s h = sym (first-empty (p.channel v u)) ∙ ap is_empty h ∙ first-empty (q.channel v u)

  same-cleared : (e : Event) → SameAt (home e) p q → heard p e ≡ heard q e → cleared p e (home e) ≡ cleared q e (home e)
  same-cleared (up u v) s h = s.channel
  same-cleared (down u v) s h =
      update-at p.channel u (update (p.channel u) v [])
      ∙ (ap (λ c. update c v []) s.channel ∙ sym (update-at q.channel u (update (q.channel u) v [])))
  same-cleared (receive v u) s h = go (equal? u v)
    where
      taken : Network → ℕ → List Message
      taken x = update (x.channel v) u (tail (x.channel v u))

      go : SameOrNot u v → update p.channel v (taken p) u ≡ update q.channel v (taken q) u
      go (inl e) =
          let c : p.channel v ≡ q.channel v = rw e at s.channel in
          rw (e, update-at p.channel v, update-at q.channel v) (ap (λ (f : ℕ → List Message). update f v (tail (f v))) c)
      go (inr d) = update-off p.channel v (taken p) u d ∙ (s.channel ∙ sym (update-off q.channel v (taken q) u d))

  same-returned : (e : Event) → SameAt (home e) p q → heard p e ≡ heard q e → returned n p e ≡ returned n q e
  unfolding returned
  same-returned e s h = rw (same-local e s h, same-unfit e s h, same-cleared e s h)

  same-accepts : (e : Event) → SameAt (home e) p q → heard p e ≡ heard q e → accepts n p e ≡ accepts n q e
  unfolding accepts
  same-accepts e s h = rw (same-returned e s h)

  -- ---- the same answer

  pub same_answer : (e : Event) → SameAt (home e) p q → heard p e ≡ heard q e → answer n p e ≡ answer n q e
  unfolding answer
  same_answer e s h = rw (same-accepts e s h, same-local e s h, same-returned e s h)

  -- ---- the same at u afterwards

  same-commit : (u : ℕ) (l : Local) (c d : ℕ → ℕ → List Message) → c u ≡ d u → SameAt u (commit p u l c) (commit q u l d)
  unfolding commit
  same-commit u l c d e = record {
    clock = update-at p.clock u l.clock ∙ sym (update-at q.clock u l.clock);
    neighbors = update-at p.neighbors u l.neighbors ∙ sym (update-at q.neighbors u l.neighbors);
    forming = update-at p.forming u l.forming ∙ sym (update-at q.forming u l.forming);
    height = update-at p.height u l.row ∙ sym (update-at q.height u l.row);
    channel = update-at c u (sent c) ∙ (ap (λ (f : ℕ → List Message). λ (w : ℕ). post (l.sent w) m (f w)) e ∙ sym (update-at d u (sent d)));
  }
    where
      m : Message
      m = record { height = l.row u; timestamp = l.clock }

      sent : (ℕ → ℕ → List Message) → ℕ → List Message
      sent x w = post (l.sent w) m (x u w)

  pub same_next : (e : Event) → SameAt (home e) p q → heard p e ≡ heard q e → SameAt (home e) (next n p e) (next n q e)
  unfolding next step
  same_next e s h = rw (same-accepts e s h) (go (choice (accepts n q e)))
    where
      go : Choice (accepts n q e) → SameAt (home e) (cond (accepts n q e) (step n p e) p) (cond (accepts n q e) (step n q e) q)
      go (yes! i) = rw (i, same-local e s h) (same-commit (home e) (local n q e) (cleared p e) (cleared q e) (same-cleared e s h))
      go (no! i) = rw i s

-- ---- nothing else changes

-- node a's record is the same in both
pub record SameRecord (a : ℕ) (p q : Network) : Type 0 where
  pub clock : p.clock a ≡ q.clock a
  pub neighbors : p.neighbors a ≡ q.neighbors a
  pub forming : p.forming a ≡ q.forming a
  pub height : p.height a ≡ q.height a

module _ (n : ℕ) (p : Network) (e : Event) where
  pub other-records : (a : ℕ) → (a ≡ home e → ⊥) → SameRecord a (next n p e) p
  unfolding next step commit
  other-records a d =
      by_cases (λ q. SameRecord a q p) (accepts n p e) (step n p e) p
      (λ i. record {
        clock = update-off p.clock (home e) (local n p e).clock a d;
        neighbors = update-off p.neighbors (home e) (local n p e).neighbors a d;
        forming = update-off p.forming (home e) (local n p e).forming a d;
        height = update-off p.height (home e) (local n p e).row a d;
      })
      (λ i. record { clock = refl; neighbors = refl; forming = refl; height = refl })

  -- no channel but those from u and the one received from
  pub other-channels : (a b : ℕ) → (a ≡ home e → ⊥) → is_receipt e a b ≡ false → (next n p e).channel a b ≡ p.channel a b
  unfolding next step commit
  other-channels a b d r =
      by_cases (λ (q : Network). q.channel a b ≡ p.channel a b) (accepts n p e) (step n p e) p
      (λ i. row-off (cleared p e) (home e) sent a b d ∙ cleared-off p e a b (not-down e a b d) r)
      (λ i. refl)
    where
      sent : ℕ → List Message
      sent w = post ((local n p e).sent w) (record { height = (local n p e).row (home e); timestamp = (local n p e).clock }) (cleared p e (home e) w)

-- of the channel received from, an accepted receipt takes the first message and no more
pub received-channel : (n : ℕ) (p : Network) (u v : ℕ) → (v ≡ u → ⊥) → accepts n p (receive v u) ≡ true
    → (next n p (receive v u)).channel v u ≡ tail (p.channel v u)
unfolding next step commit
received-channel n p u v d i =
    rw (i, row-off (cleared p (receive v u)) u _ v u d) (cleared-receipt p (receive v u) v u (rw (eq-eqb v v refl, eq-eqb u u refl)))
