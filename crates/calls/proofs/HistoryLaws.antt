-- Up and messages waiting by the history agree with the network, event by event.
-- Assumes that the network is sound, by facts (Soundness.antt).
use Prim.Native.Nat.{ℕ, ◌+◌}
use native.Mathlib.Omega.{arith}
use mathlib.Core.Bool.{Bool, true, false, cond, ◌&&◌, ◌||◌, or-true, and-false}
use mathlib.Core.List.{List, [], ◌∷◌, tail}
use mathlib.Core.Logic.{inl, inr}
use mathlib.Core.Path.{◌≡◌, refl, sym, ap, ◌∙◌}
use lib.Dec.{eqb}
use lib.ListN.{length}
use borrow.Author.Tests.{eq-eqb, ne_eqb}
use Rattle.basics.specs.Functions.{update}
use Rattle.basics.proofs.FunctionsLaws.{update-at, update-off, row_at, row-off}
use Rattle.basics.proofs.Tests.{clash, Choice, yes!, no!, choice, SameOrNot, equal?, both_equal}
use Rattle.height.specs.Height.{zero_height}
use Rattle.nodeset.specs.NodeSet.{digit}
use Rattle.protocol.specs.Holds.{is_empty}
use Rattle.protocol.specs.Network.{Message, Network, up_to}
use Rattle.protocol.specs.Refusal.{accepts, answer}
use Rattle.protocol.specs.Step.{is_down, is_receipt, Event, up, down, receive, home, Local, carried, local_up, local_down}
use Rattle.protocol.specs.Step.{local_ignored, local_taken, local_receipt, local, cleared, post, commit, step}
use Rattle.protocol.proofs.Accepted.{Accepted}
use Rattle.protocol.proofs.Channels.{length-post, cleared-down, cleared-receipt, cleared-off}
use Rattle.protocol.proofs.Kept.{down-silent}
use Rattle.protocol.proofs.RuleLaws.{by_cases}
use Rattle.protocol.proofs.Soundness.{Fits}
use Rattle.calls.specs.History.{History, turned, up_in, is_sending, sent_since, received_since, Told, entry}
use Rattle.calls.proofs.SentSet.{sent-member, answer-sent}

-- ---- what a commit does to sets and channels

-- the message that an event at a sends
abbrev pub sent_by : ℕ → Local → Message
sent_by a l = record { height = l.row a; timestamp = l.clock }

module _ (p : Network) (a : ℕ) (l : Local) (ch : ℕ → ℕ → List Message) where
  up-off : (u v : ℕ) → (u ≡ a → ⊥) → up_to (commit p a l ch) u v ≡ up_to p u v
  unfolding commit
  up-off u v d = simp row-off

  up_at : (v : ℕ) → up_to (commit p a l ch) a v ≡ (l.neighbors v || l.forming v)
  unfolding commit
  up_at v = simp row_at

  pub channel-after : (u v : ℕ) → (commit p a l ch).channel u v ≡ post (eqb u a && l.sent v) (sent_by a l) (ch u v)
  unfolding commit post
  channel-after u v = go (equal? u a)
    where
      go : SameOrNot u a → (commit p a l ch).channel u v ≡ post (eqb u a && l.sent v) (sent_by a l) (ch u v)
      go (inl e) = simp (e, row_at, eq-eqb a a refl)
      go (inr d) = simp (row-off, ne_eqb)

  count-after : (u v : ℕ) → length ((commit p a l ch).channel u v) ≡ digit (eqb u a && l.sent v) + length (ch u v)
  count-after u v = ap length (channel-after u v) ∙ length-post (eqb u a && l.sent v) (sent_by a l) (ch u v)

-- ---- the event's own sets

turned-off : (e : Event) (u v : ℕ) (old : Bool) → (u ≡ home e → ⊥) → turned e u v old ≡ old
turned-off (up a b) u v old d = rw (ne_eqb u a d)
turned-off (down a b) u v old d = rw (ne_eqb u a d)
turned-off (receive b a) u v old d = refl

-- the history says of v what l holds of it
abbrev Says : Bool → Local → ℕ → Type 0
Says is_up l v = is_up ≡ (l.neighbors v || l.forming v)

turned-at : (n : ℕ) (p : Network) (e : Event) (v : ℕ) → Says (turned e (home e) v (up_to p (home e) v)) (local n p e) v
unfolding local_up local_down local_taken local_ignored carried
turned-at n p (up a b) v = go (equal? v b)
  where
    go : SameOrNot v b → Says (cond (eqb a a && eqb v b) true (up_to p a v)) (local_up n p a b) v
    go (inl e) = simp (e, eq-eqb a a refl, eq-eqb b b refl, update-at) (sym (or-true (p.neighbors a b)))
    go (inr d) = simp (eq-eqb a a refl, ne_eqb, update-off)
turned-at n p (down a b) v = go (equal? v b)
  where
    go : SameOrNot v b → Says (cond (eqb a a && eqb v b) false (up_to p a v)) (local_down n p a b) v
    go (inl e) = simp (e, eq-eqb a a refl, eq-eqb b b refl, update-at)
    go (inr d) = simp (eq-eqb a a refl, ne_eqb, update-off)
turned-at n p (receive b a) v = go (p.channel b a)
  where
    taken : (m : Message) → up_to p a b ≡ true → SameOrNot v b → Says (up_to p a v) (local_taken n p a b m) v
    taken m i (inl e) = rw (e, update-at (p.neighbors a) b true) i
    taken m i (inr d) = simp update-off

    go : (q : List Message) → Says (up_to p a v) (local_receipt n p a b q) v
    go [] = refl
    go (m ∷ ms) =
        by_cases (λ l. Says (up_to p a v) l v) (up_to p a b) (local_taken n p a b m) (local_ignored n p a b m.timestamp)
        (λ i. taken m i (equal? v b)) (λ i. refl)

-- ---- the event's own channels

tail-count : (ms : List Message) → is_empty ms ≡ false → length (tail ms) + 1 ≡ length ms
tail-count [] h = clash refl h
tail-count (m ∷ ms) h = omega arith

-- a down of u, v sends v nothing
pub down-sends : (n : ℕ) (p : Network) (e : Event) (u v : ℕ) → is_down e u v ≡ true → (local n p e).sent v ≡ false
unfolding local_down carried
down-sends n p (up a b) u v h = clash h refl
down-sends n p (receive b a) u v h = clash h refl
down-sends n p (down a b) u v h =
    simp ((both_equal u a v b h).1, update-at) (down-silent n a b (update (p.neighbors a) b false) (update (p.height a) b zero_height))

-- a receipt at v from u finds a message
receipt-some : (n : ℕ) (p : Network) (e : Event) → Accepted n p e → (u v : ℕ) → is_receipt e u v ≡ true → is_empty (p.channel u v) ≡ false
receipt-some n p (up a b) ok u v h = clash h refl
receipt-some n p (down a b) ok u v h = clash h refl
receipt-some n p (receive b a) ok u v h = let q = both_equal u b v a h in rw (q.0, q.1) ok.fits

-- without a down, only a receipt takes from the channel
cleared-count : (n : ℕ) (p : Network) (e : Event) → Accepted n p e → (u v : ℕ) → is_down e u v ≡ false
    → length (cleared p e u v) + digit (is_receipt e u v) ≡ length (p.channel u v)
cleared-count n p e ok u v h = go (choice (is_receipt e u v))
  where
    go : Choice (is_receipt e u v) → length (cleared p e u v) + digit (is_receipt e u v) ≡ length (p.channel u v)
    go (yes! r) = rw (r, cleared-receipt p e u v r) (tail-count (p.channel u v) (receipt-some n p e ok u v r))
    go (no! r) = rw (r, cleared-off p e u v h r) (omega arith)

pub event-told : (n : ℕ) (p : Network) (h : History) (e : Event) → Fits n p → accepts n p e ≡ true → Accepted n p e
    → Told h p → (c : ℕ) → Told (entry e (answer n p e) c ∷ h) (step n p e)
unfolding step
event-told n p h e fits zero! ok told c = record { ups = ups; counts = counts }
  where
    l : Local
    l = local n p e

    after : Network
    after = commit p (home e) l (cleared p e)

    sending : (u v : ℕ) → is_sending (entry e (answer n p e) c) u v ≡ (eqb u (home e) && l.sent v)
    sending u v = rw (answer-sent n p e zero!, sent-member n p e fits ok v)

    ups : (u v : ℕ) → turned e u v (up_in h u v) ≡ up_to after u v
    ups u v = go (equal? u (home e))
      where
        go : SameOrNot u (home e) → turned e u v (up_in h u v) ≡ up_to after u v
        go (inl q) = rw (told.ups u v, q) (turned-at n p e v ∙ sym (up_at p (home e) l (cleared p e) v))
        go (inr q) = turned-off e u v (up_in h u v) q ∙ (told.ups u v ∙ sym (up-off p (home e) l (cleared p e) u v q))

    Counted : ℕ → ℕ → Type 0
    Counted u v =
        cond (is_down e u v) 0 (digit (is_receipt e u v) + received_since h u v) + length (after.channel u v)
        ≡ cond (is_down e u v) 0 (digit (is_sending (entry e (answer n p e) c) u v) + sent_since h u v)

    counts : (u v : ℕ) → Counted u v
    counts u v = go (choice (is_down e u v))
      where
        held : length (after.channel u v) ≡ digit (eqb u (home e) && l.sent v) + length (cleared p e u v)
        held = count-after p (home e) l (cleared p e) u v

        go : Choice (is_down e u v) → Counted u v
        go (yes! i) = rw (i, held, down-sends n p e u v i, and-false, cleared-down p e u v i)
        go (no! i) = rw (i, sending u v) (omega (arith, held, cleared-count n p e ok u v i, told.counts u v))
