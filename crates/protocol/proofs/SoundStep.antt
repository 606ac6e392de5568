-- Every sound network stays sound: an event, accepted or refused, leaves one that breaks no rule and holds nothing beyond node n.
-- Assumes these two tests of the network before the event (`sound`, `restrict`) and nothing else: it need not be grown from the fresh one.
use Prim.Native.Nat.{ℕ, ◌≤◌}
use native.Mathlib.Omega.{arith}
use mathlib.Core.Bool.{Bool, true, false, not, ◌&&◌, ◌||◌, and-false}
use mathlib.Core.List.{List, [], ◌∷◌}
use mathlib.Core.Logic.{inl, inr}
use mathlib.Core.Path.{◌≡◌, refl, sym, ap, ◌∙◌}
use lib.Dec.{leb}
use lib.ListN.{length}
use borrow.Author.Tests.{eq-eqb, ne_eqb, leb-true, not-true}
use Rattle.basics.specs.Functions.{every, all}
use Rattle.basics.proofs.AllOf.{AllOf, none, more}
use Rattle.basics.proofs.FunctionsLaws.{every-at, every-pair-at}
use Rattle.basics.proofs.Tests.{clash, Choice, yes!, no!, choice, SameOrNot, equal?, and_left, and_right}
use Rattle.height.specs.Clock.{last_time}
use Rattle.height.specs.Height.{zero_height}
use Rattle.protocol.specs.Holds.{height_holds, message_holds, not_in_both, sets_hold, is_empty, own_holds, view_holds, channel_holds, pair_holds, sound}
use Rattle.protocol.specs.Network.{Node, Message, Network, is_node, up_to, capacity, fresh, at_nodes, at_pairs, restrict}
use Rattle.protocol.specs.Refusal.{accepts, next}
use Rattle.protocol.specs.Step.{Event, step}
use Rattle.protocol.proofs.Accepted.{accepts-accepted}
use Rattle.protocol.proofs.Channels.{is-empty}
use Rattle.protocol.proofs.Holding.{sound-holds}
use Rattle.protocol.proofs.NodeLaws.{is-node, no_node}
use Rattle.protocol.proofs.Ranges.{HeightFits, height-fits, zero-height}
use Rattle.protocol.proofs.Restrict.{restrict-is}
use Rattle.protocol.proofs.RuleLaws.{by_cases}
use Rattle.protocol.proofs.Soundness.{Ranged, MessageFits, Fits}
use Rattle.protocol.proofs.StepFits.{step_fits}

-- ---- outside 1 to n

nodes-out : {A : Type 0} (n : ℕ) (f g : ℕ → A) → at_nodes n f g ≡ f → (u : ℕ) → is_node n u ≡ false → f u ≡ g u
nodes-out {A = A} n f g q u e = let r : at_nodes n f g u ≡ g u = rw e in sym (ap (λ (h : ℕ → A). h u) q) ∙ r

pairs-out : {A : Type 0} (n : ℕ) (f g : ℕ → ℕ → A) → at_pairs n f g ≡ f
    → (u v : ℕ) → (is_node n u && is_node n v) ≡ false → f u v ≡ g u v
pairs-out {A = A} n f g q u v e = let r : at_pairs n f g u v ≡ g u v = rw e in sym (ap (λ (h : ℕ → ℕ → A). h u v) q) ∙ r

-- ---- channels

messages-fit : (n u : ℕ) (ms : List Message) → all (message_holds n u) ms ≡ true → AllOf (MessageFits n u) ms
unfolding all message_holds
messages-fit n u [] e = none
messages-fit n u (m ∷ ms) e =
    let h = height_holds n u m.height in
    let t = leb m.timestamp last_time in
    let first = and_left (h && t) (all (message_holds n u) ms) e in
    more (record { height = height-fits n u m.height (and_left h t first); timestamp-le = leb-true m.timestamp last_time (and_right h t first) })
    (messages-fit n u ms (and_right (h && t) (all (message_holds n u) ms) e))

-- what `Fits` says of u's channel ms, up or not
record Carries (n u : ℕ) (is_up : Bool) (ms : List Message) : Type 0 where
  messages : AllOf (MessageFits n u) ms
  short : length ms ≤ 8
  idle : is_up ≡ false → ms ≡ []

carries-none : (n u : ℕ) (is_up : Bool) (ms : List Message) → ms ≡ [] → Carries n u is_up ms
carries-none n u is_up ms e = rw e (record { messages = none; short = omega arith; idle = λ i. refl })

channel-fits : (n : ℕ) (p : Network) (u v : ℕ) → channel_holds n p u v ≡ true → Carries n u (up_to p u v) (p.channel u v)
unfolding channel_holds
channel-fits n p u v e =
    let few = leb (length (p.channel u v)) capacity in
    let good = all (message_holds n u) (p.channel u v) in
    let quiet = up_to p u v || is_empty (p.channel u v) in
    let front = and_left (few && good) quiet e in
    record {
      messages = messages-fit n u (p.channel u v) (and_right few good front);
      short = leb-true (length (p.channel u v)) capacity (and_left few good front);
      idle = λ i. is-empty (p.channel u v) (rw i at (and_right (few && good) quiet e));
    }

-- ---- the two tests give the facts

module _ (n : ℕ) (p : Network) (inside : restrict n p ≡ p) (holds : sound n p ≡ true) where
  abbrev Beyond : ℕ → ℕ → Type 0
  Beyond u v = (is_node n u && is_node n v) ≡ false

  -- beyond node n

  clock-out : (u : ℕ) → is_node n u ≡ false → p.clock u ≡ 0
  unfolding restrict
  clock-out = nodes-out n p.clock fresh.clock (ap (λ (q : Network). q.clock) inside)

  neighbors-out : (u v : ℕ) → Beyond u v → p.neighbors u v ≡ false
  unfolding restrict
  neighbors-out = pairs-out n p.neighbors fresh.neighbors (ap (λ (q : Network). q.neighbors) inside)

  forming-out : (u v : ℕ) → Beyond u v → p.forming u v ≡ false
  unfolding restrict
  forming-out = pairs-out n p.forming fresh.forming (ap (λ (q : Network). q.forming) inside)

  height-out : (u v : ℕ) → Beyond u v → p.height u v ≡ fresh.height u v
  unfolding restrict
  height-out = pairs-out n p.height fresh.height (ap (λ (q : Network). q.height) inside)

  channel-out : (u v : ℕ) → Beyond u v → p.channel u v ≡ []
  unfolding restrict
  channel-out = pairs-out n p.channel fresh.channel (ap (λ (q : Network). q.channel) inside)

  in_n : (u v : ℕ) → p.neighbors u v ≡ true → Node n v
  in_n u v i = go (choice (is_node n v))
    where
      go : Choice (is_node n v) → Node n v
      go (yes! e) = is-node n v e
      go (no! e) = clash i (neighbors-out u v (rw (e, and-false)))

  in_f : (u v : ℕ) → p.forming u v ≡ true → Node n v
  in_f u v i = go (choice (is_node n v))
    where
      go : Choice (is_node n v) → Node n v
      go (yes! e) = is-node n v e
      go (no! e) = clash i (forming-out u v (rw (e, and-false)))

  -- every view beyond node n is zero
  blank-out : (u v : ℕ) → Beyond u v → (v ≡ u → ⊥) → p.height u v ≡ zero_height
  blank-out u v b d = height-out u v b ∙ rw (ne_eqb u v (λ q. d (sym q)))

  ranged-out : (u : ℕ) → is_node n u ≡ false → Ranged n u (p.clock u) (p.neighbors u) (p.forming u) (p.height u)
  ranged-out u e = record {
    clock-le = rw (clock-out u e) (omega arith);
    own = λ s. absurd (no_node n u e s);
    views = λ v i. clash i (N v);
    blank = λ v d i. blank-out u v (rw e) d;
    in_n = in_n u;
    in_f = in_f u;
    self_n = N u;
    self_f = F u;
    apart = λ v i. F v;
    outside = λ d. (clock-out u e, N, F, height-out u u (rw e));
  }
    where
      N : (v : ℕ) → p.neighbors u v ≡ false
      N v = neighbors-out u v (rw e)

      F : (v : ℕ) → p.forming u v ≡ false
      F v = forming-out u v (rw e)

  -- at the nodes

  at : (u v : ℕ) → Node n u → Node n v → pair_holds n p u v ≡ true
  unfolding sound
  at u v a b = every-pair-at n (pair_holds n p) holds u a.low a.high v b.low b.high

  own_at : (u : ℕ) → Node n u → own_holds n p u ≡ true
  unfolding pair_holds
  own_at u a = rw (eq-eqb u u refl) at (at u u a a)

  pair-at : (u v : ℕ) → Node n u → Node n v → (u ≡ v → ⊥) → (view_holds n p u v && channel_holds n p u v) ≡ true
  unfolding pair_holds
  pair-at u v a b d = rw (ne_eqb u v d) at (at u v a b)

  view-at : (u v : ℕ) → Node n u → Node n v → (u ≡ v → ⊥) → view_holds n p u v ≡ true
  view-at u v a b d = and_left (view_holds n p u v) (channel_holds n p u v) (pair-at u v a b d)

  module _ (u : ℕ) (a : Node n u) where
    abbrev clock_test : Bool
    clock_test = leb (p.clock u) last_time

    abbrev sets_test : Bool
    sets_test = sets_hold n u (p.neighbors u) (p.forming u)

    abbrev height_test : Bool
    height_test = height_holds n u (p.height u u)

    own-tests : (clock_test && sets_test && height_test && is_empty (p.channel u u)) ≡ true
    unfolding own_holds
    own-tests = own_at u a

    to-height : (clock_test && sets_test && height_test) ≡ true
    to-height = and_left (clock_test && sets_test && height_test) (is_empty (p.channel u u)) own-tests

    to-sets : (clock_test && sets_test) ≡ true
    to-sets = and_left (clock_test && sets_test) height_test to-height

    abbrev disjoint : Bool
    disjoint = every n (not_in_both (p.neighbors u) (p.forming u))

    sets-at : (disjoint && not (p.neighbors u u) && not (p.forming u u)) ≡ true
    unfolding sets_hold
    sets-at = and_right clock_test sets_test to-sets

    to-N : (disjoint && not (p.neighbors u u)) ≡ true
    to-N = and_left (disjoint && not (p.neighbors u u)) (not (p.forming u u)) sets-at

    self_n : p.neighbors u u ≡ false
    self_n = not-true (p.neighbors u u) (and_right disjoint (not (p.neighbors u u)) to-N)

    self_f : p.forming u u ≡ false
    self_f = not-true (p.forming u u) (and_right (disjoint && not (p.neighbors u u)) (not (p.forming u u)) sets-at)

    apart : (v : ℕ) → p.neighbors u v ≡ true → p.forming u v ≡ false
    unfolding not_in_both
    apart v i =
        let b = in_n u v i in
        let h = every-at n (not_in_both (p.neighbors u) (p.forming u)) (and_left disjoint (not (p.neighbors u u)) to-N) v b.low b.high in
        not-true (p.forming u v) (rw i at h)

    view-fits : (v : ℕ) → p.neighbors u v ≡ true → HeightFits n v (p.height u v)
    unfolding view_holds
    view-fits v i =
        let d : u ≡ v → ⊥ = λ q. clash (rw (← q) at i) self_n in
        height-fits n v (p.height u v) (rw i at (view-at u v a (in_n u v i) d))

    view-blank : (v : ℕ) → (v ≡ u → ⊥) → p.neighbors u v ≡ false → Choice (is_node n v) → p.height u v ≡ zero_height
    unfolding view_holds
    view-blank v d i (no! e) = blank-out u v (rw (e, and-false)) d
    view-blank v d i (yes! e) = zero-height (p.height u v) (rw i at (view-at u v a (is-node n v e) (λ q. d (sym q))))

    ranged-in : Ranged n u (p.clock u) (p.neighbors u) (p.forming u) (p.height u)
    ranged-in = record {
      clock-le = leb-true (p.clock u) last_time (and_left clock_test sets_test to-sets);
      own = λ _. height-fits n u (p.height u u) (and_right (clock_test && sets_test) height_test to-height);
      views = view-fits;
      blank = λ v d i. view-blank v d i (choice (is_node n v));
      in_n = in_n u;
      in_f = in_f u;
      self_n = self_n;
      self_f = self_f;
      apart = apart;
      outside = λ d. absurd (d a);
    }

    own-channel : p.channel u u ≡ []
    own-channel = is-empty (p.channel u u) (and_right (clock_test && sets_test && height_test) (is_empty (p.channel u u)) own-tests)

  ranged : (u : ℕ) → Choice (is_node n u) → Ranged n u (p.clock u) (p.neighbors u) (p.forming u) (p.height u)
  ranged u (yes! e) = ranged-in u (is-node n u e)
  ranged u (no! e) = ranged-out u e

  carries : (u v : ℕ) → Choice (is_node n u && is_node n v) → SameOrNot u v → Carries n u (up_to p u v) (p.channel u v)
  carries u v (no! e) d = carries-none n u (up_to p u v) (p.channel u v) (channel-out u v e)
  carries u v (yes! e) (inl q) =
      let a = is-node n u (and_left (is_node n u) (is_node n v) e) in
      carries-none n u (up_to p u v) (p.channel u v) (rw (← q) (own-channel u a))
  carries u v (yes! e) (inr d) =
      let a = is-node n u (and_left (is_node n u) (is_node n v) e) in
      let b = is-node n v (and_right (is_node n u) (is_node n v) e) in
      channel-fits n p u v (and_right (view_holds n p u v) (channel_holds n p u v) (pair-at u v a b d))

  channels : (u v : ℕ) → Carries n u (up_to p u v) (p.channel u v)
  channels u v = carries u v (choice (is_node n u && is_node n v)) (equal? u v)

  pub sound-fits : Fits n p
  sound-fits = record {
    nodes = λ u. ranged u (choice (is_node n u));
    messages = λ u v. (channels u v).messages;
    lengths = λ u v. (channels u v).short;
    idle = λ u v. (channels u v).idle;
  }

-- ---- the theorems

-- a refused event leaves the network, an accepted one is a step
pub fits_next : (n : ℕ) (p : Network) (e : Event) → Fits n p → Fits n (next n p e)
unfolding next
fits_next n p e fits = by_cases (Fits n) (accepts n p e) (step n p e) p (λ i. step_fits n p e fits (accepts-accepted n p e i)) (λ i. fits)

pub sound-next : (n : ℕ) (p : Network) (e : Event) → restrict n p ≡ p → sound n p ≡ true
    → (sound n (next n p e) ≡ true) × (restrict n (next n p e) ≡ next n p e)
sound-next n p e inside holds =
    let after = fits_next n p e (sound-fits n p inside holds) in
    (sound-holds n (next n p e) after, restrict-is n (next n p e) after)
