-- Every sound network whose times make sense keeps them so: an event, accepted or refused, leaves one that passes the test again.
-- Assumes these tests of the network before the event (`sound`, `restrict`, `timely`) and nothing else: it need not be grown from the fresh one.
use Prim.Native.Nat.{ℕ}
use mathlib.Core.Bool.{true, ◌&&◌}
use mathlib.Core.List.{List, [], ◌∷◌}
use mathlib.Core.Logic.{inl, inr}
use mathlib.Core.Path.{◌≡◌, refl}
use lib.Dec.{leb}
use lib.IntN.{pos, neg_ℤ}
use lib.Signed.{le_z}
use borrow.Author.Tests.{leb-true}
use Rattle.basics.specs.Functions.{all}
use Rattle.basics.proofs.AllOf.{AllOf, none, more}
use Rattle.basics.proofs.FunctionsLaws.{every-pair-at}
use Rattle.basics.proofs.Tests.{clash, Choice, yes!, no!, choice, SameOrNot, equal?, and_left, and_right}
use Rattle.height.specs.declared.Height.{Height}
use Rattle.protocol.specs.Holds.{sound}
use Rattle.protocol.specs.Network.{Node, Message, Network, is_node, up_to, restrict}
use Rattle.protocol.specs.Refusal.{accepts, next}
use Rattle.protocol.specs.Step.{Event, step}
use Rattle.protocol.specs.Times.{times_within, message_timely, pair_timely, timely}
use Rattle.protocol.proofs.Accepted.{accepts-accepted}
use Rattle.protocol.proofs.Holding.{timely-holds}
use Rattle.protocol.proofs.NodeLaws.{is-node, no_node}
use Rattle.protocol.proofs.Ranges.{HeightFits, negation, negated-low}
use Rattle.protocol.proofs.RuleLaws.{by_cases, Bounded}
use Rattle.protocol.proofs.SoundStep.{sound-fits}
use Rattle.protocol.proofs.Soundness.{MessageFits, Fits, either}
use Rattle.protocol.proofs.Timed.{Stamped, Timed, unstarted, fresh-timed}
use Rattle.protocol.proofs.TimedStep.{step-timed}

-- ---- the test gives the facts

within-bounded : (n k c : ℕ) (h : Height) → HeightFits n k h → times_within c h ≡ true → Bounded c h
unfolding times_within
within-bounded n k c h f e =
    let early = leb h.level.tau.0 c in
    let elected = le_z (neg_ℤ (pos c)) h.pair.nlts.0 in
    let low : le_z h.pair.nlts.0 (pos 0) ≡ true = rw f.pair.nlts-is (negated-low f.pair.election) in
    let t = negation c h.pair.nlts.0 (and_right early elected e) low in
    record { tau-le = leb-true h.level.tau.0 c (and_left early elected e); election = t.size; nlts-is = t.is; election-le = t.size-le }

messages-stamped : (n u c : ℕ) (ms : List Message) → AllOf (MessageFits n u) ms → all (message_timely c) ms ≡ true → AllOf (Stamped c) ms
unfolding all message_timely
messages-stamped n u c [] fit e = none
messages-stamped n u c (m ∷ ms) (more f fit) e =
    let stamp = leb m.timestamp c in
    let times = times_within m.timestamp m.height in
    let first = and_left (stamp && times) (all (message_timely c) ms) e in
    more
    (record {
      timestamp-le = leb-true m.timestamp c (and_left stamp times first);
      bounded = within-bounded n u m.timestamp m.height f.height (and_right stamp times first);
    })
    (messages-stamped n u c ms fit (and_right (stamp && times) (all (message_timely c) ms) e))

module _ (n : ℕ) (p : Network) (fits : Fits n p) (holds : timely n p ≡ true) where
  at : (u v : ℕ) → Node n u → Node n v → pair_timely p u v ≡ true
  unfolding timely
  at u v a b = every-pair-at n (pair_timely p) holds u a.low a.high v b.low b.high

  module _ (u v : ℕ) (a : Node n u) (b : Node n v) where
    times-at : times_within (p.clock u) (p.height u v) ≡ true
    unfolding pair_timely
    times-at = and_left (times_within (p.clock u) (p.height u v)) (all (message_timely (p.clock u)) (p.channel u v)) (at u v a b)

    messages-at : all (message_timely (p.clock u)) (p.channel u v) ≡ true
    unfolding pair_timely
    messages-at = and_right (times_within (p.clock u) (p.height u v)) (all (message_timely (p.clock u)) (p.channel u v)) (at u v a b)

  height-timed : (u v : ℕ) → SameOrNot v u → Choice (is_node n u) → Choice (p.neighbors u v) → Bounded (p.clock u) (p.height u v)
  height-timed u v (inl q) (yes! i) _ =
      let a = is-node n u i in
      rw q (within-bounded n u (p.clock u) (p.height u u) ((fits.nodes u).own a) (times-at u u a a))
  height-timed u v (inl q) (no! i) _ =
      let out = (fits.nodes u).outside (no_node n u i) in
      rw (q, out.3, out.0) (fresh-timed.heights u u)
  height-timed u v (inr d) _ (no! i) = rw ((fits.nodes u).blank v d i) (unstarted (p.clock u) _ refl refl)
  height-timed u v (inr d) (yes! a) (yes! i) =
      within-bounded n v (p.clock u) (p.height u v) ((fits.nodes u).views v i) (times-at u v (is-node n u a) ((fits.nodes u).in_n v i))
  height-timed u v (inr d) (no! a) (yes! i) = clash i (((fits.nodes u).outside (no_node n u a)).1 v)

  channel-timed : (u v : ℕ) → Choice (is_node n u) → Choice (up_to p u v) → AllOf (Stamped (p.clock u)) (p.channel u v)
  channel-timed u v _ (no! i) = rw (fits.idle u v i) none
  channel-timed u v (yes! a) (yes! i) =
      let b : Node n v = either (p.neighbors u v) (p.forming u v) i ((fits.nodes u).in_n v) ((fits.nodes u).in_f v) in
      messages-stamped n u (p.clock u) (p.channel u v) (fits.messages u v) (messages-at u v (is-node n u a) b)
  channel-timed u v (no! a) (yes! i) =
      let out = (fits.nodes u).outside (no_node n u a) in
      clash i (rw (out.1 v, out.2 v))

  pub timely-timed : Timed p
  timely-timed = record {
    heights = λ u v. height-timed u v (equal? v u) (choice (is_node n u)) (choice (p.neighbors u v));
    messages = λ u v. channel-timed u v (choice (is_node n u)) (choice (up_to p u v));
  }

-- ---- the theorem

pub timed-next : (n : ℕ) (p : Network) (e : Event) → Fits n p → Timed p → Timed (next n p e)
unfolding next
timed-next n p e fits timed =
    by_cases Timed (accepts n p e) (step n p e) p (λ i. step-timed n p e fits timed (accepts-accepted n p e i)) (λ i. timed)

pub timely-next : (n : ℕ) (p : Network) (e : Event) → restrict n p ≡ p → sound n p ≡ true → timely n p ≡ true → timely n (next n p e) ≡ true
timely-next n p e inside holds times =
    let fits = sound-fits n p inside holds in
    timely-holds n (next n p e) (timed-next n p e fits (timely-timed n p fits times))
