-- A network passes every test of Holds.antt (`sound-holds`) and of Times.antt (`timely-holds`).
-- Assumes that it is so by facts (`Fits` of Soundness.antt, `Timed` of Timed.antt).
use Prim.Native.Nat.{ℕ}
use mathlib.Core.Bool.{true, not, cond, ◌&&◌, ◌||◌, and-false}
use mathlib.Core.List.{List, [], ◌∷◌}
use mathlib.Core.Logic.{inl, inr}
use mathlib.Core.Path.{◌≡◌, refl, sym}
use lib.Dec.{eqb}
use lib.ListN.{length}
use borrow.Author.Tests.{eq-eqb, ne_eqb, le-leb}
use Rattle.basics.specs.Functions.{all}
use Rattle.basics.proofs.AllOf.{AllOf, more}
use Rattle.basics.proofs.FunctionsLaws.{every-all, every-pair-all}
use Rattle.basics.proofs.Tests.{Choice, yes!, no!, choice, SameOrNot, equal?, and_both}
use Rattle.height.specs.Clock.{last_time}
use Rattle.height.specs.Height.{height_key, zero_height}
use Rattle.height.specs.Order.{same}
use Rattle.height.specs.declared.Height.{Height}
use Rattle.height.proofs.OrderLaws.{same_refl}
use Rattle.protocol.specs.Holds.{height_holds, message_holds, not_in_both, sets_hold, is_empty, own_holds, view_holds, channel_holds, pair_holds, sound}
use Rattle.protocol.specs.Network.{Node, Message, Network, up_to, capacity}
use Rattle.protocol.specs.Times.{times_within, message_timely, pair_timely, timely}
use Rattle.protocol.proofs.Channels.{empty-is}
use Rattle.protocol.proofs.Ranges.{negated-le, height-holds}
use Rattle.protocol.proofs.RuleLaws.{Bounded}
use Rattle.protocol.proofs.Soundness.{MessageFits, Fits, diagonal}
use Rattle.protocol.proofs.Timed.{Stamped, Timed}

-- ---- messages

messages-hold : (n u : ℕ) (ms : List Message) → AllOf (MessageFits n u) ms → all (message_holds n u) ms ≡ true
unfolding all message_holds
messages-hold n u [] fit = refl
messages-hold n u (m ∷ ms) (more f fit) =
    and_both (and_both (height-holds n u m.height f.height) (le-leb m.timestamp last_time f.timestamp-le))
    (messages-hold n u ms fit)

within : (c : ℕ) (h : Height) → Bounded c h → times_within c h ≡ true
unfolding times_within
within c h b = and_both (le-leb h.level.tau.0 c b.tau-le) (rw b.nlts-is (negated-le c b.election b.election-le))

messages-timely : (c : ℕ) (ms : List Message) → AllOf (Stamped c) ms → all (message_timely c) ms ≡ true
unfolding all message_timely
messages-timely c [] stamped = refl
messages-timely c (m ∷ ms) (more s stamped) =
    and_both (and_both (le-leb m.timestamp c s.timestamp-le) (within m.timestamp m.height s.bounded))
    (messages-timely c ms stamped)

-- ---- pairs

module _ (n : ℕ) (p : Network) (fits : Fits n p) where
  one_set : (u v : ℕ) → not_in_both (p.neighbors u) (p.forming u) v ≡ true
  unfolding not_in_both
  one_set u v = go (choice (p.neighbors u v))
    where
      go : Choice (p.neighbors u v) → not (p.neighbors u v && p.forming u v) ≡ true
      go (no! i) = rw i
      go (yes! i) = rw ((fits.nodes u).apart v i, and-false)

  own-holds : (u : ℕ) → Node n u → own_holds n p u ≡ true
  unfolding own_holds sets_hold
  own-holds u node =
      and_both
      (and_both
      (and_both (le-leb (p.clock u) last_time (fits.nodes u).clock-le)
      (and_both (and_both (every-all n (not_in_both (p.neighbors u) (p.forming u)) (λ v l k. one_set u v)) (rw (fits.nodes u).self_n))
      (rw (fits.nodes u).self_f)))
      (height-holds n u (p.height u u) ((fits.nodes u).own node)))
      (empty-is (p.channel u u) (diagonal n p fits u))

  view-holds : (u v : ℕ) → (u ≡ v → ⊥) → view_holds n p u v ≡ true
  unfolding view_holds
  view-holds u v d = go (choice (p.neighbors u v))
    where
      go : Choice (p.neighbors u v)
          → cond (p.neighbors u v) (height_holds n v (p.height u v)) (same (height_key (p.height u v)) (height_key zero_height)) ≡ true
      go (yes! i) = rw i (height-holds n v (p.height u v) ((fits.nodes u).views v i))
      go (no! i) = rw (i, (fits.nodes u).blank v (λ q. d (sym q)) i) (same_refl (height_key zero_height))

  channel-holds : (u v : ℕ) → channel_holds n p u v ≡ true
  unfolding channel_holds
  channel-holds u v =
      and_both
      (and_both (le-leb (length (p.channel u v)) capacity (fits.lengths u v))
      (messages-hold n u (p.channel u v) (fits.messages u v)))
      (idle (choice (up_to p u v)))
    where
      idle : Choice (up_to p u v) → (up_to p u v || is_empty (p.channel u v)) ≡ true
      idle (yes! i) = rw i
      idle (no! i) = rw i (empty-is (p.channel u v) (fits.idle u v i))

  pair-holds : (u v : ℕ) → Node n u → pair_holds n p u v ≡ true
  unfolding pair_holds
  pair-holds u v node = go (equal? u v)
    where
      go : SameOrNot u v → cond (eqb u v) (own_holds n p u) (view_holds n p u v && channel_holds n p u v) ≡ true
      go (inl e) = rw (eq-eqb u v e) (own-holds u node)
      go (inr d) = rw (ne_eqb u v d) (and_both (view-holds u v d) (channel-holds u v))

  pub sound-holds : sound n p ≡ true
  unfolding sound
  sound-holds = every-pair-all n (pair_holds n p) (λ u l k v i j. pair-holds u v (record { low = l; high = k }))

pub timely-holds : (n : ℕ) (p : Network) → Timed p → timely n p ≡ true
unfolding timely pair_timely
timely-holds n p timed =
    every-pair-all n (pair_timely p) (λ u l k v i j. and_both (within (p.clock u) (p.height u v) (timed.heights u v))
    (messages-timely (p.clock u) (p.channel u v) (timed.messages u v)))
