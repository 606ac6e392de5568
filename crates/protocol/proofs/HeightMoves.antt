-- In a sound network whose times make sense, an accepted event leaves its node's height as it was exactly by rules U, Q, I and R:
-- rules E, S, F, P and A always change it.
use Prim.Native.Nat.{ℕ, suc, max}
use native.Mathlib.Omega.{arith}
use mathlib.Core.Bool.{Bool, true, false}
use mathlib.Core.List.{List, [], ◌∷◌}
use mathlib.Core.Path.{◌≡◌, refl, sym, ap, subst, ◌∙◌}
use lib.IntN.{pos, neg_ℤ}
use Rattle.basics.specs.Functions.{update}
use Rattle.basics.proofs.FunctionsLaws.{update-at, update-off, update_self}
use Rattle.basics.proofs.Tests.{clash}
use Rattle.height.specs.Height.{pair_key, zero_height}
use Rattle.height.specs.Order.{before}
use Rattle.height.specs.declared.Height.{Height}
use Rattle.height.proofs.OrderLaws.{before-irrefl, lt_z-irrefl, lt_z-neg}
use Rattle.protocol.specs.Holds.{sound, is_empty}
use Rattle.protocol.specs.Network.{Node, Message, Network, up_to, restrict}
use Rattle.protocol.specs.Refusal.{accepts}
use Rattle.protocol.specs.Rules.{down_rule, receipt_rule}
use Rattle.protocol.specs.Sink.{sink}
use Rattle.protocol.specs.Step.{Event, up, down, receive, home, peer, height_after, Local, carried, local_up}
use Rattle.protocol.specs.Step.{local_down, local_ignored, local_taken, local_receipt, local}
use Rattle.protocol.specs.Times.{timely}
use Rattle.protocol.specs.declared.Rule.TheVariants.{ChannelUp, ElectSelf, StartNewRefLevel, NoChange, Ignored}
use Rattle.protocol.specs.declared.Rule.TheVariants.{AdoptLpIfPriority, Reply}
use Rattle.protocol.specs.declared.Rule.{Rule}
use Rattle.protocol.proofs.Accepted.{Accepted, accepts-accepted, home-node, peer-node}
use Rattle.protocol.proofs.RuleCases.{Kept, Verdict, is_a, is_r, is_q, is_f, is_e, is_s, is_p, verdict, down_cases}
use Rattle.protocol.proofs.RuleLaws.{by_cases, Bounded}
use Rattle.protocol.proofs.SoundStep.{sound-fits}
use Rattle.protocol.proofs.Soundness.{Fits}
use Rattle.protocol.proofs.Timed.{Timed, left-timed}
use Rattle.protocol.proofs.TimedStep.{heard-kept}
use Rattle.protocol.proofs.TimelyStep.{timely-timed}

-- U, Q, I and R
pub data Still : Rule → Type 0 where
  by-U : Still ChannelUp
  by-Q : Still NoChange
  by-I : Still Ignored
  by-R : Still Reply

-- the height that the event leaves is the one that stood
abbrev pub Unmoved : ℕ → Network → Event → Type 0
Unmoved n p e = (local n p e).row (home e) ≡ p.height (home e) (home e)

pub record HeightMoves (n : ℕ) (p : Network) (e : Event) : Type 0 where
  pub unmoved-still : Unmoved n p e → Still (local n p e).rule
  pub still-unmoved : Still (local n p e).rule → Unmoved n p e

abbrev pub HeightMovesStatement : Type 0
HeightMovesStatement =
    (n : ℕ) (p : Network) (e : Event) → restrict n p ≡ p → sound n p ≡ true → timely n p ≡ true → accepts n p e ≡ true → HeightMoves n p e

-- ---- rules that keep the height

stays : (n : ℕ) (N : ℕ → Bool) (row : ℕ → Height) (u v t : ℕ) (r : Rule) → Still r → height_after n N row u v t r ≡ row u
stays n N row u v t r by-U = refl
stays n N row u v t r by-Q = refl
stays n N row u v t r by-I = refl
stays n N row u v t r by-R = refl

-- ---- rules that change it

module _ (n : ℕ) (N : ℕ → Bool) (row : ℕ → Height) (u v : ℕ) where
  abbrev Moves : ℕ → Rule → Type 0
  Moves t r = height_after n N row u v t r ≡ row u → Still r

  -- a sink is none any more, so its height is another
  woken : (t : ℕ) (r : Rule) → sink n N row u ≡ true → Kept n N row u v t r (height_after n N row u v t r) → Moves t r
  woken t r s k q =
      let asleep : sink n N (update row u (row u)) u ≡ false = rw q at k.awake in
      clash s (rw (update_self row u) at asleep)

  -- a level or an election of the moved clock is later than all that u holds
  module _ (c : ℕ) (times : Bounded c (row u)) where
    elects : Moves (suc c) ElectSelf
    elects q =
        let z = lt_z-neg times.election (suc c) (omega (arith, times.election-le)) in
        let same : neg_ℤ (pos (suc c)) ≡ neg_ℤ (pos times.election) = ap (λ (h : Height). h.pair.nlts.0) q ∙ times.nlts-is in
        clash (rw same at z) (lt_z-irrefl (neg_ℤ (pos times.election)))

    starts : Moves (suc c) StartNewRefLevel
    starts q =
        let z : suc c ≡ (row u).level.tau.0 = ap (λ (h : Height). h.level.tau.0) q in
        absurd (omega (arith, times.tau-le))

    down-moves : Moves (suc c) (down_rule n N row u)
    down-moves = down_cases n N row u (Moves (suc c)) elects (λ _. starts) (λ _ _. by-Q)

  adopts : (t : ℕ) → before (pair_key (row v).pair) (pair_key (row u).pair) ≡ true → Moves t (AdoptLpIfPriority v)
  adopts t e q =
      let z : (row v).pair ≡ (row u).pair = ap (λ (h : Height). h.pair) q in
      clash (rw z at e) (before-irrefl (pair_key (row u).pair))

  receipt-moves : (t : ℕ) (r : Rule) → Verdict n N row u v r → Kept n N row u v t r (height_after n N row u v t r) → Moves t r
  receipt-moves t r (is_a e) k = adopts t e
  receipt-moves t r (is_r e) k = λ _. by-R
  receipt-moves t r (is_q le ge s) k = λ _. by-Q
  receipt-moves t r (is_f s le d e) k = woken t r s k
  receipt-moves t r (is_e s le) k = woken t r s k
  receipt-moves t r (is_s s le) k = woken t r s k
  receipt-moves t r (is_p s le f) k = woken t r s k

-- ---- the events

module _ (n : ℕ) (p : Network) (fits : Fits n p) (timed : Timed p) (u v : ℕ) (su : Node n u) (sv : Node n v) (other : u ≡ v → ⊥) where
  -- what is to be shown of an event that leaves l at u
  record MovesAt (l : Local) : Type 0 where
    unmoved-still : l.row u ≡ p.height u u → Still l.rule
    still-unmoved : Still l.rule → l.row u ≡ p.height u u

  -- u's own height before the rule is the one that stood
  carried-moves : (N F : ℕ → Bool) (row : ℕ → Height) (t : ℕ) (r : Rule) → row u ≡ p.height u u → Moves n N row u v t r
      → MovesAt (carried n N F row u v t r)
  unfolding carried
  carried-moves N F row t r own moves = record {
    unmoved-still = λ q. moves (sym (update-at row u (height_after n N row u v t r)) ∙ q ∙ sym own);
    still-unmoved = λ s. update-at row u (height_after n N row u v t r) ∙ stays n N row u v t r s ∙ own;
  }

  up-moves : MovesAt (local_up n p u v)
  unfolding local_up
  up-moves = carried-moves (p.neighbors u) (update (p.forming u) v true) (p.height u) (suc (p.clock u)) ChannelUp refl (λ _. by-U)

  left-moves : MovesAt (local_down n p u v)
  unfolding local_down
  left-moves =
      carried-moves (update (p.neighbors u) v false) (update (p.forming u) v false) (update (p.height u) v zero_height) (suc (p.clock u)) _
      (update-off (p.height u) v zero_height u other)
      (down-moves n (update (p.neighbors u) v false) (update (p.height u) v zero_height) u v (p.clock u) (left-timed p timed u v u))

  heard-moves : (m : Message) (ms : List Message) → p.channel v u ≡ m ∷ ms → MovesAt (local_taken n p u v m)
  unfolding local_taken
  heard-moves m ms queue =
      let N = update (p.neighbors u) v true in
      let row = update (p.height u) v m.height in
      let k = verdict n N row u v in
      carried-moves N (update (p.forming u) v false) row (suc (max (p.clock u) m.timestamp)) (receipt_rule n N row u v)
      (update-off (p.height u) v m.height u other)
      (receipt-moves n N row u v (suc (max (p.clock u) m.timestamp)) (receipt_rule n N row u v) k
      (heard-kept n p fits timed u v su other sv m ms queue (receipt_rule n N row u v) k))

  ignored-moves : (m : Message) → MovesAt (local_ignored n p u v m.timestamp)
  unfolding local_ignored
  ignored-moves m = carried-moves (p.neighbors u) (p.forming u) (p.height u) (suc (max (p.clock u) m.timestamp)) Ignored refl (λ _. by-I)

  message-moves : is_empty (p.channel v u) ≡ false → MovesAt (local_receipt n p u v (p.channel v u))
  message-moves some! = go (p.channel v u) refl
    where
      go : (q : List Message) → p.channel v u ≡ q → MovesAt (local_receipt n p u v (p.channel v u))
      go [] e = clash (rw e) some!
      go (m ∷ ms) e =
          subst MovesAt (sym (ap (local_receipt n p u v) e))
          (by_cases MovesAt (up_to p u v) (local_taken n p u v m) (local_ignored n p u v m.timestamp) (λ _. heard-moves m ms e) (λ _. ignored-moves m))

-- ---- the theorem

pub height-moves : HeightMovesStatement
height-moves n p e inside holds times ok! = shown (go e ok (home-node n p e ok) (peer-node n p e ok))
  where
    ok : Accepted n p e
    ok = accepts-accepted n p e ok!

    fits : Fits n p
    fits = sound-fits n p inside holds

    timed : Timed p
    timed = timely-timed n p fits times

    shown : {e : Event} {su : Node n (home e)} {sv : Node n (peer e)} {d : home e ≡ peer e → ⊥}
        → MovesAt n p fits timed (home e) (peer e) su sv d (local n p e) → HeightMoves n p e
    shown m = record { unmoved-still = m.unmoved-still; still-unmoved = m.still-unmoved }

    go : (e : Event) (ok : Accepted n p e) (su : Node n (home e)) (sv : Node n (peer e))
        → MovesAt n p fits timed (home e) (peer e) su sv ok.differ (local n p e)
    go (up u v) ok su sv = up-moves n p fits timed u v su sv ok.differ
    go (down u v) ok su sv = left-moves n p fits timed u v su sv ok.differ
    go (receive v u) ok su sv = message-moves n p fits timed u v su sv ok.differ ok.fits
