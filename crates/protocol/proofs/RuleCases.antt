-- Which rule a receipt takes and what it knows (`verdict`), and what each rule leaves at its node: no sink, times within the clock,
-- a leader pair that has not grown (`answered`, `kept-down`). Assumes of the node before it what the invariant says, as parameters.
use Prim.Native.Nat.{ℕ, suc, ◌<◌, ◌≤◌}
use native.Mathlib.Omega.{arith}
use mathlib.Core.Bool.{Bool, true, false, not, cond, ◌&&◌, and-false}
use mathlib.Core.List.{List}
use mathlib.Core.Path.{◌≡◌, refl, ap, ◌∙◌}
use lib.Dec.{ltb, eqb}
use lib.IntN.{ℤ, pos, suc_ℤ}
use borrow.Author.Tests.{ltb-true, eqb-true, eq-eqb, not-true, not-false}
use Rattle.basics.specs.Functions.{every, update}
use Rattle.basics.proofs.FunctionsLaws.{Found, every-not, update-at, update-off, update_self}
use Rattle.basics.proofs.Tests.{clash, Choice, yes!, no!, choice, and_left, and_right}
use Rattle.height.specs.Height.{level_key, pair_key, height_key, self_elected}
use Rattle.height.specs.Order.{before, same}
use Rattle.height.specs.declared.Height.{Height}
use Rattle.height.specs.declared.ReferenceLevel.{ReferenceLevel}
use Rattle.height.proofs.OrderLaws.{before-less, before-equal, before-asym, before-total, lt_z-pos, lt_z-suc, same_of}
use Rattle.protocol.specs.Rules.{absent, down_rule, largest, of_level, one_level_rule, equal_pairs_rule, receipt_rule}
use Rattle.protocol.specs.Sink.{sink}
use Rattle.protocol.specs.Step.{height_after, sends}
use Rattle.protocol.specs.declared.Rule.TheVariants.{AdoptLpIfPriority, ElectSelf, ReflectRefLevel}
use Rattle.protocol.specs.declared.Rule.TheVariants.{PropagateLargestRefLevel, NoChange, Reply, StartNewRefLevel}
use Rattle.protocol.specs.declared.Rule.{Rule}
use Rattle.protocol.proofs.RuleLaws.{by_cases, Bounded, later, PairLe, PairLe-refl, level-below, elected-below}
use Rattle.protocol.proofs.RuleLaws.{not-sink-by-height, not-sink-by-pair, not-sink-by-leader, largest-above, largest-tau}

-- ---- which rule, and what it knows

pub data Verdict (n : ℕ) (N : ℕ → Bool) (row : ℕ → Height) (u v : ℕ) : Rule → Type 0 where
  is_a : before (pair_key (row v).pair) (pair_key (row u).pair) ≡ true → Verdict n N row u v (AdoptLpIfPriority v)
  is_r : before (pair_key (row u).pair) (pair_key (row v).pair) ≡ true → Verdict n N row u v Reply
  is_q : PairLe (row u) (row v) → PairLe (row v) (row u) → sink n N row u ≡ false → Verdict n N row u v NoChange
  is_f : sink n N row u ≡ true → PairLe (row u) (row v) → 0 < (row v).level.tau.0 → (row v).level.r ≡ 0 → Verdict n N row u v ReflectRefLevel
  is_e : sink n N row u ≡ true → PairLe (row u) (row v) → Verdict n N row u v ElectSelf
  is_s : sink n N row u ≡ true → PairLe (row u) (row v) → Verdict n N row u v StartNewRefLevel
  is_p : sink n N row u ≡ true → PairLe (row u) (row v) → Found n (of_level N row (row v).level) → Verdict n N row u v (PropagateLargestRefLevel (largest n N row))

-- neither smaller, read off `same`; and the larger of two that differ
same_parts : (xs ys : List ℤ) → same xs ys ≡ true → (before xs ys ≡ false) × (before ys xs ≡ false)
unfolding same
same_parts xs ys e =
    let a = and_left (not (before xs ys)) (not (before ys xs)) e in
    let b = and_right (not (before xs ys)) (not (before ys xs)) e in
    (not-true _ a, not-true _ b)

differ : (a b : Bool) → (not a && not b) ≡ false → a ≡ false → b ≡ true
differ true b e h = clash refl h
differ false true e h = refl
differ false false e h = clash refl e

pub verdict : (n : ℕ) (N : ℕ → Bool) (row : ℕ → Height) (u v : ℕ) → Verdict n N row u v (receipt_rule n N row u v)
unfolding receipt_rule equal_pairs_rule one_level_rule same
verdict n N row u v =
    by_cases G (same theirs mine) (equal_pairs_rule n N row u v) _
    (λ e. let q = same_parts theirs mine e in equals q.0 q.1)
    (λ e. by_cases G (before theirs mine) (AdoptLpIfPriority v) Reply is_a (λ ge. is_r (differ _ _ e ge)))
  where
    G : Rule → Type 0
    G = Verdict n N row u v

    theirs : List ℤ
    theirs = pair_key (row v).pair

    mine : List ℤ
    mine = pair_key (row u).pair

    l : ReferenceLevel
    l = (row v).level

    one_level : sink n N row u ≡ true → PairLe (row u) (row v) → G (one_level_rule u l)
    one_level s le =
        by_cases G (ltb 0 l.tau.0 && eqb l.r 0) ReflectRefLevel _
        (λ e. is_f s le (ltb-true 0 _ (and_left _ (eqb l.r 0) e)) (eqb-true _ 0 (and_right (ltb 0 l.tau.0) _ e)))
        (λ e. by_cases G (eqb l.r 1 && eqb l.oid u) ElectSelf StartNewRefLevel (λ f. is_e s le) (λ f. is_s s le))

    equals : PairLe (row u) (row v) → PairLe (row v) (row u) → G (equal_pairs_rule n N row u v)
    equals le ge =
        by_cases G (not (sink n N row u)) NoChange _ (λ e. is_q le ge (not-true _ e))
        (λ s. by_cases G (every n (of_level N row l)) (one_level_rule u l) (PropagateLargestRefLevel (largest n N row))
        (λ one. one_level (not-false _ s) le) (λ other. is_p (not-false _ s) le (every-not n (of_level N row l) other)))

-- the rule after a down: E, or S where N has a member, or Q where u is no sink
pub down_cases : (n : ℕ) (N : ℕ → Bool) (row : ℕ → Height) (u : ℕ) (G : Rule → Type 0)
    → G ElectSelf → (Found n (absent N) → G StartNewRefLevel) → (sink n N row u ≡ false → G NoChange) → G (down_rule n N row u)
unfolding down_rule
down_cases n N row u G e s q =
    by_cases G (every n (absent N)) ElectSelf (cond (sink n N row u) StartNewRefLevel NoChange) (λ _. e)
    (λ some!. by_cases G (sink n N row u) StartNewRefLevel NoChange (λ _. s (every-not n (absent N) some!)) q)

-- where the new height h goes: to all that are up; unchanged, to v alone; unchanged, to nobody
pub data Sending (v : ℕ) (old h : Height) (r : Rule) : Type 0 where
  to_all : ((w : ℕ) (b : Bool) → sends v r w b ≡ b) → Sending v old h r
  to_one : h ≡ old → ((w : ℕ) (b : Bool) → sends v r w b ≡ eqb w v) → Sending v old h r
  to_none : h ≡ old → ((w : ℕ) (b : Bool) → sends v r w b ≡ false) → Sending v old h r

-- h is what the rule leaves at u at the moved clock t
pub record Kept (n : ℕ) (N : ℕ → Bool) (row : ℕ → Height) (u v t : ℕ) (r : Rule) (h : Height) : Type 0 where
  pub awake : sink n N (update row u h) u ≡ false
  pub bounded : Bounded t h
  pub own : h.id ≡ u
  pub falls : PairLe h (row u)
  pub sending : Sending v (row u) h r

-- what a receipt from v leaves; `back` is for a message that is answered by nothing
pub record Answered (n : ℕ) (N : ℕ → Bool) (row : ℕ → Height) (u v t : ℕ) (r : Rule) (h : Height) : Type 0 where
  pub kept : Kept n N row u v t r h
  pub reaches : PairLe h (row v)
  pub back : sends v r v true ≡ false → PairLe (row v) h

-- a rule that leaves u's height as it is
pub kept-still : (n : ℕ) (N : ℕ → Bool) (row : ℕ → Height) (u v c : ℕ) (r : Rule) → Bounded c (row u) → (row u).id ≡ u
    → sink n N row u ≡ false → Sending v (row u) (row u) r → Kept n N row u v (suc c) r (row u)
kept-still n N row u v c r b mine e sending = record {
  awake = rw (update_self row u) e;
  bounded = later c (suc c) (row u) (omega arith) b;
  own = mine;
  falls = PairLe-refl (row u);
  sending = sending;
}

-- ---- each rule, at the clock c

module _ (n : ℕ) (N : ℕ → Bool) (row : ℕ → Height) (u v c : ℕ) where
  -- the height that rule r leaves
  abbrev left : Rule → Height
  left r = height_after n N row u v (suc c) r

  abbrev KeptBy : Rule → Type 0
  KeptBy r = Kept n N row u v (suc c) r (left r)

  -- whether u is a sink with the height h
  abbrev sink_after : Height → Bool
  sink_after h = sink n N (update row u h) u

  module _ (self : N u ≡ false) (times : (w : ℕ) → Bounded c (row w)) (mine : (row u).id ≡ u) where
    -- a member whose height is below h keeps u awake
    awake-by : (h : Height) (w : ℕ) → 1 ≤ w → w ≤ n → N w ≡ true → before (height_key h) (height_key (row w)) ≡ false → sink_after h ≡ false
    awake-by h w l k i e =
        let d : w ≡ u → ⊥ = λ q. clash (rw q at i) self in
        not-sink-by-height n N (update row u h) u w l k i (rw (update-at row u h, update-off row u h w d) e)

    -- a rule that keeps u's pair and sends to all
    kept_pair : (r : Rule) → (left r).pair ≡ (row u).pair → (left r).id ≡ u → ((w : ℕ) (b : Bool) → sends v r w b ≡ b)
        → (left r).level.tau.0 ≤ suc c → sink_after (left r) ≡ false → KeptBy r
    kept_pair r e i all l awake = record {
      awake = awake;
      bounded = record {
        tau-le = l;
        election = (times u).election;
        nlts-is = ap (λ q. q.nlts.0) e ∙ (times u).nlts-is;
        election-le = omega (arith, (times u).election-le);
      };
      own = i;
      falls = rw e (PairLe-refl (row u));
      sending = to_all all;
    }

    kept-S : (w : ℕ) → 1 ≤ w → w ≤ n → N w ≡ true → KeptBy StartNewRefLevel
    unfolding level_key
    kept-S w low high inside =
        let e = lt_z-pos (row w).level.tau.0 (suc c) (omega (arith, (times w).tau-le)) in
        let b = level-below (row w) (left StartNewRefLevel) (before-less (pos (row w).level.tau.0) (pos (suc c)) _ _ e) in
        kept_pair StartNewRefLevel refl refl (λ w b. refl) (omega arith) (awake-by (left StartNewRefLevel) w low high inside b)

    kept-E : KeptBy ElectSelf
    kept-E = record {
      awake = not-sink-by-leader n N (update row u (self_elected (suc c) u)) u (rw (update-at row u (self_elected (suc c) u)));
      bounded = record { tau-le = omega arith; election = suc c; nlts-is = refl; election-le = omega arith };
      own = refl;
      falls = elected-below c (suc c) u (row u) (omega arith) (times u);
      sending = to_all (λ w b. refl);
    }

    kept-Q : sink n N row u ≡ false → KeptBy NoChange
    kept-Q e = kept-still n N row u v c NoChange (times u) mine e (to_none refl (λ w b. refl))

    module _ (low : 1 ≤ v) (high : v ≤ n) (inside : N v ≡ true) where
      kept-A : before (pair_key (row v).pair) (pair_key (row u).pair) ≡ true → KeptBy (AdoptLpIfPriority v)
      unfolding height_key level_key
      kept-A e = record {
        awake = awake-by (left (AdoptLpIfPriority v)) v low high inside
            (before-asym (height_key (row v)) (height_key (left (AdoptLpIfPriority v)))
            (before-equal (pos (row v).level.tau.0) _ _ ∙ (before-equal (pos (row v).level.oid) _ _
            ∙ (before-equal (pos (row v).level.r) _ _ ∙ before-less (row v).delta (suc_ℤ (row v).delta) _ _ (lt_z-suc (row v).delta)))));
        bounded = record {
          tau-le = omega (arith, (times v).tau-le);
          election = (times v).election;
          nlts-is = (times v).nlts-is;
          election-le = omega (arith, (times v).election-le);
        };
        own = refl;
        falls = before-asym (pair_key (row v).pair) (pair_key (row u).pair) e;
        sending = to_all (λ w b. refl);
      }

      kept-F : (row v).level.r ≡ 0 → KeptBy ReflectRefLevel
      unfolding level_key
      kept-F e =
          kept_pair ReflectRefLevel refl refl (λ w b. refl) (omega (arith, (times v).tau-le))
          (awake-by (left ReflectRefLevel) v low high inside
          (level-below (row v) (left ReflectRefLevel)
          (before-equal (pos (row v).level.tau.0) _ _ ∙ (before-equal (pos (row v).level.oid) _ _
          ∙ before-less (pos (row v).level.r) (pos 1) _ _ (lt_z-pos (row v).level.r 1 (omega arith))))))

      kept-R : before (pair_key (row u).pair) (pair_key (row v).pair) ≡ true → KeptBy Reply
      unfolding same
      kept-R e =
          let awake = not-sink-by-pair n N row u v low high inside (rw (e, and-false)) in
          kept-still n N row u v c Reply (times u) mine awake (to_one refl (λ w b. refl))

      -- two members of different levels: one is below the largest
      below-largest : Found n (of_level N row (row v).level) → (h : Height) → h.level ≡ largest n N row → sink_after h ≡ false
      unfolding of_level level_key
      below-largest f h e = go (choice (N w)) (choice (before (key v) (level_key h.level)))
        where
          w : ℕ
          w = f.at

          key : ℕ → List ℤ
          key x = level_key (row x).level

          apart : N w ≡ true → key v ≡ level_key h.level → Choice (before (key w) (level_key h.level)) → sink_after h ≡ false
          apart i d (yes! q) = awake-by h w f.low f.high i (level-below (row w) h q)
          apart i d (no! q) =
              let differ : same (key w) (key v) ≡ false = rw i at f.fails in
              clash (same_of (key w) (level_key h.level) q (rw e (largest-above n N row w f.low f.high i))) (rw d at differ)

          go : Choice (N w) → Choice (before (key v) (level_key h.level)) → sink_after h ≡ false
          go (no! i) q = clash (rw i) f.fails
          go (yes! i) (yes! q) = awake-by h v low high inside (level-below (row v) h q)
          go (yes! i) (no! q) =
              let d = before-total (key v) (level_key h.level) refl q (rw e (largest-above n N row v low high inside)) in
              apart i d (choice _)

      kept-P : Found n (of_level N row (row v).level) → KeptBy (PropagateLargestRefLevel (largest n N row))
      kept-P f =
          let r = PropagateLargestRefLevel (largest n N row) in
          kept_pair r refl refl (λ w b. refl) (omega (arith, largest-tau n N row c (λ w. (times w).tau-le))) (below-largest f (left r) refl)

      pub answered : (r : Rule) → Verdict n N row u v r → Answered n N row u v (suc c) r (height_after n N row u v (suc c) r)
      answered r (is_a e) = record { kept = kept-A e; reaches = PairLe-refl (row v); back = λ z. clash refl z }
      answered r (is_r e) = record {
        kept = kept-R e;
        reaches = before-asym (pair_key (row u).pair) (pair_key (row v).pair) e;
        back = λ z. clash (eq-eqb v v refl) z;
      }
      answered r (is_q le ge e) = record { kept = kept-Q e; reaches = le; back = λ z. ge }
      answered r (is_f s le t e) = record { kept = kept-F e; reaches = le; back = λ z. clash refl z }
      answered r (is_e s le) = record {
        kept = kept-E;
        reaches = elected-below c (suc c) u (row v) (omega arith) (times v);
        back = λ z. clash refl z;
      }
      answered r (is_s s le) = record { kept = kept-S v low high inside; reaches = le; back = λ z. clash refl z }
      answered r (is_p s le f) = record { kept = kept-P f; reaches = le; back = λ z. clash refl z }

    -- after a down: v has left N
    pub kept-down : Kept n N row u v (suc c) (down_rule n N row u) (height_after n N row u v (suc c) (down_rule n N row u))
    unfolding absent
    kept-down = down_cases n N row u KeptBy kept-E (λ f. kept-S f.at f.low f.high (not-false (N f.at) f.fails)) kept-Q
