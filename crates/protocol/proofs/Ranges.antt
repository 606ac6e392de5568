-- The ranges of a height as facts: exactly what passes the tests of Holds.antt.
use Prim.Native.Nat.{ℕ, zero, suc, ◌≤◌}
use native.Mathlib.Omega.{arith}
use mathlib.Core.Bool.{Bool, true, false, not, ◌&&◌, ◌||◌}
use mathlib.Core.Logic.{inl, inr}
use mathlib.Core.Path.{◌≡◌, refl}
use lib.Dec.{eqb, leb}
use lib.IntN.{ℤ, pos, negsuc, neg_ℤ}
use lib.Signed.{lt_z, le_z}
use borrow.Author.Tests.{eqb-true, eq-eqb, ne_eqb, leb-true, ltb-false, le-leb, le-ltb}
use Rattle.basics.proofs.Tests.{clash, SameOrNot, equal?, and_left, and_right}
use Rattle.height.specs.Clock.{last_time}
use Rattle.height.specs.Height.{level_key, pair_key, height_key, zero_height}
use Rattle.height.specs.Order.{same}
use Rattle.height.specs.declared.Height.{Height}
use Rattle.height.specs.declared.LeaderPair.{LeaderPair}
use Rattle.height.specs.declared.ReferenceLevel.{ReferenceLevel}
use Rattle.height.proofs.OrderLaws.{same-is}
use Rattle.protocol.specs.Holds.{level_holds, least_delta, greatest_delta, delta_holds, leader_pair_holds, height_holds}

pub record LevelFits (n : ℕ) (l : ReferenceLevel) : Type 0 where
  pub tau-le : l.tau.0 ≤ last_time
  pub oid-le : l.oid ≤ n
  pub r-le : l.r ≤ 1
  pub unstarted : l.tau.0 ≡ 0 → l.oid ≡ 0
  pub zeros : l.oid ≡ 0 → (l.tau.0 ≡ 0) × (l.r ≡ 0)

pub record DeltaFits (d : ℤ) : Type 0 where
  pub low : lt_z d least_delta ≡ false
  pub high : lt_z greatest_delta d ≡ false

pub record PairFits (n : ℕ) (q : LeaderPair) : Type 0 where
  pub election : ℕ
  pub nlts-is : q.nlts.0 ≡ neg_ℤ (pos election)
  pub election-le : election ≤ last_time
  pub lid-low : 1 ≤ q.lid
  pub lid-high : q.lid ≤ n

pub record HeightFits (n k : ℕ) (h : Height) : Type 0 where
  pub level : LevelFits n h.level
  pub delta : DeltaFits h.delta
  pub pair : PairFits n h.pair
  pub id : h.id ≡ k

-- ---- such a height passes the tests

le_z-lt_z : (a b : ℤ) → lt_z b a ≡ false → le_z a b ≡ true
le_z-lt_z (pos a) (pos b) e = le-leb a b (ltb-false b a e)
le_z-lt_z (pos a) (negsuc b) e = clash refl e
le_z-lt_z (negsuc a) (pos b) e = refl
le_z-lt_z (negsuc a) (negsuc b) e = le-leb b a (ltb-false a b e)

pub negated-le : (c e : ℕ) → e ≤ c → le_z (neg_ℤ (pos c)) (neg_ℤ (pos e)) ≡ true
negated-le zero zero h = refl
negated-le zero (suc e) h = absurd (omega arith)
negated-le (suc c) zero h = refl
negated-le (suc c) (suc e) h = le-leb e c (omega arith)

pub negated-low : (e : ℕ) → le_z (neg_ℤ (pos e)) (pos 0) ≡ true
negated-low zero = refl
negated-low (suc e) = refl

-- a number between −c and 0 is the negation of one up to c
pub record Negation (c : ℕ) (z : ℤ) : Type 0 where
  pub size : ℕ
  pub is : z ≡ neg_ℤ (pos size)
  pub size-le : size ≤ c

pub negation : (c : ℕ) (z : ℤ) → le_z (neg_ℤ (pos c)) z ≡ true → le_z z (pos 0) ≡ true → Negation c z
negation c (pos zero) e h = record { size = 0; is = refl; size-le = omega arith }
negation c (pos (suc n)) e h = absurd (omega (arith, leb-true (suc n) 0 h))
negation zero (negsuc n) e h = clash e refl
negation (suc c) (negsuc n) e h = record { size = suc n; is = refl; size-le = omega (arith, leb-true n c e) }

level_holds-fits : (n : ℕ) (l : ReferenceLevel) → LevelFits n l → level_holds n l ≡ true
unfolding level_holds
level_holds-fits n l f = rw (le-leb _ last_time f.tau-le, le-leb _ n f.oid-le, le-leb _ 1 f.r-le) (go (equal? l.oid 0))
  where
    go : SameOrNot l.oid 0
        → (eqb l.oid 0 && (eqb l.tau.0 0 && eqb l.r 0) || not (eqb l.oid 0) && not (eqb l.tau.0 0)) ≡ true
    go (inl e) = let z = f.zeros e in rw (eq-eqb _ 0 e, eq-eqb _ 0 z.0, eq-eqb _ 0 z.1)
    go (inr d) = rw (ne_eqb _ 0 d, ne_eqb _ 0 (λ t. d (f.unstarted t)))

pub height-holds : (n k : ℕ) (h : Height) → HeightFits n k h → height_holds n k h ≡ true
unfolding height_holds delta_holds leader_pair_holds
height-holds n k h f =
    let q = f.pair in
    let e : le_z (neg_ℤ (pos last_time)) h.pair.nlts.0 ≡ true = rw q.nlts-is (negated-le last_time q.election q.election-le) in
    let z : le_z h.pair.nlts.0 (pos 0) ≡ true = rw q.nlts-is (negated-low q.election) in
    rw (
      level_holds-fits n h.level f.level,
      le_z-lt_z least_delta h.delta f.delta.low,
      le_z-lt_z h.delta greatest_delta f.delta.high,
      e,
      z,
      le-leb 1 h.pair.lid q.lid-low,
      le-leb h.pair.lid n q.lid-high,
    ) (eq-eqb h.id k f.id)

-- ---- a height that passes the tests is such a height

lt_z-le_z : (a b : ℤ) → le_z a b ≡ true → lt_z b a ≡ false
lt_z-le_z (pos a) (pos b) e = le-ltb b a (leb-true a b e)
lt_z-le_z (pos a) (negsuc b) e = clash e refl
lt_z-le_z (negsuc a) (pos b) e = refl
lt_z-le_z (negsuc a) (negsuc b) e = le-ltb a b (leb-true b a e)

-- a: no originator, b: no search time, c: bit 0
both_zero : (a b c : Bool) → (a && (b && c) || not a && not b) ≡ true → a ≡ true → (b ≡ true) × (c ≡ true)
both_zero true true true e h = (refl, refl)
both_zero true true false e h = clash e refl
both_zero true false c e h = clash e refl
both_zero false b c e h = clash h refl

no-search : (a b c : Bool) → (a && (b && c) || not a && not b) ≡ true → b ≡ true → a ≡ true
no-search true b c e h = refl
no-search false true c e h = clash e refl
no-search false false c e h = clash h refl

level-fits : (n : ℕ) (l : ReferenceLevel) → level_holds n l ≡ true → LevelFits n l
unfolding level_holds
level-fits n l e =
    let abc = and_left (x && y && z) zeros e in
    let ab = and_left (x && y) z abc in
    let d = and_right (x && y && z) zeros e in
    record {
      tau-le = leb-true l.tau.0 last_time (and_left x y ab);
      oid-le = leb-true l.oid n (and_right x y ab);
      r-le = leb-true l.r 1 (and_right (x && y) z abc);
      unstarted = λ t. eqb-true l.oid 0 (no-search (eqb l.oid 0) (eqb l.tau.0 0) (eqb l.r 0) d (eq-eqb l.tau.0 0 t));
      zeros = λ o.
          let q = both_zero (eqb l.oid 0) (eqb l.tau.0 0) (eqb l.r 0) d (eq-eqb l.oid 0 o) in
          (eqb-true l.tau.0 0 q.0, eqb-true l.r 0 q.1);
    }
  where
    x : Bool
    x = leb l.tau.0 last_time

    y : Bool
    y = leb l.oid n

    z : Bool
    z = leb l.r 1

    zeros : Bool
    zeros = eqb l.oid 0 && (eqb l.tau.0 0 && eqb l.r 0) || not (eqb l.oid 0) && not (eqb l.tau.0 0)

delta-fits : (d : ℤ) → delta_holds d ≡ true → DeltaFits d
unfolding delta_holds
delta-fits d e = record {
  low = lt_z-le_z least_delta d (and_left (le_z least_delta d) (le_z d greatest_delta) e);
  high = lt_z-le_z d greatest_delta (and_right (le_z least_delta d) (le_z d greatest_delta) e);
}

pair_fits : (n : ℕ) (q : LeaderPair) → leader_pair_holds n q ≡ true → PairFits n q
unfolding leader_pair_holds
pair_fits n q e =
    let abc = and_left (x && y && z) (leb q.lid n) e in
    let ab = and_left (x && y) z abc in
    let t = negation last_time q.nlts.0 (and_left x y ab) (and_right x y ab) in
    record {
      election = t.size;
      nlts-is = t.is;
      election-le = t.size-le;
      lid-low = leb-true 1 q.lid (and_right (x && y) z abc);
      lid-high = leb-true q.lid n (and_right (x && y && z) (leb q.lid n) e);
    }
  where
    x : Bool
    x = le_z (neg_ℤ (pos last_time)) q.nlts.0

    y : Bool
    y = le_z q.nlts.0 (pos 0)

    z : Bool
    z = leb 1 q.lid

pub height-fits : (n k : ℕ) (h : Height) → height_holds n k h ≡ true → HeightFits n k h
unfolding height_holds
height-fits n k h e =
    let abc = and_left (x && y && z) (eqb h.id k) e in
    let ab = and_left (x && y) z abc in
    record {
      level = level-fits n h.level (and_left x y ab);
      delta = delta-fits h.delta (and_right x y ab);
      pair = pair_fits n h.pair (and_right (x && y) z abc);
      id = eqb-true h.id k (and_right (x && y && z) (eqb h.id k) e);
    }
  where
    x : Bool
    x = level_holds n h.level

    y : Bool
    y = delta_holds h.delta

    z : Bool
    z = leader_pair_holds n h.pair

-- the zero height is known by its key
pub zero-height : (h : Height) → same (height_key h) (height_key zero_height) ≡ true → h ≡ zero_height
unfolding height_key level_key pair_key
zero-height h e =
    let k : height_key h ≡ height_key zero_height = same-is (height_key h) (height_key zero_height) refl e in
    let tau : h.level.tau.0 ≡ 0 = cc in
    let oid : h.level.oid ≡ 0 = cc in
    let r : h.level.r ≡ 0 = cc in
    let delta : h.delta ≡ pos 0 = cc in
    let nlts : h.pair.nlts.0 ≡ pos 0 = cc in
    let lid : h.pair.lid ≡ 0 = cc in
    let id : h.id ≡ 0 = cc in
    λ i. record {
      level = record { tau = record { 0 = tau i }; oid = oid i; r = r i };
      delta = delta i;
      pair = record { nlts = record { 0 = nlts i }; lid = lid i };
      id = id i;
    }
