-- The height that a rule leaves is within the ranges, and so are the zero level, the largest level and the smallest depth.
-- Assumes that what the rule starts from is within the ranges, as parameters.
use Prim.Native.Nat.{ℕ, zero, suc, ◌≤◌}
use native.Mathlib.Omega.{arith}
use mathlib.Core.Bool.{Bool, true, false, cond, ◌&&◌}
use mathlib.Core.List.{List, ◌∷◌}
use mathlib.Core.Path.{◌≡◌, refl}
use lib.IntN.{ℤ, pos, negsuc, suc_ℤ, pred_ℤ}
use lib.Signed.{lt_z}
use borrow.Author.Tests.{ltb-false, le-ltb}
use Rattle.basics.proofs.AllOf.{AllOf, none, more}
use Rattle.basics.proofs.Tests.{and_left}
use Rattle.height.specs.Clock.{last_time}
use Rattle.height.specs.Height.{level_key, zero_level}
use Rattle.height.specs.Order.{before, same}
use Rattle.height.specs.declared.Height.{Height}
use Rattle.height.specs.declared.ReferenceLevel.{ReferenceLevel}
use Rattle.protocol.specs.Holds.{least_delta, greatest_delta}
use Rattle.protocol.specs.Network.{Node}
use Rattle.protocol.specs.Refusal.{too_deep}
use Rattle.protocol.specs.Rules.{down_rule, larger, largest, deltas, smaller, smallest_from, smallest}
use Rattle.protocol.specs.Step.{height_after}
use Rattle.protocol.specs.declared.Rule.TheVariants.{ElectSelf, StartNewRefLevel}
use Rattle.protocol.specs.declared.Rule.{Rule}
use Rattle.protocol.proofs.Ranges.{LevelFits, DeltaFits, HeightFits}
use Rattle.protocol.proofs.RuleCases.{Verdict, is_a, is_r, is_q, is_f, is_e, is_s, is_p, down_cases}
use Rattle.protocol.proofs.RuleLaws.{by_cases}

-- ---- the zero level, the largest level, the smallest depth

pub zero-level : (n : ℕ) → LevelFits n zero_level
zero-level n = record {
  tau-le = omega arith;
  oid-le = omega arith;
  r-le = omega arith;
  unstarted = λ e. refl;
  zeros = λ e. (refl, refl);
}

pub zero-delta : DeltaFits (pos 0)
zero-delta = record { low = refl; high = refl }

largest-fits : (n k : ℕ) (N : ℕ → Bool) (row : ℕ → Height) → ((w : ℕ) → N w ≡ true → LevelFits n (row w).level)
    → LevelFits n (largest k N row)
unfolding largest larger
largest-fits n zero N row h = zero-level n
largest-fits n (suc k) N row h = go (largest-fits n k N row h)
  where
    L : ReferenceLevel
    L = largest k N row

    M : ReferenceLevel
    M = (row (suc k)).level

    go : LevelFits n L → LevelFits n (cond (N (suc k)) (larger L M) L)
    go ih =
        by_cases (LevelFits n) (N (suc k)) (larger L M) L
        (λ i. by_cases (LevelFits n) (before (level_key L) (level_key M)) M L (λ e. h (suc k) i) (λ e. ih)) (λ i. ih)

-- at most the greatest depth
abbrev High : ℤ → Type 0
High d = lt_z greatest_delta d ≡ false

smallest_from-high : (d : ℤ) (ds : List ℤ) → High d → AllOf High ds → High (smallest_from d ds)
smallest_from-high d ds h none = h
smallest_from-high d ds h (more {x = x} {xs = rest} k t) =
    smallest_from-high (smaller d x) rest (by_cases High (lt_z d x) d x (λ e. h) (λ e. k)) t

smallest-high : (ds : List ℤ) → AllOf High ds → High (smallest ds)
smallest-high ds none = refl
smallest-high ds (more {x = x} {xs = rest} k t) = smallest_from-high x rest k t

deltas-high : (k : ℕ) (N : ℕ → Bool) (row : ℕ → Height) (l : ReferenceLevel) → ((w : ℕ) → N w ≡ true → High (row w).delta)
    → AllOf High (deltas k N row l)
unfolding deltas
deltas-high zero N row l h = none
deltas-high (suc k) N row l h = go (deltas-high k N row l h)
  where
    test : Bool
    test = N (suc k) && same (level_key (row (suc k)).level) (level_key l)

    rest : List ℤ
    rest = deltas k N row l

    go : AllOf High rest → AllOf High (cond test ((row (suc k)).delta ∷ rest) rest)
    go ih =
        by_cases (AllOf High) test ((row (suc k)).delta ∷ rest) rest
        (λ e. more (h (suc k) (and_left (N (suc k)) _ e)) ih) (λ e. ih)

pred-high : (d : ℤ) → High d → High (pred_ℤ d)
pred-high (pos zero) h = refl
pred-high (pos (suc a)) h = le-ltb 32767 a (omega (arith, ltb-false 32767 (suc a) h))
pred-high (negsuc a) h = refl

suc-low : (d : ℤ) → lt_z d least_delta ≡ false → lt_z (suc_ℤ d) least_delta ≡ false
suc-low (pos a) h = refl
suc-low (negsuc zero) h = refl
suc-low (negsuc (suc a)) h = le-ltb 32767 a (omega (arith, ltb-false 32767 (suc a) h))

-- ---- the height after a rule

module _ (n : ℕ) (N : ℕ → Bool) (row : ℕ → Height) (u v c : ℕ) (st : Node n u) (own : HeightFits n u (row u)) (intime : suc c ≤ last_time) where
  abbrev FitsAfter : Rule → Type 0
  FitsAfter r = HeightFits n u (height_after n N row u v (suc c) r)

  fits-E : FitsAfter ElectSelf
  fits-E = record {
    level = zero-level n;
    delta = zero-delta;
    pair = record { election = suc c; nlts-is = refl; election-le = intime; lid-low = st.low; lid-high = st.high };
    id = refl;
  }

  fits-S : FitsAfter StartNewRefLevel
  fits-S = record {
    level = record {
      tau-le = intime;
      oid-le = st.high;
      r-le = omega arith;
      unstarted = λ e. absurd (omega arith);
      zeros = λ e. absurd (omega (arith, st.low));
    };
    delta = zero-delta;
    pair = own.pair;
    id = refl;
  }

  -- a rule of a receipt, whose depth test passes
  pub fits-receipt : N v ≡ true → ((w : ℕ) → N w ≡ true → HeightFits n w (row w)) → (r : Rule) → Verdict n N row u v r
      → too_deep r (height_after n N row u v (suc c) r).delta ≡ false
      → HeightFits n u (height_after n N row u v (suc c) r)
  fits-receipt inside views r (is_a e) ok = record {
    level = (views v inside).level;
    delta = record { low = suc-low (row v).delta (views v inside).delta.low; high = ok };
    pair = (views v inside).pair;
    id = refl;
  }
  fits-receipt inside views r (is_r e) ok = own
  fits-receipt inside views r (is_q le ge e) ok = own
  fits-receipt inside views r (is_f s le t e) ok =
      let l = (views v inside).level in
      record {
        level = record {
          tau-le = l.tau-le;
          oid-le = l.oid-le;
          r-le = omega arith;
          unstarted = l.unstarted;
          zeros = λ z. absurd (omega (arith, (l.zeros z).0));
        };
        delta = zero-delta;
        pair = own.pair;
        id = refl;
      }
  fits-receipt inside views r (is_e s le) ok = fits-E
  fits-receipt inside views r (is_s s le) ok = fits-S
  fits-receipt inside views r (is_p s le f) ok =
      let ds = deltas n N row (largest n N row) in
      let high = smallest-high ds (deltas-high n N row (largest n N row) (λ w i. (views w i).delta.high)) in
      record {
        level = largest-fits n n N row (λ w i. (views w i).level);
        delta = record { low = ok; high = pred-high (smallest ds) high };
        pair = own.pair;
        id = refl;
      }

  -- the rule of a down
  pub fits-down : HeightFits n u (height_after n N row u v (suc c) (down_rule n N row u))
  fits-down = down_cases n N row u FitsAfter fits-E (λ _. fits-S) (λ _. own)
