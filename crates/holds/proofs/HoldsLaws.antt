-- The rules of a height and of two sets as the code tests them: ranges that every word keeps are left out.
use Prim.Native.Nat.{ℕ, zero, suc, ◌+◌, ◌-◌, ◌*◌, ◌%◌, ◌^◌, ◌≤◌, ◌<◌}
use native.Mathlib.Omega.{arith}
use mathlib.Core.Bool.{Bool, true, false, not, ◌&&◌, ◌||◌, and_assoc, and-true, and-false}
use mathlib.Core.List.{List}
use mathlib.Core.Logic.{◌⊎◌, inl, inr}
use mathlib.Core.Path.{◌≡◌, refl, sym, ap, ◌∙◌}
use lib.Dec.{eqb, eqb-suc-zero, ltb, leb, leb-suc-suc, lit<}
use lib.IntN.{ℤ, pos, negsuc, neg_ℤ, nat_abs}
use lib.ListN.{get_or}
use lib.Pow.{pow_mono, shl_exact}
use lib.Signed.{le_z}
use borrow.Author.Tests.{ltb-true, le-leb, lt-leb}
use Rattle.basics.specs.Functions.{every}
use Rattle.basics.proofs.Tests.{clash, Choice, yes!, no!, choice, and_left, and_right, and_both, equal?}
use Rattle.height.specs.Clock.{last_time}
use Rattle.height.specs.inner.Stored.{Negated}
use Rattle.height.specs.Words.{height_at}
use Rattle.height.specs.declared.Height.{Height}
use Rattle.height.specs.declared.ReferenceLevel.{ReferenceLevel}
use Rattle.height.proofs.WordsLaws.{nat_abs-neg}
use Rattle.nodeset.specs.NodeSet.{member, within, apart}
use Rattle.nodeset.proofs.Members.{none_above}
use Rattle.protocol.specs.Holds.{level_holds, delta_holds, leader_pair_holds, height_holds, not_in_both, sets_hold}
use Rattle.protocol.specs.Times.{times_within}
use Rattle.protocol.proofs.Ranges.{negated-le, height-fits}

-- ---- a height

-- the test of a level of search time t, originator o and bit r
level_test : ℕ → ℕ → ℕ → ℕ → Bool
level_test n t o r = leb o n && leb r 1 && (eqb o 0 && (eqb t 0 && eqb r 0) || not (eqb o 0) && not (eqb t 0))

none-test : (n o r : ℕ) → (eqb o 0 && eqb r 0) ≡ level_test n 0 o r
unfolding level_test
none-test n zero zero = rw (le-leb 0 n (omega arith))
none-test n zero (suc r) = rw (eqb-suc-zero r) (sym (and-false (leb 0 n && leb (suc r) 1)))
none-test n (suc o) r = rw (eqb-suc-zero o) (sym (and-false (leb (suc o) n && leb r 1)))

some-test : (n t o r : ℕ) → (leb 1 o && leb o n && leb r 1) ≡ level_test n (suc t) o r
unfolding level_test
some-test n t zero r = rw (eqb-suc-zero t) (sym (and-false (leb 0 n && leb r 1)))
some-test n t (suc o) r = rw (eqb-suc-zero t, eqb-suc-zero o, le-leb 1 (suc o) (omega arith)) (sym (and-true (leb (suc o) n && leb r 1)))

-- a level of a search time at most c: without a search, originator and bit are 0
pub level-none : (n c : ℕ) (l : ReferenceLevel) → l.tau.0 ≡ 0 → (eqb l.oid 0 && eqb l.r 0) ≡ (level_holds n l && leb l.tau.0 c)
unfolding level_holds level_test
level-none n c l e = rw (e, le-leb 0 c (omega arith)) (none-test n l.oid l.r ∙ sym (and-true (level_test n 0 l.oid l.r)))

-- with a search there is an originator
pub level-some : (n c : ℕ) (l : ReferenceLevel) → l.tau.0 ≤ last_time → 0 < l.tau.0
    → (leb 1 l.oid && leb l.oid n && leb l.r 1 && leb l.tau.0 c) ≡ (level_holds n l && leb l.tau.0 c)
unfolding level_holds level_test
level-some n c l h p =
    let e : l.tau.0 ≡ suc (l.tau.0 - 1) = omega arith in
    let q : (leb 1 l.oid && leb l.oid n && leb l.r 1) ≡ level_test n l.tau.0 l.oid l.r =
    some-test n (l.tau.0 - 1) l.oid l.r ∙ ap (λ (t : ℕ). level_test n t l.oid l.r) (sym e) in
    rw (le-leb l.tau.0 last_time h, q)

pub negated-range : (z : ℤ) → Negated z → (le_z (neg_ℤ (pos last_time)) z && le_z z (pos 0)) ≡ true
unfolding Negated
negated-range (pos n) h = le-leb n 0 h
negated-range (negsuc n) h = rw (le-leb n 4294967294 h)

-- an election time as a word
negated_word : (w : ℕ) → w ≤ last_time → Negated (neg_ℤ (pos w))
unfolding Negated
negated_word zero l = omega arith
negated_word (suc w) l = omega arith

module _ (n k : ℕ) (h : Height) (negated : Negated h.pair.nlts.0) where
  height-test : (level_holds n h.level && delta_holds h.delta && leb 1 h.pair.lid && leb h.pair.lid n && eqb h.id k)
      ≡ height_holds n k h
  unfolding height_holds leader_pair_holds
  height-test =
      rw (
        negated-range h.pair.nlts.0 negated,
        and_assoc (level_holds n h.level && delta_holds h.delta) (leb 1 h.pair.lid) (leb h.pair.lid n),
      )

-- ---- its times

-- an election time without its sign
elected-within : (c : ℕ) (z : ℤ) → Negated z → leb (nat_abs z) c ≡ le_z (neg_ℤ (pos c)) z
unfolding Negated
elected-within zero (pos zero) h = refl
elected-within (suc c) (pos zero) h = le-leb 0 (suc c) (omega arith)
elected-within c (pos (suc n)) h = absurd (omega arith)
elected-within zero (negsuc n) h = lt-leb (suc n) 0 (omega arith)
elected-within (suc c) (negsuc n) h = leb-suc-suc n c

module _ (c : ℕ) (ws : List ℕ) (at : ℕ) where
  pub times-test : get_or ws (at + 4) 0 ≤ last_time → (leb (get_or ws at 0) c && leb (get_or ws (at + 4) 0) c) ≡ times_within c (height_at ws at)
  unfolding times_within height_at
  times-test word =
      ap (λ (b : Bool). leb (get_or ws at 0) c && b)
      (ap (λ (w : ℕ). leb w c) (sym (nat_abs-neg (get_or ws (at + 4) 0))) ∙ elected-within c (neg_ℤ (pos (get_or ws (at + 4) 0))) (negated_word (get_or ws (at + 4) 0) word))

-- the times of a height that holds are at most the last time
pub any-times : (n k : ℕ) (h : Height) → (height_holds n k h && times_within last_time h) ≡ height_holds n k h
unfolding times_within
any-times n k h = go (choice (height_holds n k h))
  where
    go : Choice (height_holds n k h) → (height_holds n k h && times_within last_time h) ≡ height_holds n k h
    go (no! e) = rw e
    go (yes! e) =
        let f = height-fits n k h e in
        rw (e, f.pair.nlts-is) (and_both (le-leb h.level.tau.0 last_time f.level.tau-le) (negated-le last_time f.pair.election f.pair.election-le))

-- ---- a height and its times, from `at` on, test by test

module _ (n k c : ℕ) (ws : List ℕ) (at : ℕ) (word : get_or ws (at + 4) 0 ≤ last_time) where
  abbrev H : Height
  H = height_at ws at

  abbrev Passes : Bool
  Passes = height_holds n k H && times_within c H

  -- the tests: level, depth, leader (two) and station; search time and election time
  abbrev L : Bool
  L = level_holds n H.level

  abbrev D : Bool
  D = delta_holds H.delta

  abbrev A : Bool
  A = leb 1 H.pair.lid

  abbrev B : Bool
  B = leb H.pair.lid n

  abbrev S : Bool
  S = eqb H.id k

  abbrev T : Bool
  T = leb (get_or ws at 0) c

  abbrev E : Bool
  E = leb (get_or ws (at + 4) 0) c

  whole : (L && D && A && B && S && (T && E)) ≡ Passes
  unfolding height_at
  whole = rw (times-test c ws at word, height-test n k H (negated_word (get_or ws (at + 4) 0) word))

  pub other-node : S ≡ false → false ≡ Passes
  other-node q = go (L && D && A && B) ∙ (rw q at whole)
    where
      go : (x : Bool) → false ≡ (x && false && (T && E))
      go true = refl
      go false = refl

  pub bad-level : (L && T) ≡ false → false ≡ Passes
  bad-level q = go L T q ∙ whole
    where
      go : (l t : Bool) → (l && t) ≡ false → false ≡ (l && D && A && B && S && (t && E))
      go true true q = clash refl q
      go true false q = sym (and-false (D && A && B && S))
      go false t q = refl

  pub bad-delta : D ≡ false → false ≡ Passes
  bad-delta q = go L ∙ (rw q at whole)
    where
      go : (l : Bool) → false ≡ (l && false && A && B && S && (T && E))
      go true = refl
      go false = refl

  pub late-election : E ≡ false → false ≡ Passes
  late-election q = go (L && D && A && B && S) T ∙ (rw q at whole)
    where
      go : (x t : Bool) → false ≡ (x && (t && false))
      go true true = refl
      go true false = refl
      go false t = refl

  pub by-leader : S ≡ true → (L && T) ≡ true → D ≡ true → E ≡ true → (A && B) ≡ Passes
  by-leader s l d e = go A B ∙ (rw (and_left L T l, d, s, and_right L T l, e) at whole)
    where
      go : (a b : Bool) → (a && b) ≡ (a && b && true && true)
      go true true = refl
      go true false = refl
      go false b = refl

-- ---- two sets

apart-every : (n : ℕ) (f g : ℕ → Bool) → apart n f g ≡ every n (not_in_both f g)
unfolding apart every not_in_both
apart-every zero f g = refl
apart-every (suc n) f g = rw (apart-every n f g)

-- nodes above n do not count where none of them passes
apart_more : (n m : ℕ) (f g : ℕ → Bool) → n ≤ m → ((k : ℕ) → n < k → f k ≡ false) → apart m f g ≡ apart n f g
unfolding apart
apart_more n zero f g l h = let e : n ≡ 0 = omega arith in rw e
apart_more n (suc m) f g l h = go (λ (q : n ≤ m). apart_more n m f g q h) (equal? n (suc m))
  where
    go : (n ≤ m → apart m f g ≡ apart n f g) → (n ≡ suc m) ⊎ (n ≡ suc m → ⊥) → apart (suc m) f g ≡ apart n f g
    go ih (inl e) = rw e
    go ih (inr d) = rw (h (suc m) (omega arith)) (ih (omega arith))

-- the code's 1 << n
end_is : (n : ℕ) → n ≤ 16 → (1 * 2 ^ n) % 2 ^ 32 ≡ 2 ^ n
end_is n few = shl_exact 1 n 32 (lit< tt) (omega arith) ∙ omega arith

module _ (n N F : ℕ) (few : n ≤ 16) where
  pub sets-low : (ltb N ((1 * 2 ^ n) % 2 ^ 32) && ltb F ((1 * 2 ^ n) % 2 ^ 32)) ≡ true → (N < 65536) × (F < 65536)
  sets-low e =
      let q : (ltb N (2 ^ n) && ltb F (2 ^ n)) ≡ true = rw (end_is n few) at e in
      let l : N < 2 ^ n = ltb-true N (2 ^ n) (and_left (ltb N (2 ^ n)) (ltb F (2 ^ n)) q) in
      let h : F < 2 ^ n = ltb-true F (2 ^ n) (and_right (ltb N (2 ^ n)) (ltb F (2 ^ n)) q) in
      let b = pow_mono {i = n} {j = 16} few in
      (omega arith, omega arith)

  module _ (u : ℕ) where
    pub sets-inside : (ltb N ((1 * 2 ^ n) % 2 ^ 32) && ltb F ((1 * 2 ^ n) % 2 ^ 32)) ≡ true
        → (apart 16 (member N) (member F) && not (member N u) && not (member F u))
        ≡ (within n N && within n F && sets_hold n u (member N) (member F))
    unfolding within sets_hold
    sets-inside e =
        let q : (ltb N (2 ^ n) && ltb F (2 ^ n)) ≡ true = rw (end_is n few) at e in
        let l : N < 2 ^ n = ltb-true N (2 ^ n) (and_left (ltb N (2 ^ n)) (ltb F (2 ^ n)) q) in
        rw (q, apart_more n 16 (member N) (member F) few (λ k m. none_above n N k l m), apart-every n (member N) (member F))

    pub sets-outside : (ltb N ((1 * 2 ^ n) % 2 ^ 32) && ltb F ((1 * 2 ^ n) % 2 ^ 32)) ≡ false
        → false ≡ (within n N && within n F && sets_hold n u (member N) (member F))
    unfolding within
    sets-outside e = let q : (ltb N (2 ^ n) && ltb F (2 ^ n)) ≡ false = rw (end_is n few) at e in rw q
