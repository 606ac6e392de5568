-- The lexicographic order on lists of signed numbers: irreflexive, transitive, total at equal lengths, decided by a beginning.
use Prim.Native.Nat.{ℕ, zero, suc, ◌<◌}
use native.Mathlib.Omega.{arith}
use mathlib.Core.Bool.{Bool, true, false}
use mathlib.Core.Path.{◌≡◌, refl, sym, ap, ◌∙◌}
use mathlib.Core.Logic.{◌⊎◌, inl, inr}
use mathlib.Core.List.{List, [], ◌∷◌, ◌++◌}
use lib.IntN.{ℤ, pos, negsuc, neg_ℤ, suc_ℤ}
use lib.Signed.{lt_z}
use lib.Dec.{ltb}
use lib.ListN.{length}
use borrow.Author.Tests.{ltb-true, ltb-false, lt-ltb, le-ltb}
use Rattle.std.proofs.lemmas.Bool.{cases_Bool}
use Rattle.basics.proofs.Tests.{clash, not-true-is-false}
use Rattle.height.specs.Order.{before, same}

pub lt_z-irrefl : (x : ℤ) → lt_z x x ≡ false
lt_z-irrefl (pos a) = le-ltb a a (omega arith)
lt_z-irrefl (negsuc a) = le-ltb a a (omega arith)

pub lt_z-trans : (x y z : ℤ) → lt_z x y ≡ true → lt_z y z ≡ true → lt_z x z ≡ true
lt_z-trans (pos a) (pos b) (pos c) h k = lt-ltb a c (omega (arith, ltb-true a b h, ltb-true b c k))
lt_z-trans (pos a) (pos b) (negsuc c) h k = k
lt_z-trans (pos a) (negsuc b) z h k = clash h refl
lt_z-trans (negsuc a) (pos b) (pos c) h k = refl
lt_z-trans (negsuc a) (pos b) (negsuc c) h k = clash k refl
lt_z-trans (negsuc a) (negsuc b) (pos c) h k = refl
lt_z-trans (negsuc a) (negsuc b) (negsuc c) h k = lt-ltb c a (omega (arith, ltb-true b a h, ltb-true c b k))

pub data Compared (x y : ℤ) : Type 0 where
  less : lt_z x y ≡ true → Compared x y
  equal : x ≡ y → Compared x y
  more : lt_z y x ≡ true → Compared x y

by_tests : (a b : ℕ) (s t : Bool) → ltb a b ≡ s → ltb b a ≡ t → (a < b) ⊎ ((a ≡ b) ⊎ (b < a))
by_tests a b true t p q = inl (ltb-true a b p)
by_tests a b false true p q = inr (inr (ltb-true b a q))
by_tests a b false false p q = inr (inl (omega (arith, ltb-false a b p, ltb-false b a q)))

compared_pos : (a b : ℕ) → (a < b) ⊎ ((a ≡ b) ⊎ (b < a)) → Compared (pos a) (pos b)
compared_pos a b (inl h) = less (lt-ltb a b h)
compared_pos a b (inr (inl e)) = equal (ap pos e)
compared_pos a b (inr (inr h)) = more (lt-ltb b a h)

compared_neg : (a b : ℕ) → (a < b) ⊎ ((a ≡ b) ⊎ (b < a)) → Compared (negsuc a) (negsuc b)
compared_neg a b (inl h) = more (lt-ltb a b h)
compared_neg a b (inr (inl e)) = equal (ap negsuc e)
compared_neg a b (inr (inr h)) = less (lt-ltb b a h)

pub compared : (x y : ℤ) → Compared x y
compared (pos a) (pos b) = compared_pos a b (by_tests a b (ltb a b) (ltb b a) refl refl)
compared (pos a) (negsuc b) = more refl
compared (negsuc a) (pos b) = less refl
compared (negsuc a) (negsuc b) = compared_neg a b (by_tests a b (ltb a b) (ltb b a) refl refl)

pub lt_z-asym : (x y : ℤ) → lt_z x y ≡ true → lt_z y x ≡ false
lt_z-asym x y h = not-true-is-false (lt_z y x) (λ k. clash (lt_z-trans x y x h k) (lt_z-irrefl x))

pub before-less : (x y : ℤ) (xs ys : List ℤ) → lt_z x y ≡ true → before (x ∷ xs) (y ∷ ys) ≡ true
unfolding before
before-less x y xs ys h = rw h

pub before-equal : (x : ℤ) (xs ys : List ℤ) → before (x ∷ xs) (x ∷ ys) ≡ before xs ys
unfolding before
before-equal x xs ys = rw (lt_z-irrefl x)

pub before_more : (x y : ℤ) (xs ys : List ℤ) → lt_z y x ≡ true → before (x ∷ xs) (y ∷ ys) ≡ false
unfolding before
before_more x y xs ys h = rw (lt_z-asym y x h, h)

pub before-irrefl : (xs : List ℤ) → before xs xs ≡ false
unfolding before
before-irrefl [] = refl
before-irrefl (x ∷ xs) = before-equal x xs xs ∙ before-irrefl xs

-- the first difference, or the tails
pub data Split (x y : ℤ) (xs ys : List ℤ) : Type 0 where
  first : lt_z x y ≡ true → Split x y xs ys
  later : x ≡ y → before xs ys ≡ true → Split x y xs ys

pub split : (x y : ℤ) (xs ys : List ℤ) → before (x ∷ xs) (y ∷ ys) ≡ true → Split x y xs ys
split x y xs ys h = go (compared x y)
  where
    go : Compared x y → Split x y xs ys
    go (less k) = first k
    go (equal e) = later e (sym (before-equal y xs ys) ∙ (rw e at h))
    go (more k) = clash h (before_more x y xs ys k)

pub before-trans : (xs ys zs : List ℤ) → before xs ys ≡ true → before ys zs ≡ true → before xs zs ≡ true
unfolding before
before-trans [] ys zs h k = clash h refl
before-trans (x ∷ xs) [] zs h k = clash h refl
before-trans (x ∷ xs) (y ∷ ys) [] h k = clash k refl
before-trans (x ∷ xs) (y ∷ ys) (z ∷ zs) h k = go (before-trans xs ys zs) (split x y xs ys h) (split y z ys zs k)
  where
    go : (before xs ys ≡ true → before ys zs ≡ true → before xs zs ≡ true)
        → Split x y xs ys → Split y z ys zs → before (x ∷ xs) (z ∷ zs) ≡ true
    go ih (first p) (first q) = before-less x z xs zs (lt_z-trans x y z p q)
    go ih (first p) (later e q) = before-less x z xs zs (rw e at p)
    go ih (later d p) (first q) = before-less x z xs zs (rw d q)
    go ih (later d p) (later e q) = rw (d, e) (before-equal z xs zs ∙ ih p q)

pub before-asym : (xs ys : List ℤ) → before xs ys ≡ true → before ys xs ≡ false
before-asym xs ys h = not-true-is-false (before ys xs) (λ k. clash (before-trans xs ys xs h k) (before-irrefl xs))

-- neither before the other: equal, at equal lengths
pub before-total : (xs ys : List ℤ) → length xs ≡ length ys → before xs ys ≡ false → before ys xs ≡ false → xs ≡ ys
unfolding before
before-total [] [] e h k = refl
before-total [] (y ∷ ys) e h k = absurd (omega arith)
before-total (x ∷ xs) [] e h k = absurd (omega arith)
before-total (x ∷ xs) (y ∷ ys) e h k = go (before-total xs ys (omega arith)) (compared x y)
  where
    go : (before xs ys ≡ false → before ys xs ≡ false → xs ≡ ys) → Compared x y → (x ∷ xs) ≡ (y ∷ ys)
    go ih (less p) = clash (before-less x y xs ys p) h
    go ih (equal d) =
        let h' : before xs ys ≡ false = sym (before-equal y xs ys) ∙ (rw d at h) in
        let k' : before ys xs ≡ false = sym (before-equal y ys xs) ∙ (rw d at k) in
        let t : xs ≡ ys = ih h' k' in
        cc
    go ih (more p) = clash (before-less y x ys xs p) k

-- decided by a beginning
pub before-append : (xs ys : List ℤ) → before xs ys ≡ true → (r s : List ℤ) → before (xs ++ r) (ys ++ s) ≡ true
unfolding before
before-append [] ys h r s = clash h refl
before-append (x ∷ xs) [] h r s = clash h refl
before-append (x ∷ xs) (y ∷ ys) h r s = go (before-append xs ys) (split x y xs ys h)
  where
    go : (before xs ys ≡ true → (r s : List ℤ) → before (xs ++ r) (ys ++ s) ≡ true)
        → Split x y xs ys → before ((x ∷ xs) ++ r) ((y ∷ ys) ++ s) ≡ true
    go ih (first p) = before-less x y (xs ++ r) (ys ++ s) p
    go ih (later e p) = rw e (before-equal y (xs ++ r) (ys ++ s) ∙ ih p r s)

-- "not before" is transitive, at equal lengths
pub not-before-trans : (xs ys zs : List ℤ) → length xs ≡ length ys → before ys xs ≡ false → before zs ys ≡ false → before zs xs ≡ false
not-before-trans xs ys zs e h k = not-true-is-false (before zs xs) (λ q. go q (cases_Bool (before xs ys)))
  where
    go : before zs xs ≡ true → (before xs ys ≡ true) ⊎ (before xs ys ≡ false) → ⊥
    go q (inl p) = clash (before-trans zs xs ys q p) k
    go q (inr p) = let d : xs ≡ ys = before-total xs ys e p h in clash (rw d at q) k

pub lt_z-pos : (a b : ℕ) → a < b → lt_z (pos a) (pos b) ≡ true
lt_z-pos a b h = lt-ltb a b h

pub lt_z-suc : (x : ℤ) → lt_z x (suc_ℤ x) ≡ true
lt_z-suc (pos a) = lt-ltb a (suc a) (omega arith)
lt_z-suc (negsuc zero) = refl
lt_z-suc (negsuc (suc a)) = lt-ltb a (suc a) (omega arith)

pub lt_z-neg : (c t : ℕ) → c < t → lt_z (neg_ℤ (pos t)) (neg_ℤ (pos c)) ≡ true
lt_z-neg c zero h = absurd (omega arith)
lt_z-neg zero (suc t) h = refl
lt_z-neg (suc c) (suc t) h = lt-ltb c t (omega arith)

pub same_of : (xs ys : List ℤ) → before xs ys ≡ false → before ys xs ≡ false → same xs ys ≡ true
unfolding same
same_of xs ys h k = rw (h, k)

pub same-is : (xs ys : List ℤ) → length xs ≡ length ys → same xs ys ≡ true → xs ≡ ys
unfolding same
same-is xs ys e h = go (cases_Bool (before xs ys)) (cases_Bool (before ys xs))
  where
    go : (before xs ys ≡ true) ⊎ (before xs ys ≡ false) → (before ys xs ≡ true) ⊎ (before ys xs ≡ false) → xs ≡ ys
    go (inl p) q = clash h (rw p)
    go (inr p) (inl q) = clash h (rw (p, q))
    go (inr p) (inr q) = before-total xs ys e p q

pub same_refl : (xs : List ℤ) → same xs xs ≡ true
unfolding same
same_refl xs = rw (before-irrefl xs)
