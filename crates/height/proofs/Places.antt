-- The place of the first difference: of two keys with one beginning, of turned keys, of keys of which neither is smaller.
use Prim.Native.Nat.{ℕ, suc, ◌+◌}
use native.Mathlib.Omega.{arith}
use mathlib.Core.Path.{◌≡◌, refl, ap, sym, ◌∙◌}
use mathlib.Core.Bool.{true}
use mathlib.Core.List.{List, [], ◌∷◌, ◌++◌}
use lib.IntN.{ℤ}
use lib.ListN.{length}
use lib.Signed.{lt_z}
use Rattle.basics.proofs.Tests.{clash}
use Rattle.height.specs.Comparison.{place_of}
use Rattle.height.specs.Order.{before}
use Rattle.height.proofs.OrderLaws.{Compared, less, equal, more, compared, Split, first, later, split, lt_z-irrefl, lt_z-asym}

pub place-less : (k : ℕ) (x y : ℤ) (xs ys : List ℤ) → lt_z x y ≡ true → place_of k (x ∷ xs) (y ∷ ys) ≡ k
unfolding place_of
place-less k x y xs ys h = rw h

pub place-more : (k : ℕ) (x y : ℤ) (xs ys : List ℤ) → lt_z y x ≡ true → place_of k (x ∷ xs) (y ∷ ys) ≡ k
unfolding place_of
place-more k x y xs ys h = rw (lt_z-asym y x h, h)

pub place-equal : (k : ℕ) (x : ℤ) (xs ys : List ℤ) → place_of k (x ∷ xs) (x ∷ ys) ≡ place_of (suc k) xs ys
unfolding place_of
place-equal k x xs ys = rw (lt_z-irrefl x)

-- one beginning: places go on behind it
pub place-prefix : (k : ℕ) (xs us vs : List ℤ) → place_of k (xs ++ us) (xs ++ vs) ≡ place_of (k + length xs) us vs
place-prefix k [] us vs = ap (λ (j : ℕ). place_of j us vs) (omega arith)
place-prefix k (x ∷ xs) us vs =
    place-equal k x (xs ++ us) (xs ++ vs) ∙ place-prefix (suc k) xs us vs ∙ ap (λ (j : ℕ). place_of j us vs) (omega arith)

pub place-turned : (k : ℕ) (xs ys : List ℤ) → place_of k ys xs ≡ place_of k xs ys
unfolding place_of
place-turned k [] [] = refl
place-turned k [] (y ∷ ys) = refl
place-turned k (x ∷ xs) [] = refl
place-turned k (x ∷ xs) (y ∷ ys) = go (place-turned (suc k) xs ys) (compared x y)
  where
    go : place_of (suc k) ys xs ≡ place_of (suc k) xs ys → Compared x y → place_of k (y ∷ ys) (x ∷ xs) ≡ place_of k (x ∷ xs) (y ∷ ys)
    go ih (less p) = place-more k y x ys xs p ∙ sym (place-less k x y xs ys p)
    go ih (equal e) = rw e (place-equal k y ys xs ∙ ih ∙ sym (place-equal k y xs ys))
    go ih (more p) = place-less k y x ys xs p ∙ sym (place-more k x y xs ys p)

-- decided by a beginning
pub place-append : (k : ℕ) (xs ys : List ℤ) → before xs ys ≡ true → (us vs : List ℤ) → place_of k (xs ++ us) (ys ++ vs) ≡ place_of k xs ys
unfolding before
place-append k [] ys h us vs = clash h refl
place-append k (x ∷ xs) [] h us vs = clash h refl
place-append k (x ∷ xs) (y ∷ ys) h us vs = go (λ p. place-append (suc k) xs ys p us vs) (split x y xs ys h)
  where
    go : (before xs ys ≡ true → place_of (suc k) (xs ++ us) (ys ++ vs) ≡ place_of (suc k) xs ys)
        → Split x y xs ys → place_of k ((x ∷ xs) ++ us) ((y ∷ ys) ++ vs) ≡ place_of k (x ∷ xs) (y ∷ ys)
    go ih (first p) = place-less k x y (xs ++ us) (ys ++ vs) p ∙ sym (place-less k x y xs ys p)
    go ih (later e p) = rw e (place-equal k y (xs ++ us) (ys ++ vs) ∙ ih p ∙ sym (place-equal k y xs ys))
