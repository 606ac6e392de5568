-- The first difference of two keys of one length: there is one, or they are the same; and it decides order and place.
use Prim.Native.Nat.{ℕ, zero, suc, ◌+◌, ◌<◌}
use native.Mathlib.Omega.{arith}
use mathlib.Core.Bool.{true}
use mathlib.Core.Path.{◌≡◌, refl, sym, ◌∙◌}
use mathlib.Core.List.{List, [], ◌∷◌}
use lib.IntN.{ℤ, pos}
use lib.ListN.{length, get_or}
use lib.Signed.{lt_z}
use Rattle.height.specs.Comparison.{place_of}
use Rattle.height.specs.Order.{before}
use Rattle.height.proofs.OrderLaws.{Compared, less, equal, more, compared, before-less, before-equal}
use Rattle.height.proofs.Places.{place-less, place-equal}

-- before index i the numbers of xs and ys agree, and at i that of xs is the smaller
pub record FirstLess (i : ℕ) (xs ys : List ℤ) : Type 0 where
  pub inside : i < length xs
  pub agree : (j : ℕ) → j < i → get_or xs j (pos 0) ≡ get_or ys j (pos 0)
  pub decides : lt_z (get_or xs i (pos 0)) (get_or ys i (pos 0)) ≡ true

pub data Found (xs ys : List ℤ) : Type 0 where
  none : xs ≡ ys → Found xs ys
  below : (i : ℕ) → FirstLess i xs ys → Found xs ys
  above : (i : ℕ) → FirstLess i ys xs → Found xs ys

-- one equal number before both
one_more : {x y : ℤ} {xs ys : List ℤ} {i : ℕ} → x ≡ y → FirstLess i xs ys → FirstLess (suc i) (x ∷ xs) (y ∷ ys)
one_more {x} {y} {xs} {ys} {i} e f = record { inside = omega (arith, f.inside); agree = agree; decides = f.decides }
  where
    agree : (j : ℕ) → j < suc i → get_or (x ∷ xs) j (pos 0) ≡ get_or (y ∷ ys) j (pos 0)
    agree zero h = e
    agree (suc j) h = f.agree j (omega (arith, h))

at_once : {x y : ℤ} {xs ys : List ℤ} → lt_z x y ≡ true → FirstLess 0 (x ∷ xs) (y ∷ ys)
at_once p = record { inside = omega arith; agree = λ j h. absurd (omega (arith, h)); decides = p }

pub found : (xs ys : List ℤ) → length xs ≡ length ys → Found xs ys
found [] [] e = none refl
found [] (y ∷ ys) e = absurd (omega arith)
found (x ∷ xs) [] e = absurd (omega arith)
found (x ∷ xs) (y ∷ ys) e = go (compared x y) (found xs ys (omega arith))
  where
    behind : x ≡ y → Found xs ys → Found (x ∷ xs) (y ∷ ys)
    behind d (none t) = none cc
    behind d (below i f) = below (suc i) (one_more d f)
    behind d (above i f) = above (suc i) (one_more (sym d) f)

    go : Compared x y → Found xs ys → Found (x ∷ xs) (y ∷ ys)
    go (less p) t = below 0 (at_once p)
    go (equal d) t = behind d t
    go (more p) t = above 0 (at_once p)

-- places counted from k
pub decided : (i k : ℕ) (xs ys : List ℤ) → length xs ≡ length ys → FirstLess i xs ys → (before xs ys ≡ true) × (place_of k xs ys ≡ k + i)
decided i k [] ys e f = absurd (omega (arith, f.inside))
decided i k (x ∷ xs) [] e f = absurd (omega (arith, e))
decided zero k (x ∷ xs) (y ∷ ys) e f = (before-less x y xs ys f.decides, place-less k x y xs ys f.decides ∙ omega arith)
decided (suc i) k (x ∷ xs) (y ∷ ys) e f =
    let d : x ≡ y = f.agree 0 (omega arith) in
    let g : FirstLess i xs ys = record {
      inside = omega (arith, f.inside);
      agree = λ j h. f.agree (suc j) (omega (arith, h));
      decides = f.decides;
    } in
    let t = decided i (suc k) xs ys (omega (arith, e)) g in
    (rw d (before-equal y xs ys ∙ t.0), rw d (place-equal k y xs ys ∙ t.1 ∙ omega arith))
