-- The test of two lists of bytes is equality.
use Prim.Native.Nat.{ℕ}
use mathlib.Core.Bool.{true}
use mathlib.Core.List.{List, [], ◌∷◌}
use mathlib.Core.Path.{◌≡◌, refl}
use borrow.Author.Tests.{eqb-true, eq-eqb}
use lib.Dec.{eqb}
use Rattle.basics.specs.Bytes.{same_bytes}
use Rattle.basics.proofs.Tests.{clash, and_left, and_right, and_both}

pub same_bytes-equal : (xs ys : List ℕ) → same_bytes xs ys ≡ true → xs ≡ ys
same_bytes-equal [] [] e = refl
same_bytes-equal [] (y ∷ ys) e = clash e refl
same_bytes-equal (x ∷ xs) [] e = clash e refl
same_bytes-equal (x ∷ xs) (y ∷ ys) e =
    let h = eqb-true x y (and_left (eqb x y) (same_bytes xs ys) e) in
    let t = same_bytes-equal xs ys (and_right (eqb x y) (same_bytes xs ys) e) in
    cc

pub bytes_same : (xs ys : List ℕ) → xs ≡ ys → same_bytes xs ys ≡ true
bytes_same xs ys e = rw e (itself ys)
  where
    itself : (zs : List ℕ) → same_bytes zs zs ≡ true
    itself [] = refl
    itself (z ∷ zs) = and_both (eq-eqb z z refl) (itself zs)
