-- The steps of `drawing_length`.
use Prim.Native.Nat.{ℕ, ◌+◌, ◌-◌, ◌*◌, ◌≤◌, ◌<◌}
use native.Mathlib.Nat.{mul-le-mul}
use native.Mathlib.Omega.{arith}
use mathlib.Core.Bool.{true, false, ◌||◌}
use mathlib.Core.Path.{◌≡◌, refl}
use borrow.Author.Tests.{le-leb, lt-leb, lt-ltb, le-ltb, ltb-true, ltb-false}
use lib.Dec.{ltb}
use Rattle.basics.proofs.Tests.{Choice, yes!, no!, choice, clash, neither_left, neither_right}
use Rattle.drawing.specs.Draw.{digits_to, drawing_length}

pub small_product : (n m : ℕ) → n ≤ 16 → m ≤ 96 → n * m ≤ 1536
small_product n m a b = omega (arith, mul-le-mul a b)

module _ (n : ℕ) where
  pub no_length : (ltb n 1 || ltb 16 n) ≡ true → 0 ≡ drawing_length n
  unfolding drawing_length
  no_length e = go (choice (ltb n 1)) (choice (ltb 16 n))
    where
      go : Choice (ltb n 1) → Choice (ltb 16 n) → 0 ≡ drawing_length n
      go (yes! a) b = rw (lt-leb 1 n (ltb-true n 1 a)) refl
      go (no! a) (yes! b) = rw (le-leb 1 n (ltb-false n 1 a), lt-leb n 16 (ltb-true 16 n b)) refl
      go (no! a) (no! b) = clash (rw (a, b) at e) refl

  module _ (e : (ltb n 1 || ltb 16 n) ≡ false) where
    pub from_one : 1 ≤ n
    from_one = ltb-false n 1 (neither_left (ltb n 1) (ltb 16 n) e)

    pub to-sixteen : n ≤ 16
    to-sixteen = ltb-false 16 n (neither_right (ltb n 1) (ltb 16 n) e)

    pub short-length : n < 10 → 17 + n * (4 * n + n) ≡ drawing_length n
    unfolding drawing_length digits_to
    short-length h = rw (le-leb 1 n from_one, le-leb n 16 to-sixteen, lt-ltb n 10 h) refl

    pub long-length : 10 ≤ n → 17 + n * (4 * n + (2 * n - 9)) ≡ drawing_length n
    unfolding drawing_length digits_to
    long-length h = rw (le-leb 1 n from_one, le-leb n 16 to-sixteen, le-ltb n 10 h) refl
