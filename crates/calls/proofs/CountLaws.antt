-- How many nodes pass a test: fewer pass a stricter one.
-- It gives the descent along falling heights its measure.
use Prim.Native.Nat.{ℕ, zero, suc, ◌<◌, ◌≤◌}
use native.Mathlib.Omega.{arith}
use mathlib.Core.Bool.{Bool, true, false}
use mathlib.Core.Path.{◌≡◌, refl}
use Rattle.basics.proofs.Tests.{clash}
use Rattle.nodeset.specs.NodeSet.{digit}
use Rattle.nodeset.specs.inner.Operations.{size_of}
use Rattle.protocol.specs.Network.{Node}

digit-le : (a b : Bool) → (a ≡ true → b ≡ true) → digit a ≤ digit b
digit-le true true h = omega arith
digit-le true false h = clash (h refl) refl
digit-le false true h = omega arith
digit-le false false h = omega arith

digit_lt : (a b : Bool) → a ≡ false → b ≡ true → digit a < digit b
digit_lt a b h k = rw (h, k) (omega arith)

size_of-le : (n : ℕ) (f g : ℕ → Bool) → ((x : ℕ) → f x ≡ true → g x ≡ true) → size_of n f ≤ size_of n g
unfolding size_of
size_of-le zero f g h = omega arith
size_of-le (suc n) f g h =
    omega (arith, digit-le (f 1) (g 1) (h 1), size_of-le n (λ k. f (suc k)) (λ k. g (suc k)) (λ x. h (suc x)))

pub size_of-lt : (n : ℕ) (f g : ℕ → Bool) → ((x : ℕ) → f x ≡ true → g x ≡ true)
    → (y : ℕ) → Node n y → f y ≡ false → g y ≡ true → size_of n f < size_of n g
unfolding size_of
size_of-lt zero f g h y node p q = absurd (omega (arith, node.low, node.high))
size_of-lt (suc n) f g h zero node p q = absurd (omega (arith, node.low))
size_of-lt (suc n) f g h (suc zero) node p q =
    omega (arith, digit_lt (f 1) (g 1) p q, size_of-le n (λ k. f (suc k)) (λ k. g (suc k)) (λ x. h (suc x)))
size_of-lt (suc n) f g h (suc (suc y)) node p q =
    let rest : Node n (suc y) = record { low = omega arith; high = omega (arith, node.high) } in
    omega (arith, digit-le (f 1) (g 1) (h 1), size_of-lt n (λ k. f (suc k)) (λ k. g (suc k)) (λ x. h (suc x)) (suc y) rest p q)
