-- What the operations on sets give, by the tests that their members pass.
use Rattle.std.specs.Prelude.{ℕ, zero, suc, ◌+◌, Bool, not, ◌&&◌, ◌||◌}
use Rattle.nodeset.specs.NodeSet.{digit}

-- how many of 1 to n pass the test
unfoldable pub size_of : ℕ → (ℕ → Bool) → ℕ
size_of zero f = 0
size_of (suc n) f = digit (f 1) + size_of n (λ k. f (suc k))

unfoldable pub in_either : (ℕ → Bool) → (ℕ → Bool) → ℕ → Bool
in_either f g j = f j || g j

unfoldable pub in_but_not : (ℕ → Bool) → (ℕ → Bool) → ℕ → Bool
in_but_not f g j = f j && not (g j)
