-- Totals over 1 to n, and over all pairs of 1 to n: how a total over pairs grows when one node joins.
use Prim.Native.Nat.{ℕ, zero, suc, ◌+◌, ◌*◌, ◌≤◌}
use native.Mathlib.Nat.{mul-add}
use native.Mathlib.Omega.{arith}
use mathlib.Core.Path.{◌≡◌, refl, ap₂, ◌∙◌}
use Rattle.protocol.specs.Network.{Node, Two}

-- f 1 + .. + f n
unfoldable pub total : ℕ → (ℕ → ℕ) → ℕ
total zero f = 0
total (suc n) f = total n f + f (suc n)

-- of all pairs of 1 to n
unfoldable pub total_pairs : ℕ → (ℕ → ℕ → ℕ) → ℕ
total_pairs n w = total n (λ a. total n (w a))

node-last : (n : ℕ) → Node (suc n) (suc n)
node-last n = record { low = omega arith; high = omega arith }

node-up : (n k : ℕ) → Node n k → Node (suc n) k
node-up n k a = record { low = a.low; high = omega (arith, a.high) }

total-add : (n : ℕ) (f g : ℕ → ℕ) → total n (λ k. f k + g k) ≡ total n f + total n g
unfolding total
total-add zero f g = refl
total-add (suc n) f g = omega (arith, total-add n f g)

total-le : (n : ℕ) (f g : ℕ → ℕ) → ((k : ℕ) → Node n k → f k ≤ g k) → total n f ≤ total n g
unfolding total
total-le zero f g h = omega arith
total-le (suc n) f g h = omega (arith, total-le n f g (λ k a. h k (node-up n k a)), h (suc n) (node-last n))

pub total-same : (n : ℕ) (f g : ℕ → ℕ) → ((k : ℕ) → Node n k → f k ≡ g k) → total n f ≡ total n g
unfolding total
total-same zero f g h = refl
total-same (suc n) f g h = ap₂ (λ (x y : ℕ). x + y) (total-same n f g (λ k a. h k (node-up n k a))) (h (suc n) (node-last n))

pub total-more : (n c : ℕ) (f : ℕ → ℕ) → total n (λ k. c + f k) ≡ n * c + total n f
unfolding total
total-more zero c f = omega arith
total-more (suc n) c f = omega (arith, total-more n c f)

-- one node more: its pairs with each node before, both ways, and with itself
pairs-more : (n : ℕ) (w : ℕ → ℕ → ℕ)
    → total_pairs (suc n) w ≡ total_pairs n w + total n (λ a. w a (suc n) + w (suc n) a) + w (suc n) (suc n)
unfolding total total_pairs
pairs-more n w =
    omega (arith, total-add n (λ a. total n (w a)) (λ a. w a (suc n)), total-add n (λ a. w a (suc n)) (w (suc n)))

-- ---- pairs that weigh 8 together, and a part for each of the two

two-last : (n a : ℕ) → Node n a → Two (suc n) a (suc n)
two-last n a i = record { one = node-up n a i; other = node-last n; differ = λ e. omega (arith, i.high, e) }

two_up : (n a b : ℕ) → Two n a b → Two (suc n) a b
two_up n a b t = record { one = node-up n a t.one; other = node-up n b t.other; differ = t.differ }

-- one node more, in numbers alone: x for its pairs, e its part, t the parts before
joins-le : (n s x e t : ℕ) → x ≤ n * (8 + e) + t → s + 4 * n + t ≤ 4 * (n * n) + n * t
    → s + x + 4 * suc n + (t + e) ≤ 4 * (suc n * suc n) + suc n * (t + e)
joins-le n s x e t j k = omega (arith, mul-add n 8 e, mul-add n t e, mul-add n n 1)

joins-same : (n s x e t : ℕ) → x ≡ n * (8 + e) + t → s + 4 * n + t ≡ 4 * (n * n) + n * t
    → s + x + 4 * suc n + (t + e) ≡ 4 * (suc n * suc n) + suc n * (t + e)
joins-same n s x e t j k = omega (arith, mul-add n 8 e, mul-add n t e, mul-add n n 1)

module _ (w : ℕ → ℕ → ℕ) (d : ℕ → ℕ) where
  pairs-last : (n : ℕ) → w (suc n) (suc n) ≡ 0 → total_pairs (suc n) w ≡ total_pairs n w + total n (λ a. w a (suc n) + w (suc n) a)
  pairs-last n z = omega (arith, pairs-more n w, z)

  -- each two weigh at most that, and none with itself
  pub pairs-le : (n : ℕ) → ((a b : ℕ) → Two n a b → w a b + w b a ≤ 8 + d b + d a) → ((a : ℕ) → Node n a → w a a ≡ 0)
      → total_pairs n w + 4 * n + total n d ≤ 4 * (n * n) + n * total n d
  unfolding total total_pairs
  pairs-le zero two alone = omega arith
  pairs-le (suc n) two alone =
      let last = pairs-last n (alone (suc n) (node-last n)) in
      let new : total n (λ a. w a (suc n) + w (suc n) a) ≤ n * (8 + d (suc n)) + total n d =
      omega (
        arith,
        total-le n (λ a. w a (suc n) + w (suc n) a) (λ a. 8 + d (suc n) + d a) (λ a i. two a (suc n) (two-last n a i)),
        total-more n (8 + d (suc n)) d,
      ) in
      let old = pairs-le n (λ a b t. two a b (two_up n a b t)) (λ a i. alone a (node-up n a i)) in
      rw last (joins-le n (total_pairs n w) (total n (λ a. w a (suc n) + w (suc n) a)) (d (suc n)) (total n d) new old)

  -- each two weigh exactly that
  pub pairs-same : (n : ℕ) → ((a b : ℕ) → Two n a b → w a b + w b a ≡ 8 + d b + d a) → ((a : ℕ) → Node n a → w a a ≡ 0)
      → total_pairs n w + 4 * n + total n d ≡ 4 * (n * n) + n * total n d
  unfolding total total_pairs
  pairs-same zero two alone = omega arith
  pairs-same (suc n) two alone =
      let last = pairs-last n (alone (suc n) (node-last n)) in
      let new : total n (λ a. w a (suc n) + w (suc n) a) ≡ n * (8 + d (suc n)) + total n d =
      total-same n (λ a. w a (suc n) + w (suc n) a) (λ a. 8 + d (suc n) + d a) (λ a i. two a (suc n) (two-last n a i))
      ∙ total-more n (8 + d (suc n)) d in
      let old = pairs-same n (λ a b t. two a b (two_up n a b t)) (λ a i. alone a (node-up n a i)) in
      rw last (joins-same n (total_pairs n w) (total n (λ a. w a (suc n) + w (suc n) a)) (d (suc n)) (total n d) new old)
