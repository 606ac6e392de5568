-- Sets of nodes in words: one set for each node, node 1 first.
use Rattle.std.specs.Prelude.{ℕ, ◌-◌, ◌^◌, ◌<◌, ◌≤◌, Bool, cond, List, ◌≡◌, eqb, get_or, length}
use Rattle.nodeset.specs.NodeSet.{member, set_of, same_node, lowest}
use Rattle.nodeset.specs.inner.Operations.{in_either}
use Rattle.groups.specs.Groups.{group_by}

-- s with node k, where the test says so
unfoldable pub add_if : ℕ → ℕ → Bool → ℕ
add_if s k b = cond b (set_of 16 (in_either (member s) (same_node k))) s

-- v is in the set of w
unfoldable pub in_words : List ℕ → ℕ → ℕ → Bool
in_words xs w v = member (get_or xs (w - 1) 0) v

-- w is the lowest of its group over such words
unfoldable pub head_at : ℕ → List ℕ → ℕ → Bool
head_at n xs w = eqb (lowest (group_by n (in_words xs) w)) w

unfoldable pub heads_in : ℕ → List ℕ → ℕ
heads_in n xs = set_of n (head_at n xs)

-- the words that the sets of f make
pub record SetWords (n : ℕ) (f : ℕ → ℕ → Bool) (xs : List ℕ) : Type 0 where
  pub size : length xs ≡ 16
  pub at : (w : ℕ) → 1 ≤ w → w ≤ n → get_or xs (w - 1) 0 ≡ set_of n (f w)

-- sets of nodes 1 to n, v in that of w where w is in that of v
pub record LinkWords (n : ℕ) (xs : List ℕ) : Type 0 where
  pub few : n ≤ 16
  pub size : length xs ≡ 16
  pub within : (w : ℕ) → 1 ≤ w → w ≤ n → get_or xs (w - 1) 0 < 2 ^ n
  pub both : (w v : ℕ) → 1 ≤ w → w ≤ n → 1 ≤ v → v ≤ n → in_words xs w v ≡ in_words xs v w
