-- Sets of nodes as numbers: document 01, "What a station holds". Node k is bit k - 1, the lowest being bit 0.
-- `member` reads a set, `set_of` makes one; every contract of the crate is an equation with these two.
use Rattle.std.specs.Prelude.{ℕ, zero, suc, ◌+◌, ◌*◌, ◌/◌, ◌%◌, ◌^◌, Bool, true, false, not, cond, ◌&&◌, eqb, ltb}

-- node k is in the set s; node 0 is in none
unfoldable pub member : ℕ → ℕ → Bool
member s zero = false
member s (suc k) = eqb (s / 2 ^ k % 2) 1

-- 1 for true, 0 for false
abbrev pub digit : Bool → ℕ
digit true = 1
digit false = 0

-- the set of those nodes of 1 to n that pass the test
unfoldable pub set_of : ℕ → (ℕ → Bool) → ℕ
set_of zero f = 0
set_of (suc n) f = digit (f 1) + 2 * set_of n (λ k. f (suc k))

-- no bit above node n is set
unfoldable pub within : ℕ → ℕ → Bool
within n s = ltb s (2 ^ n)

-- node k alone
unfoldable pub same_node : ℕ → ℕ → Bool
same_node k j = eqb j k

-- no node of 1 to n passes both tests
unfoldable pub apart : ℕ → (ℕ → Bool) → (ℕ → Bool) → Bool
apart zero f g = true
apart (suc n) f g = not (f (suc n) && g (suc n)) && apart n f g

-- the least of the k nodes from v on that passes the test, or v + k where none does
unfoldable pub least_from : ℕ → ℕ → (ℕ → Bool) → ℕ
least_from zero v f = v
least_from (suc k) v f = cond (f v) v (least_from k (suc v) f)

-- the lowest node of a set of nodes 1 to 16, or 17
unfoldable pub lowest : ℕ → ℕ
unfolding least_from
lowest s = least_from 16 1 (member s)
