-- How long the lent tables are at most.
-- Assumes at most 16 nodes.
use Prim.Native.Nat.{ℕ, ◌+◌, ◌*◌, ◌≤◌}
use native.Mathlib.Nat.{mul-le-mul, mul_assoc}
use native.Mathlib.Omega.{arith}

pub rows-small : (n : ℕ) → n ≤ 16 → n * (3 + 7 * n) ≤ 1840
rows-small n h = let row : 3 + 7 * n ≤ 115 = omega arith in mul-le-mul h row

-- the cells, in rows of n and as pairs
pub cell-rows-small : (n : ℕ) → n ≤ 16 → n * (n * 65) ≤ 16640
cell-rows-small n h = let row : n * 65 ≤ 1040 = omega arith in mul-le-mul h row

pub cells-small : (n : ℕ) → n ≤ 16 → n * n * 65 ≤ 16640
cells-small n h = rw (mul_assoc n n 65) (cell-rows-small n h)
