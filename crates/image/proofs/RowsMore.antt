-- Rows laid end to end are below a bound where each is; the other laws of rows are in the crate `tables` (proofs/RowsMore.antt).
use Prim.Native.Nat.{ℕ, zero, suc, ◌<◌}
use mathlib.Core.List.{List}
use Rattle.bits.proofs.Numbers.{Below, below-nil, below-append}
use Rattle.tables.specs.Rows.{rows}

pub below_rows : (m n : ℕ) (f : ℕ → List ℕ) → 0 < m → ((v : ℕ) → Below m (f v)) → Below m (rows n f)
unfolding rows
below_rows m zero f z h = below-nil m z
below_rows m (suc n) f z h = below-append m (f 1) (rows n (λ i. f (suc i))) (h 1) (below_rows m n (λ i. f (suc i)) z (λ v. h (suc v)))
