-- The sink test: document 01, "The three events" (source 001's test, "leader is not itself").
-- Here and below N is a linked set, `row` a node's heights: its own at u, its view of v at v.
use Rattle.std.specs.Prelude.{ℕ, Bool, not, ◌&&◌, ◌||◌, eqb}
use Rattle.basics.specs.Functions.{every}
use Rattle.height.specs.Height.{pair_key, height_key}
use Rattle.height.specs.Order.{before, same}
use Rattle.height.specs.declared.Height.{Height}

-- if v is in N, its view has u's leader pair and is greater than u's height
unfoldable pub above : (ℕ → Bool) → (ℕ → Height) → ℕ → ℕ → Bool
above N row u v =
    not (N v) || (same (pair_key (row v).pair) (pair_key (row u).pair) && before (height_key (row u)) (height_key (row v)))

-- all views in N stand above u and have its leader pair, and u follows another leader
unfoldable pub sink : ℕ → (ℕ → Bool) → (ℕ → Height) → ℕ → Bool
sink n N row u = every n (above N row u) && not (eqb (row u).pair.lid u)
