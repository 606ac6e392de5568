-- Where two heights part: document 02, [1].
-- Places are those of the order: 1 search time, 2 originator, 3 bit, 4 depth, 5 negated election time, 6 leader, 7 node.
use Rattle.std.specs.Prelude.{ℕ, suc, cond, ◌||◌, List, [], ◌∷◌, ℤ, pos, negsuc}
use Rattle.std.specs.Int.Signed.{lt_z}
use Rattle.height.specs.Height.{height_key}
use Rattle.height.specs.Order.{before}
use Rattle.height.specs.declared.Height.{Height}
use Rattle.height.specs.declared.order.Order.{Order}
use Rattle.height.specs.declared.order.Order.TheVariants.{Less, Equal, Greater}

-- −1 for less, 0 for equal, 1 for greater; and the place of the first number that differs, 0 where none does
pub record Comparison : Type 0 where
  pub sign : ℤ
  pub place : ℕ

abbrev pub sign_at : ℤ → ℕ → Comparison
sign_at s k = record { sign = s; place = k }

-- the place of the first number that differs, counted from k; 0 where none does
unfoldable pub place_of : ℕ → List ℤ → List ℤ → ℕ
place_of k [] ys = 0
place_of k (x ∷ xs) [] = 0
place_of k (x ∷ xs) (y ∷ ys) = cond (lt_z x y || lt_z y x) k (place_of (suc k) xs ys)

-- the order of two lists whose first numbers stand at place k
unfoldable pub order_of : ℕ → List ℤ → List ℤ → Order
order_of k xs ys = cond (before xs ys) (Less (place_of k xs ys)) (cond (before ys xs) (Greater (place_of k xs ys)) Equal)

-- what each case of the answer says
abbrev pub said_order : Order → Comparison
said_order (Less k) = sign_at (negsuc 0) k
said_order Equal = sign_at (pos 0) 0
said_order (Greater k) = sign_at (pos 1) k

-- the comparison of two heights, places counted from 1
unfoldable pub comparison : Height → Height → Comparison
comparison a b = said_order (order_of 1 (height_key a) (height_key b))
