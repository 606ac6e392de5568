-- `said_order` is injective: case and place of an answer are in what it says.
use Prim.Native.Nat.{ℕ, zero, suc}
use mathlib.Core.Path.{◌≡◌, refl, ap, sym, ◌∙◌}
use lib.IntN.{ℤ, pos, negsuc}
use Rattle.height.specs.Comparison.{Comparison, said_order}
use Rattle.height.specs.declared.order.Order.TheVariants.{Less, Equal, Greater}
use Rattle.height.specs.declared.order.Order.{Order}

abbrev order_from : ℤ → ℕ → Order
order_from (negsuc n) k = Less k
order_from (pos zero) k = Equal
order_from (pos (suc n)) k = Greater k

order-back : (o : Order) → order_from (said_order o).sign (said_order o).place ≡ o
order-back (Less k) = refl
order-back Equal = refl
order-back (Greater k) = refl

pub said-order-injective : (o q : Order) → said_order o ≡ said_order q → o ≡ q
said-order-injective o q e = sym (order-back o) ∙ (ap (λ (c : Comparison). order_from c.sign c.place) e ∙ order-back q)
