-- The comparison part by part; what callers ask of it is `before`, `same` and `comparison`.
use Rattle.std.specs.Prelude.{Bool, true, false}
use Rattle.height.specs.declared.order.Order.{Order}
use Rattle.height.specs.declared.order.Order.TheVariants.{Less, Equal, Greater}

-- the first of two that decides
abbrev pub and_then : Order → Order → Order
and_then (Less k) o = Less k
and_then (Greater k) o = Greater k
and_then Equal o = o

abbrev pub is_less : Order → Bool
is_less (Less k) = true
is_less Equal = false
is_less (Greater k) = false

abbrev pub is_equal : Order → Bool
is_equal (Less k) = false
is_equal Equal = true
is_equal (Greater k) = false
