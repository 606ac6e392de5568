-- `image::widths::place` meets its contract. The invariant: the sum so far is where the next field starts.
use mathlib.Core.Path.{◌≡◌}
use Rattle.image.specs.Widths.{field_place}
use Rattle.image.proofs.widths.place.Given as goal

abbrev pub invariant-loop-i : goal.invariant-loop-i
invariant-loop-i l = l.end ≡ field_place l.depth l.i
