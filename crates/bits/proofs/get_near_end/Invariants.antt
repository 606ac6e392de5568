-- `bits::get_near_end` meets its contract. The invariant: the first k values are read, the others are as they were, and the place is behind them.
use Prim.Native.Nat.{◌+◌}
use mathlib.Core.Path.{◌≡◌}
use mathlib.Core.List.{◌++◌}
use lib.ListN.{length, take, drop}
use Rattle.bits.specs.Bits.{unpacked, total, gathered}
use Rattle.bits.proofs.get_near_end.Given as goal

abbrev pub invariant-loop-k : goal.invariant-loop-k
invariant-loop-k l =
    (l.place ≡ l.at + total (take l.k l.widths))
    × ((length l.values ≡ length l.initial.values) × (l.values ≡ gathered (take l.k l.widths) (drop l.at (unpacked l.bytes)) ++ drop l.k l.initial.values))
