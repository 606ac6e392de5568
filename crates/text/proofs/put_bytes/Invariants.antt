-- `text::put_bytes` meets its contract. The invariant: the bytes gone over are poured, and the offset is behind them.
use Prim.Native.Nat.{◌+◌}
use mathlib.Core.Path.{◌≡◌}
use lib.ListN.{take}
use Rattle.text.specs.inner.Poured.{poured}
use Rattle.text.proofs.put_bytes.Given as goal

abbrev pub invariant-loop-b : goal.invariant-loop-b
invariant-loop-b l =
    (l.offset ≡ l.at + l.b-index) × (l.out ≡ poured l.initial.out l.at (take l.b-index l.bytes))
