-- `bits::put_by_bytes` meets its contract. The invariant: the bits written so far stand over the bits at entry.
-- The measure is how many bits are left.
use Prim.Native.Nat.{◌-◌, ◌/◌, ◌^◌, ◌≤◌}
use mathlib.Core.Path.{◌≡◌}
use lib.ListN.{length}
use Rattle.bits.specs.Bits.{bits, unpacked}
use Rattle.bits.specs.inner.Written.{over}
use Rattle.bits.proofs.Numbers.{Below}
use Rattle.bits.proofs.put_by_bytes.Given as goal

abbrev pub invariant-loop-done : goal.invariant-loop-done
invariant-loop-done l =
    (l.done ≤ l.width)
    × ((length l.buf ≡ length l.initial.buf) × (Below 256 l.buf × (unpacked l.buf ≡ over (unpacked l.initial.buf) l.at (bits l.done (l.value / 2 ^ (l.width - l.done))))))

abbrev pub decreases-loop-done : goal.decreases-loop-done
decreases-loop-done l = l.width - l.done
