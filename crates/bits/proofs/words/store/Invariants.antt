-- `bits::words::store` meets its contract. The invariant: the bytes written so far stand over the bits at entry.
use Prim.Native.Nat.{◌-◌, ◌*◌, ◌/◌, ◌^◌}
use mathlib.Core.Path.{◌≡◌}
use lib.ListN.{length}
use Rattle.bits.specs.Bits.{bits, unpacked}
use Rattle.bits.specs.inner.Written.{over}
use Rattle.bits.proofs.Numbers.{Below}
use Rattle.bits.proofs.words.store.Given as goal

abbrev pub invariant-loop-k : goal.invariant-loop-k
invariant-loop-k l =
    (length l.buf ≡ length l.initial.buf)
    × (Below 256 l.buf × (unpacked l.buf ≡ over (unpacked l.initial.buf) (8 * l.i) (bits (8 * l.k) (l.v / 2 ^ (8 * l.m - 8 * l.k)))))
