-- `bits::put_packed` meets its contract. The invariant: the first numbers are put, end to end.
use mathlib.Core.Path.{◌≡◌}
use lib.ListN.{length}
use Rattle.bits.specs.inner.Written.{written, word_bits}
use Rattle.bits.proofs.put_packed.Given as goal

abbrev pub invariant-loop-j : goal.invariant-loop-j
invariant-loop-j l = (length l.buf ≡ length l.initial.buf) × (l.buf ≡ written l.initial.buf l.at (word_bits l.j l.full))
