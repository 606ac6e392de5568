-- `image_writing::channels::cells_from_length` meets its contract. The invariant: the sum is the length of the channels to the nodes below v.
use Rattle.image_writing.specs.inner.Words.{cell_bits_at}
use Rattle.image_writing.proofs.PieceLaws.{Summed}
use Rattle.image_writing.proofs.channels.cells_from_length.Given as goal

abbrev pub invariant-loop-v : goal.invariant-loop-v
invariant-loop-v l = Summed (cell_bits_at l.depth l.n l.channels l.u) l.n l.sum l.v
