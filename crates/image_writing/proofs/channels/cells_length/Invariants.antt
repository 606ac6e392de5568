-- `image_writing::channels::cells_length` meets its contract. The invariant: the sum is the length of the channels from the nodes below u.
use Rattle.image_writing.specs.inner.Words.{cells_from_bits}
use Rattle.image_writing.proofs.PieceLaws.{Summed}
use Rattle.image_writing.proofs.channels.cells_length.Given as goal

abbrev pub invariant-loop-u : goal.invariant-loop-u
invariant-loop-u l = Summed (cells_from_bits l.depth l.n l.channels) l.n l.sum l.u
