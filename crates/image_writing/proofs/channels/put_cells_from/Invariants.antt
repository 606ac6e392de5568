-- `image_writing::channels::put_cells_from` meets its contract. The invariant: the channels to the nodes below v are written, and the place is behind them.
use Rattle.image_writing.specs.inner.Words.{cell_bits_at}
use Rattle.image_writing.proofs.PieceLaws.{Laid}
use Rattle.image_writing.proofs.channels.put_cells_from.Given as goal

abbrev pub invariant-loop-v : goal.invariant-loop-v
invariant-loop-v l = Laid (cell_bits_at l.depth l.n l.channels l.u) l.n l.initial.buf l.at l.buf l.place l.v
