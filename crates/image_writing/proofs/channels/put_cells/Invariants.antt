-- `image_writing::channels::put_cells` meets its contract. The invariant: the channels from the nodes below u are written, and the place is behind them.
use Rattle.image_writing.specs.inner.Words.{cells_from_bits}
use Rattle.image_writing.proofs.PieceLaws.{Laid}
use Rattle.image_writing.proofs.channels.put_cells.Given as goal

abbrev pub invariant-loop-u : goal.invariant-loop-u
invariant-loop-u l = Laid (cells_from_bits l.depth l.n l.channels) l.n l.initial.buf l.at l.buf l.place l.u
