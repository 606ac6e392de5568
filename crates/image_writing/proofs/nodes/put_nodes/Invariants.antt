-- `image_writing::nodes::put_nodes` meets its contract. The invariant: the rows of the nodes below u are written, and the place is behind them.
use Rattle.image_writing.proofs.LengthLaws.{node_bits_at}
use Rattle.image_writing.proofs.PieceLaws.{Laid}
use Rattle.image_writing.proofs.nodes.put_nodes.Given as goal

abbrev pub invariant-loop-u : goal.invariant-loop-u
invariant-loop-u l = Laid (node_bits_at l.depth l.n l.nodes) l.n l.initial.buf l.at l.buf l.place l.u
