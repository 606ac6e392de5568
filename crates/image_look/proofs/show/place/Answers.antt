-- `image_look::show::place`: the records before one of 16 nodes, behind the header, are few bits.
use Rattle.std.proofs.Common.{arith}
use Rattle.image_snapshot.proofs.LookLaws.{before_small}
use Rattle.image_look.proofs.show.place.Goals as goal

pub overflow_mul-result : goal.overflow_mul-result
overflow_mul-result c = rw c.node-record.ensures (omega (arith, before_small _ _ c.requires.0 c.requires.1.low c.requires.1.high))

pub overflow_add-result : goal.overflow_add-result
overflow_add-result c = rw c.node-record.ensures (omega (arith, before_small _ _ c.requires.0 c.requires.1.low c.requires.1.high))
