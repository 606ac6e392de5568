-- `image_reading::walking::whole` meets its contract: each return is one law of ByteLaws.antt.
use Rattle.image.proofs.Bounds.{nodes-small}
use Rattle.image_reading.proofs.ByteLaws.{nodes-cut, nodes-stand}
use native.Mathlib.Omega.{arith}
use Rattle.image_reading.proofs.walking.whole.Goals as goal

pub overflow_mul-start : goal.overflow_mul-start
overflow_mul-start c =
    rw c.node.ensures (omega (arith, nodes-small c.args.depth c.args.n c.requires.0.high c.requires.1))

pub overflow_add-start : goal.overflow_add-start
overflow_add-start c =
    rw c.node.ensures (omega (arith, nodes-small c.args.depth c.args.n c.requires.0.high c.requires.1))

pub overflow_add-start-2 : goal.overflow_add-start-2
overflow_add-start-2 c =
    rw c.node.ensures (omega (arith, nodes-small c.args.depth c.args.n c.requires.0.high c.requires.1))

pub returns-then-start-bytes : goal.returns-then-start-bytes
returns-then-start-bytes c =
    nodes-cut c.args.h c.args.depth c.args.n c.args.bytes.now (rw c.node.ensures at c.if-start-bytes.true)

pub walk_channels-requires : goal.walk_channels-requires
walk_channels-requires c =
    let small = nodes-small c.args.depth c.args.n c.requires.0.high c.requires.1 in
    (c.requires.0, c.requires.1, rw c.node.ensures (omega arith))

pub returns : goal.returns
returns c =
    let node = c.node in
    nodes-stand c.args.h c.args.depth c.args.n c.args.bytes.now c.walk_channels.result
    (rw node.ensures at c.if-start-bytes.false) (rw node.ensures at c.walk_channels.ensures)
