-- `image_reading::walking::walk_channel` meets its contract: each return is one law of ByteLaws.antt.
use Rattle.image.proofs.Bounds.{messages-small}
use Rattle.image_reading.proofs.ByteLaws.{own-channel, no-count, too_many, messages-cut, goes_on}
use native.Mathlib.Omega.{arith}
use Rattle.image_reading.proofs.walking.walk_channel.Goals as goal

pub returns-then-u-v : goal.returns-then-u-v
returns-then-u-v c = own-channel _ _ _ _ _ c.if-u-v.true

pub returns-then-at-bytes : goal.returns-then-at-bytes
returns-then-at-bytes c =
    no-count c.args.depth c.args.bytes.now _ _ _ c.if-u-v.false c.if-at-bytes.true

pub returns-then-c-gt-CAPACITY : goal.returns-then-c-gt-CAPACITY
returns-then-c-gt-CAPACITY c =
    too_many c.args.depth c.args.bytes.now _ _ _ c.if-u-v.false c.if-at-bytes.false _ c.get-c.ensures c.if-c-gt-CAPACITY.true

pub overflow_mul-next : goal.overflow_mul-next
overflow_mul-next c =
    rw c.message.ensures (omega (arith, messages-small c.get-c.result c.args.depth c.if-c-gt-CAPACITY.false c.requires.0.high))

pub overflow_add-next-2 : goal.overflow_add-next-2
overflow_add-next-2 c =
    rw c.message.ensures (omega (arith, messages-small c.get-c.result c.args.depth c.if-c-gt-CAPACITY.false c.requires.0.high))

pub overflow_add-next-3 : goal.overflow_add-next-3
overflow_add-next-3 c =
    rw c.message.ensures (omega (arith, messages-small c.get-c.result c.args.depth c.if-c-gt-CAPACITY.false c.requires.0.high))

pub returns-then-next-bytes : goal.returns-then-next-bytes
returns-then-next-bytes c =
    messages-cut c.args.depth c.args.bytes.now _ _ _ c.if-u-v.false c.if-at-bytes.false _ c.get-c.ensures
    c.if-c-gt-CAPACITY.false (rw c.message.ensures at c.if-next-bytes.true)

pub returns : goal.returns
returns c =
    rw c.message.ensures
    (goes_on c.args.depth c.args.bytes.now _ _ _ c.if-u-v.false c.if-at-bytes.false _ c.get-c.ensures
    c.if-c-gt-CAPACITY.false (rw c.message.ensures at c.if-next-bytes.false))
