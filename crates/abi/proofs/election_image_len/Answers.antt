-- `abi::election_image_len` meets its contract: with n from 1 to 16 the sum fits.
use native.Mathlib.Omega.{arith}
use mathlib.Core.Path.{sym, ◌∙◌}
use Rattle.image.proofs.Bounds.{nodes-small}
use Rattle.image.proofs.FieldPlaces.{message-128}
use Rattle.abi.specs.Sizes.{image_length}
use Rattle.abi.proofs.SizeLaws.{size_of, pairs-le}
use Rattle.abi.proofs.election_image_len.Goals as goal

pub node-requires : goal.node-requires
node-requires c = (size_of _ c.is_size.ensures c.if-is_size.true).high

pub overflow_mul-nodes : goal.overflow_mul-nodes
overflow_mul-nodes c =
    let n = c.args.n in
    let size = size_of n c.is_size.ensures c.if-is_size.true in
    rw c.node.ensures (omega (arith, nodes-small 16 n (omega arith) size.high))

pub overflow_sub-channels : goal.overflow_sub-channels
overflow_sub-channels c = (size_of _ c.is_size.ensures c.if-is_size.true).low

pub overflow_mul-channels : goal.overflow_mul-channels
overflow_mul-channels c =
    let n = c.args.n in
    omega (arith, pairs-le n (size_of n c.is_size.ensures c.if-is_size.true))

pub overflow_mul-channels-then-is_size : goal.overflow_mul-channels-then-is_size
overflow_mul-channels-then-is_size c = omega (arith, c.message-message.ensures, message-128)

pub overflow_add-channels : goal.overflow_add-channels
overflow_add-channels c = omega (arith, c.message-message.ensures, message-128)

pub overflow_mul-channels-then-is_size-2 : goal.overflow_mul-channels-then-is_size-2
overflow_mul-channels-then-is_size-2 c =
    let n = c.args.n in
    rw (c.message-message.ensures, message-128) (omega (arith, pairs-le n (size_of n c.is_size.ensures c.if-is_size.true)))

pub overflow_add-result : goal.overflow_add-result
overflow_add-result c =
    let n = c.args.n in
    let size = size_of n c.is_size.ensures c.if-is_size.true in
    rw c.node.ensures (omega (arith, nodes-small 16 n (omega arith) size.high))

pub overflow_add-result-then-is_size : goal.overflow_add-result-then-is_size
overflow_add-result-then-is_size c =
    let n = c.args.n in
    let size = size_of n c.is_size.ensures c.if-is_size.true in
    rw (c.node.ensures, c.message-message.ensures, message-128) (omega (arith, nodes-small 16 n (omega arith) size.high, pairs-le n size))

pub returns-then-is_size : goal.returns-then-is_size
unfolding image_length
returns-then-is_size c = rw (sym c.is_size.ensures ∙ c.if-is_size.true, c.node.ensures, c.message-message.ensures)

pub returns : goal.returns
unfolding image_length
returns c = rw (sym c.is_size.ensures ∙ c.if-is_size.false)
