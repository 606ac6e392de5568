-- `image_writing::write` meets its contract: header, nodes, channels and pad are written end to end from the first bit on.
use native.Mathlib.Omega.{arith}
use mathlib.Core.Path.{◌∙◌}
use Rattle.std.proofs.Common.{ℕ, ◌<◌, ◌^◌, get_or}
use Rattle.image.proofs.Bounds.{nodes-small}
use Rattle.image_writing.proofs.ImageLaws.{depth-16, counts, header-room, nodes-room, cells-room, pad-room, image-written}
use Rattle.image_writing.proofs.write.Goals as goal

pub put_header-requires : goal.put_header-requires
put_header-requires c = header-room _ _ c.requires.0 c.args.out.now c.requires.1

pub put_nodes-requires : goal.put_nodes-requires
put_nodes-requires c =
    let size = c.requires.0.size in
    let room = nodes-room _ _ c.requires.0 c.args.out.now c.requires.1 _ c.put_header.auto.buf in
    (depth-16, size.few, size.nodes, room)

pub overflow_mul-start : goal.overflow_mul-start
overflow_mul-start c =
    rw c.node.ensures (omega (arith, nodes-small 16 c.args.n (omega arith) c.requires.0.size.few))

pub overflow_add-start : goal.overflow_add-start
overflow_add-start c =
    rw c.node.ensures (omega (arith, nodes-small 16 c.args.n (omega arith) c.requires.0.size.few))

pub put_cells-end-requires : goal.put_cells-end-requires
put_cells-end-requires c =
    let size = c.requires.0.size in
    let room = cells-room _ _ c.requires.0 c.args.out.now c.requires.1 _ (c.put_nodes.auto.buf ∙ c.put_header.auto.buf) in
    (depth-16, size.few, size.channels, counts _ _ c.requires.0, rw c.node.ensures room)

pub put_pad-requires : goal.put_pad-requires
put_pad-requires c =
    let node = c.node in
    let put = c.put_cells-end in
    pad-room _ _ c.requires.0 c.args.out.now c.requires.1 put.new.buf (c.put_cells-end.auto.buf ∙ c.put_nodes.auto.buf ∙ c.put_header.auto.buf) _
    (rw node.ensures at put.ensures.1)

pub returns : goal.returns
returns c =
    let node = c.node in
    let small : (i : ℕ) → get_or c.args.out.now i 0 < 2 ^ 8 = λ i. grind arith in
    image-written _ _ c.requires.0 _ c.requires.1 small
    c.put_header.ensures c.put_nodes.ensures
    (rw node.ensures at c.put_cells-end.ensures.0) (rw node.ensures at c.put_cells-end.ensures.1) c.put_pad.ensures
