-- `image_reader::nodes::inside_at` meets its contract: 12, or the record.
use Rattle.image_reader.proofs.RecordLaws.{node-short, node-inside, node-read}
use Rattle.std.proofs.Common.{ap, not}
use Rattle.image_reader.proofs.nodes.inside_at.Goals as goal

pub returns-then-not-inside : goal.returns-then-not-inside
returns-then-not-inside c = node-short _ _ _ _ (rw c.node-width.ensures at c.inside.ensures) (ap not c.if-not-inside.true)

pub record_from-requires : goal.record_from-requires
record_from-requires c =
    let fits = rw c.node-width.ensures at c.inside.ensures in
    (c.requires.0, c.requires.1, node-inside _ _ _ c.args.row.now fits (ap not c.if-not-inside.false))

pub returns : goal.returns
returns c =
    let fits = rw c.node-width.ensures at c.inside.ensures in
    node-read _ _ _ _ fits (ap not c.if-not-inside.false)
    c.record_from.ensures
