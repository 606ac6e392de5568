-- `image_writing::nodes::put_header` meets its contract: four fields end to end are the header.
use Rattle.image_writing.proofs.HeaderLaws.{header-written}
use Rattle.image_writing.proofs.nodes.put_header.Goals as goal

pub returns : goal.returns
returns c =
    header-written c.args.buf.now c.args.n c.requires c.put.ensures c.put-2.ensures c.put-3.ensures c.put-4.ensures
