-- `election::finish::write_row` meets its contract: the writes are those of `row_after`, in its order.
use Rattle.election.proofs.finish.write_row.Goals as goal

pub returns : goal.returns
returns c =
    let two = c.put_height-2.ensures in
    let one = c.put_height.ensures in
    rw (c.put_head.ensures, two, one)
