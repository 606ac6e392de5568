-- `tables::rows::put_height` meets its contract: the height is stored where node v's height starts.
use Rattle.tables.proofs.RowsLaws.{put-height-from-start}
use Rattle.tables.proofs.rows.put_height.Goals as goal

pub returns : goal.returns
returns c =
    rw (put-height-from-start _ _ c.args.h c.requires.1.low, ← c.height_start.ensures.0)
    c.store_height.ensures
