-- `tables::rows::height_in` meets its contract: node v's seven words stand from where its height starts.
use Rattle.tables.proofs.RowsLaws.{height-from-start}
use Rattle.tables.proofs.rows.height_in.Goals as goal

pub returns : goal.returns
returns c = rw (height-from-start _ _ c.requires.1.low, ← c.height_start.ensures.0) c.load_height.ensures
