-- `image_reading::read_tables` meets its contract: the rows and the cells are those of the records.
use mathlib.Core.Path.{ap₂}
use Rattle.tables.specs.Tables.{tables}
use Rattle.image_reading.proofs.read_tables.Goals as goal

pub returns : goal.returns
returns c = ap₂ tables c.read_rows.ensures c.read_cells.ensures
