-- `tables::rows::channel` meets its contract: the part that is lent is the row of the pair u, v.
use mathlib.Core.Path.{refl, ap, ◌∙◌}
use lib.ListN.{length}
use Rattle.tables.proofs.RowsLaws.{part-row, channel-length}
use Rattle.tables.proofs.rows.channel.Goals as goal

pub returns : goal.returns
returns c = let same = part-row _ _ _ c.channel_start-a.ensures.0 refl in
    (same, ap length same ∙ channel-length _ _ _ c.requires.1 c.requires.2 _ c.requires.3)
