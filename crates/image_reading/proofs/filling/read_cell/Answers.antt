-- `image_reading::filling::read_cell` meets its contract: each return is one law of ReadLaws.antt.
use mathlib.Core.Path.{◌∙◌}
use Rattle.image_reading.proofs.ReadLaws.{own-cell, own-next, other-cell, other-next, channel-inside}
use Rattle.image_reading.proofs.filling.read_cell.Goals as goal

pub returns-then-u-v : goal.returns-then-u-v
returns-then-u-v c =
    let same = c.if-u-v.true in
    (c.clear.ensures ∙ own-cell _ _ _ _ _ same, own-next _ _ _ _ _ same)

pub get_cell-requires : goal.get_cell-requires
get_cell-requires c =
    let other = c.if-u-v.false in
    (c.requires.0, c.requires.1, c.requires.2.few other, channel-inside c.requires.2 other)

pub returns : goal.returns
returns c =
    let got = c.get_cell.ensures in
    let other = c.if-u-v.false in
    (got.0 ∙ other-cell _ _ _ _ _ other, got.1 ∙ other-next _ _ _ _ _ other)
