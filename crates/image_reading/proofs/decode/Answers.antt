-- `image_reading::decode` meets its contract: each return is one law of HeaderLaws.antt.
use Rattle.image_reading.proofs.HeaderLaws.{short, good, wrong}
use Rattle.image_reading.proofs.decode.Goals as goal

pub returns-then-image-lt4 : goal.returns-then-image-lt4
returns-then-image-lt4 c = short c.args.image.now c.if-image-lt4.true

pub returns-then-version-length : goal.returns-then-version-length
returns-then-version-length c =
    good c.args.image.now _ _ _ _ c.if-image-lt4.false
    c.get-version.ensures c.get-length.ensures c.get-n.ensures c.get-spare.ensures c.if-version-length.true

pub returns : goal.returns
returns c =
    wrong c.args.image.now _ _ _ _ c.if-image-lt4.false
    c.get-version.ensures c.get-length.ensures c.get-n.ensures c.get-spare.ensures c.if-version-length.false
