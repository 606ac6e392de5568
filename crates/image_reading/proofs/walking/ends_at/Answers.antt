-- `image_reading::walking::ends_at` meets its contract: each return is one law of ByteLaws.antt.
use Rattle.image_reading.proofs.ByteLaws.{bytes_left, pad-read}
use Rattle.image_reading.proofs.walking.ends_at.Goals as goal

pub returns-then-at-bytes : goal.returns-then-at-bytes
returns-then-at-bytes c = bytes_left c.args.bytes.now c.args.at c.if-at-bytes.true

pub returns : goal.returns
returns c =
    pad-read c.args.bytes.now c.args.at c.if-at-bytes.false c.requires.1 c.get.result c.get.ensures
