-- `image::widths::message` meets its contract: eight fields.
use Rattle.image.specs.Widths.{message_width}
use Rattle.image.proofs.widths.message.Goals as goal

pub returns : goal.returns
unfolding message_width
returns c = c.place.ensures
