-- `image::widths::height` meets its contract: seven fields.
use Rattle.image.specs.Widths.{height_width}
use Rattle.image.proofs.widths.height.Goals as goal

pub returns : goal.returns
unfolding height_width
returns c = c.place.ensures
