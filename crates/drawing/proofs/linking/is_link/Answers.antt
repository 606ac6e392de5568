-- `drawing::linking::is_link` meets its contract: the same test.
use mathlib.Core.Path.{refl}
use Rattle.drawing.specs.Links.{is_link}
use Rattle.drawing.proofs.linking.is_link.Goals as goal

pub returns : goal.returns
unfolding is_link
returns c = refl
