-- `holds::height_holds` meets its contract: no time is above the last one.
use mathlib.Core.Path.{◌∙◌}
use Rattle.height.specs.Words.{height_at}
use Rattle.holds.proofs.HoldsLaws.{any-times}
use Rattle.holds.proofs.height_holds.Goals as goal

pub returns : goal.returns
returns c = let a = c.args in c.height_within.ensures ∙ any-times a.n a.k (height_at a.words.now a.at)
