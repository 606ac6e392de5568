-- `dot::sketch::starts_with` meets its contract: std's test, over the bytes from the offset on.
use mathlib.Core.Path.{◌∙◌}
use Rattle.std.proofs.lemmas.List.{take_rest}
use Rattle.dot.proofs.Starts.{starts-as}
use Rattle.dot.proofs.sketch.starts_with.Goals as goal

pub returns : goal.returns
returns c = rw (take_rest c.args.text.now c.args.at) at c.starts_with.ensures.value ∙ starts-as c.args.bytes.now _
