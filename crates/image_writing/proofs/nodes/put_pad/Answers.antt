-- `image_writing::nodes::put_pad` meets its contract: a field of zero is a run of zero bits.
use mathlib.Core.Path.{ap, ◌∙◌}
use Rattle.bits.specs.inner.Written.{written}
use Rattle.image.proofs.ImageBits.{bits-zero}
use Rattle.image_writing.proofs.nodes.put_pad.Goals as goal

pub returns : goal.returns
returns c =
    let a = c.args in
    c.put.ensures ∙ ap (written a.buf.now a.at) (bits-zero _)
