-- `bits::put_fields` meets its contract: the bits of the fields are those of what they are packed into.
use mathlib.Core.Path.{sym, ap, ◌∙◌}
use Rattle.bits.specs.inner.Written.{written}
use Rattle.bits.proofs.put_fields.Goals as goal

pub returns : goal.returns
returns c =
    let a = c.args in
    c.put_packed.ensures ∙ ap (written a.buf.now a.at) (sym c.pack-p.ensures.0)
