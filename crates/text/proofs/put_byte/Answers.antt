-- `text::put_byte` meets its contract: behind the end of the bytes nothing is set.
use Rattle.std.proofs.Common.{[], ◌∷◌, ◌≡◌, refl, sym, ◌∙◌}
use Rattle.std.proofs.Math.Seq.{set_out}
use Rattle.text.specs.inner.Poured.{poured}
use Rattle.text.proofs.put_byte.Goals as goal
use Rattle.text.proofs.put_byte.Goals.{then-at-out, else-at-out}

-- where the ways meet, the byte is poured: behind the end there is nothing to set
pub returns : goal.returns
unfolding poured
returns c =
    let stored : c.if-at-out.out ≡ poured c.args.out.now c.args.at (c.args.b ∷ []) =
    elim c.if-at-out.branch [
      | then-at-out w ↦ w.out-is
      | else-at-out w ↦ w.out-is ∙ sym (set_out c.args.out.now c.args.at c.args.b w.if-at-out.false)
    ] in
    (stored, refl)
