-- `image_snapshot::saving::checked` meets its contract: 14, or the image of tables that fit.
use native.Mathlib.Omega.{arith}
use Rattle.refusal.proofs.OutcomeLaws.{put-no-room, put-room}
use Rattle.image_snapshot.proofs.SaveLaws.{fits}
use Rattle.image_snapshot.proofs.saving.checked.Goals as goal

pub image_length-size-requires : goal.image_length-size-requires
image_length-size-requires c =
    fits _ _ c.requires (λ i. (c.type_inv.nodes i).fits)
    (λ i. (c.type_inv.channels i).fits)

pub returns-then-out-size : goal.returns-then-out-size
returns-then-out-size c = put-no-room _ _ (omega (arith, c.image_length-size.ensures, c.if-out-size.true))

pub write-requires : goal.write-requires
write-requires c = (
  fits _ _ c.requires (λ i. (c.type_inv.nodes i).fits)
      (λ i. (c.type_inv.channels i).fits),
  omega (arith, c.image_length-size.ensures, c.if-out-size.false),
)

pub returns : goal.returns
returns c =
    rw (c.image_length-size.ensures, c.write.ensures)
    (put-room _ _ (omega (arith, c.image_length-size.ensures, c.if-out-size.false)))
