-- `image_snapshot::restoring::headed` meets its contract: 1, 2, 12 or 18, or the tables of the image.
use mathlib.Core.Path.{sym, ap, ◌∙◌}
use Rattle.std.proofs.lemmas.Result.{err_from_is_err_and}
use Rattle.lent.proofs.CheckLaws.{sized-is}
use Rattle.image_snapshot.proofs.RestoreLaws.{sound-walks, of-sizes, of-refused, of-done}
use Rattle.refusal.specs.Outcome.{outcome}
use Rattle.refusal.specs.Refusal.{why}
use Rattle.image_snapshot.proofs.restoring.headed.Goals as goal

pub returns-then-not-is_sized : goal.returns-then-not-is_sized
returns-then-not-is_sized c = of-sizes _ _ _ (sym c.is_sized.ensures ∙ c.if-not-is_sized.true)

pub returns-in_err-examine : goal.returns-in_err-examine
returns-in_err-examine c =
    let fit = sym c.is_sized.ensures ∙ c.if-not-is_sized.false in
    let p = err_from_is_err_and c.from_residual.result c.from_residual.ensures.1 in
    rw (p.1, p.2) (of-refused _ _ _ fit _ c.in_err-examine.ensures)

pub read_tables-requires : goal.read_tables-requires
read_tables-requires c =
    let fit = sym c.is_sized.ensures ∙ c.if-not-is_sized.false in
    (sized-is _ _ fit, sound-walks _ _ c.requires.1 c.in_ok-examine.ensures)

pub returns : goal.returns
returns c =
    let fit = sym c.is_sized.ensures ∙ c.if-not-is_sized.false in
    ap (outcome (why 0 0 0)) c.read_tables.ensures ∙ of-done _ _ _ fit c.in_ok-examine.ensures
