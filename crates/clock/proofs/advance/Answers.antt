-- `clock::advance` meets its contract: the move was refused, or it is kept.
use Rattle.std.proofs.lemmas.Result.{err_from_is_err_and}
use Rattle.clock.proofs.AdvanceLaws.{advance-to, advance-end}
use Rattle.clock.proofs.advance.Goals as goal

pub returns-in_err-moved : goal.returns-in_err-moved
returns-in_err-moved c =
    let p = err_from_is_err_and c.from_residual.result c.from_residual.ensures.1 in
    rw (p.1, p.2) (advance-end _ _ c.after.ensures _ c.in_err-moved.was)

pub returns : goal.returns
returns c = advance-to _ _ c.after.ensures _ c.in_ok-moved.was
