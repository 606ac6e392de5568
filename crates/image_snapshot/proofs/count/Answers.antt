-- `image_snapshot::count` meets its contract: what the header says, its n alone.
use mathlib.Core.Path.{ap}
use Rattle.std.proofs.lemmas.Result.{err_from_is_err_and}
use Rattle.image_snapshot.specs.Count.{count_headed, count_on}
use Rattle.image_snapshot.proofs.count.Goals as goal

pub returns-in_err-fields : goal.returns-in_err-fields
unfolding count_on
returns-in_err-fields c =
    let p = err_from_is_err_and c.from_residual.result c.from_residual.ensures.1 in
    rw (p.1, p.2) (ap count_headed c.in_err-fields.ensures)

pub returns : goal.returns
unfolding count_on
returns c = ap count_headed c.in_ok-fields.ensures
