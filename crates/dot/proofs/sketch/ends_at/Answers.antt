-- `dot::sketch::ends_at` meets its contract: two bytes that are the foot.
use Rattle.dot.proofs.Walking.{ends_is}
use Rattle.dot.proofs.sketch.ends_at.Goals as goal

pub returns : goal.returns
returns c =
    ends_is c.args.text.now c.args.at _ c.starts_with.ensures
