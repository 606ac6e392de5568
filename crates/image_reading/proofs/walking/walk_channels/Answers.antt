use Rattle.std.proofs.lemmas.Result.{err_from_is_err_and}
use Rattle.image_reading.specs.Walk.{channels_walk}
use Rattle.image_reading.proofs.Steps.{walk_start, walk-next, walk-stops, walk-done}
use Rattle.image_reading.proofs.WalkLaws.{row_near}
use native.Mathlib.Omega.{arith}
use Rattle.image_reading.proofs.walking.walk_channels.Goals as goal

pub loop-u-init : goal.loop-u-init
loop-u-init c = walk_start _ _ _ _

pub returns-in_err-place : goal.returns-in_err-place
unfolding channels_walk
returns-in_err-place c =
    let l = c.loop-u in
    let p = err_from_is_err_and c.from_residual.result c.from_residual.ensures.1 in
    rw (p.1, p.2) (walk-stops _ _ _ _ l.u l.place l.invariant (omega arith) _ c.in_err-place.ensures)

pub loop-u-preserved : goal.loop-u-preserved
loop-u-preserved c =
    let l = c.loop-u in
    let r = c.in_ok-place.place in
    walk-next _ _ _ _ l.u l.place l.invariant (omega arith) r c.in_ok-place.ensures
    (row_near c.args.depth c.args.n _ c.requires.0.high c.requires.1 _ l.place r)

pub returns : goal.returns
unfolding channels_walk
returns c = walk-done _ _ _ _ c.loop-u.u c.loop-u.place c.loop-u.invariant (omega arith)
