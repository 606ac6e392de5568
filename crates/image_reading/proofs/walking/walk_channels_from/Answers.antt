use Rattle.std.proofs.lemmas.Result.{err_from_is_err_and}
use Rattle.image_reading.specs.Walk.{channels_from_walk}
use Rattle.image_reading.proofs.Steps.{walk_start, walk-next, walk-stops, walk-done, channel-stepped}
use native.Mathlib.Omega.{arith}
use Rattle.image_reading.proofs.walking.walk_channels_from.Goals as goal

pub loop-v-init : goal.loop-v-init
loop-v-init c = walk_start _ _ _ _

pub returns-in_err-place : goal.returns-in_err-place
unfolding channels_from_walk
returns-in_err-place c =
    let l = c.loop-v in
    let p = err_from_is_err_and c.from_residual.result c.from_residual.ensures.1 in
    rw (p.1, p.2) (walk-stops _ _ _ _ l.v l.place l.invariant (omega arith) _ c.in_err-place.ensures)

pub loop-v-preserved : goal.loop-v-preserved
loop-v-preserved c =
    let l = c.loop-v in
    let r = c.in_ok-place.place in
    walk-next _ _ _ _ l.v l.place l.invariant (omega arith) r c.in_ok-place.ensures
    (λ e. (channel-stepped c.args.depth _ c.args.u _ l.place r c.requires.0.high e).near.near)

pub returns : goal.returns
unfolding channels_from_walk
returns c = walk-done _ _ _ _ c.loop-v.v c.loop-v.place c.loop-v.invariant (omega arith)
