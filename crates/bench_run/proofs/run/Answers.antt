-- `bench_run::run` meets its contract: the listing's length is known before anything is written.
use Rattle.text.proofs.FrontLaws.{no_room, room}
use Rattle.bench_run.specs.Run.{run_on}
use Rattle.bench_run.proofs.run.Goals as goal

pub returns-then-out-size : goal.returns-then-out-size
unfolding run_on
returns-then-out-size c = no_room _ _ c.list-size.ensures.1 c.if-out-size.true

pub returns : goal.returns
unfolding run_on
returns c =
    room _ _ c.list-size.ensures.1 _ c.if-out-size.false
    c.list.ensures.0
