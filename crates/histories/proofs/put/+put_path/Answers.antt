-- `histories::put::put_path` meets its contract: the events before the last, then the last.
use Rattle.std.proofs.Common.{arith}
use Rattle.text.proofs.PourLaws.{both}
use Rattle.histories.proofs.PutLaws.{path-none, path_room, path-done}
use Rattle.histories.proofs.put.+put_path.Goals as goal

pub returns-then-path-eq0 : goal.returns-then-path-eq0
returns-then-path-eq0 t c = path-none c.args.path.events c.args.path.code c.if-path-eq0.true c.args.out.now c.args.at

pub put_path-a-requires : goal.put_path-a-requires
put_path-a-requires t c =
    (omega arith, path_room c.args.path.events c.args.path.code c.args.at c.if-path-eq0.false c.requires)

pub put_event-requires : goal.put_event-requires
put_event-requires t c =
    omega (arith, c.put_path-a.ensures.1, path_room c.args.path.events c.args.path.code c.args.at c.if-path-eq0.false c.requires)

pub returns : goal.returns
returns t c =
    let front = c.put_path-a.ensures in
    let last = c.put_event.ensures in
    path-done c.args.path.events c.args.path.code c.if-path-eq0.false (both front.0 front.1) (both last.0 last.1)
