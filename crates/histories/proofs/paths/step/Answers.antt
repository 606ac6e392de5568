-- `histories::paths::step` meets its contract: the call on the tables, by the code of the candidate.
use Rattle.tables.specs.Tables.{tables}
use Rattle.histories.proofs.PutLaws.{event-up, event-down, event-receive}
use Rattle.histories.proofs.PathLaws.{stepped}
use Rattle.histories.proofs.paths.step.Goals as goal

pub returns-then-c-lt9 : goal.returns-then-c-lt9
returns-then-c-lt9 c =
    stepped c.args.n c.args.c (tables c.args.nodes.now c.args.channels.now) _
    (event-up c.args.c c.if-c-lt9.true) c.up.ensures c.is_ok.ensures.value

pub returns-then-c-lt18 : goal.returns-then-c-lt18
returns-then-c-lt18 c =
    stepped c.args.n c.args.c (tables c.args.nodes.now c.args.channels.now) _
    (event-down c.args.c c.if-c-lt9.false c.if-c-lt18.true) c.down.ensures c.is_ok-then-c-lt18.ensures.value

pub returns : goal.returns
returns c =
    stepped c.args.n c.args.c (tables c.args.nodes.now c.args.channels.now) _
    (event-receive c.args.c c.if-c-lt9.false c.if-c-lt18.false) c.receive.ensures c.is_ok-2.ensures.value
