-- `histories::put::put_input` meets its contract: the head, then the events.
use Rattle.text.proofs.PourLaws.{both}
use Rattle.histories.proofs.PutLaws.{input-done, input-room}
use Rattle.histories.proofs.put.put_input.Goals as goal

pub put_path-requires : goal.put_path-requires
put_path-requires c =
    input-room c.args.path.n c.args.path.events c.args.path.code c.args.at _ c.put_head-a.ensures.1 c.requires

pub returns : goal.returns
returns c =
    let head = c.put_head-a.ensures in
    let rest = c.put_path.ensures in
    input-done c.args.path.n c.args.path.events c.args.path.code (both head.0 head.1) (both rest.0 rest.1)
