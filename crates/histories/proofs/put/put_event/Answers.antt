-- `histories::put::put_event` meets its contract: its pieces are poured one behind the other.
use Rattle.text.proofs.PourLaws.{both}
use Rattle.histories.proofs.PutLaws.{event-done}
use Rattle.histories.proofs.put.put_event.Goals as goal

pub returns : goal.returns
returns c =
    let l = c.letter in
    let a = c.put_letter-a.ensures in
    let b = c.put_number-b.ensures in
    let d = c.put_number.ensures in
    event-done c.args.c l.result l.ensures (both a.0 a.1) (both b.0 b.1) (both d.0 d.1)
