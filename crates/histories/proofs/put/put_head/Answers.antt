-- `histories::put::put_head` meets its contract: its pieces are poured one behind the other.
use Rattle.text.proofs.PourLaws.{both}
use Rattle.histories.proofs.PutLaws.{head_done}
use Rattle.histories.proofs.put.put_head.Goals as goal

pub returns : goal.returns
returns c =
    let a = c.put_letter-a.ensures in
    let b = c.put_number.ensures in
    head_done c.args.n (both a.0 a.1) (both b.0 b.1)
