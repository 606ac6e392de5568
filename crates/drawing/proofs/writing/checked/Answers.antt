-- `drawing::writing::checked` meets its contract: the drawing's length is known before anything is written.
use Rattle.text.proofs.FrontLaws.{no_room, room}
use Rattle.drawing.proofs.writing.checked.Goals as goal

pub returns-then-out-size : goal.returns-then-out-size
returns-then-out-size c = no_room _ _ c.write-size.ensures.1 c.if-out-size.true

pub returns : goal.returns
returns c =
    let if1 = c.if-out-size in
    let write = c.write-size in
    room _ _ write.ensures.1 _ if1.false c.write.ensures.0
