use mathlib.Core.Path.{sym, ◌∙◌}
use Rattle.election.proofs.SendLaws.{sending-start, sending-done, sending-node, sending-room, sending-less, sending-next}
use Rattle.election.proofs.sending.send_all.Goals as goal

pub loop-left-init : goal.loop-left-init
loop-left-init c = sending-start _ _ _ _ _ _ c.requires.2 c.requires.3 c.requires.4

pub send-requires : goal.send-requires
send-requires c =
    let inv = c.loop-left.invariant in
    let some = c.loop-left-test.true in
    let first = c.first-w.ensures in
    (c.requires.0, c.requires.1, sending-node c.requires.0 inv some first, inv.size, sending-room c.requires.0 inv some first, c.requires.5)

pub loop-left-smaller : goal.loop-left-smaller
loop-left-smaller c =
    let inv = c.loop-left.invariant in
    let some = c.loop-left-test.true in
    rw c.remove-left.ensures (sending-less c.requires.0 inv some c.first-w.ensures)

pub loop-left-preserved : goal.loop-left-preserved
loop-left-preserved c =
    let inv = c.loop-left.invariant in
    let some = c.loop-left-test.true in
    let first = c.first-w.ensures in
    sending-next c.requires.0 inv some first c.requires.1 c.send.ensures c.remove-left.ensures

pub shape_of-channels : goal.shape_of-channels
shape_of-channels c = c.loop-left.invariant.size ∙ sym c.requires.2

pub returns : goal.returns
returns c = sending-done c.requires.0 c.loop-left.invariant c.loop-left-test.false
