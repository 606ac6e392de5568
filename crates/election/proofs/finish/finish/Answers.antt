-- `election::finish::finish` meets its contract: 8, 9, or everything written; each return is one law of FinishLaws.antt.
use borrow.Author.Rules.{rules}
use Rattle.election.proofs.FinishLaws.{new-negated, wordy, ready-takes, ready-silenced, ready-lt, ends-deep, ends-full, ends-done}
use Rattle.election.proofs.WriteLaws.{room-cleared, sent-cleared}
use Rattle.election.proofs.finish.finish.Goals as goal

pub height_after-requires : goal.height_after-requires
height_after-requires c =
    (c.requires.between.fit.size.few, c.requires.between.node, c.node-row.ensures.1, c.requires.view-negated, c.requires.adopts)

pub returns-in_default : goal.returns-in_default
returns-in_default c =
    ends-deep c.requires c.node-row.ensures.0 c.height_after.ensures.0 c.in_default.is

pub has_room-requires : goal.has_room-requires
has_room-requires c =
    (c.requires.between.fit.size.few, c.requires.between.node, c.requires.between.fit.size.channels)

pub returns-then-not-has_room : goal.returns-then-not-has_room
returns-then-not-has_room c =
    ends-full c.requires c.node-row.ensures.0 c.height_after.ensures.0 c.in-Ok.is c.sent_to-to.ensures
    c.has_room.ensures (rw c.if-not-has_room.true)

pub clear_channel-requires : goal.clear_channel-requires
clear_channel-requires c =
    let b = c.requires.between in
    (b.fit.size.few, b.node, b.other, b.fit.size.channels, ready-takes _ c.requires)

pub write_node-requires : goal.write_node-requires
write_node-requires c =
    let b = c.requires.between in
    (b.fit.size.few, b.node, b.other, b.fit.size.nodes, c.requires.view-negated, new-negated c.in-Ok.is c.height_after.ensures.1)

pub send_all-requires : goal.send_all-requires
send_all-requires c =
    let b = c.requires.between in
    let cleared = c.clear_channel.ensures in (
      b.fit.size.few,
      b.node,
      cleared.size,
      ready-lt c.requires c.sent_to-to.ensures,
      room-cleared _ _ _ _ b.node b.differ _ _ c.args.kind cleared (ready-silenced _ c.requires c.sent_to-to.ensures)
          c.has_room.ensures (rw c.if-not-has_room.false),
      new-negated c.in-Ok.is c.height_after.ensures.1,
    )

pub returns : goal.returns
returns c =
    let own = c.in-Ok.own in
    ends-done c.requires c.node-row.ensures.0 c.height_after.ensures.0 c.in-Ok.is c.sent_to-to.ensures
    c.has_room.ensures (rw c.if-not-has_room.false) (wordy c.args.d.view (search rules) c.requires.view-negated)
    (wordy own (search rules) (new-negated c.in-Ok.is c.height_after.ensures.1)) c.write_node.ensures
    (sent-cleared _ _ _ _ _ _ _ _ c.clear_channel.ensures c.send_all.ensures)
