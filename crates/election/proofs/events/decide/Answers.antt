-- `election::events::decide` meets its contract: each kind is decided by u's row, a receipt by the cell too.
use mathlib.Core.Path.{refl}
use Rattle.election.proofs.events.decide.Goals as goal

pub decide_up-requires : goal.decide_up-requires
decide_up-requires c =
    (c.requires.fit.size.few, c.requires.other, rw c.node-row.ensures.0 (c.requires.fit.rows _ c.requires.node))

pub decide_down-requires : goal.decide_down-requires
decide_down-requires c =
    (c.requires.fit.size.few, c.requires.node, c.requires.other, rw c.node-row.ensures.0 (c.requires.fit.rows _ c.requires.node))

pub decide_receipt-requires : goal.decide_receipt-requires
decide_receipt-requires c =
    (c.requires.fit.size.few, c.requires.node, c.requires.other, rw c.node-row.ensures.0 (c.requires.fit.rows _ c.requires.node), c.channel-cell.ensures.1)

pub returns-in-Raised : goal.returns-in-Raised
returns-in-Raised c =
    rw c.in-Raised.is (c.decide_up.ensures _ _ _ c.requires c.node-row.ensures.0 refl)

pub returns-in-Dropped : goal.returns-in-Dropped
returns-in-Dropped c =
    rw c.in-Dropped.is (c.decide_down.ensures _ _ c.requires c.node-row.ensures.0 refl)

pub returns-in-Received : goal.returns-in-Received
returns-in-Received c =
    rw c.in-Received.is
    (c.decide_receipt.ensures _ c.requires c.node-row.ensures.0 c.channel-cell.ensures.0)
