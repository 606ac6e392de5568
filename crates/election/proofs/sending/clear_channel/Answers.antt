-- `election::sending::clear_channel` meets its contract: each kind of event changes one cell at most, the pair u, v or the pair v, u.
use mathlib.Core.Path.{refl, ap, ◌∙◌}
use lib.ListN.{length}
use Rattle.tables.specs.inner.Written.{emptied, taken}
use Rattle.tables.proofs.RowsLaws.{part-row, changed_row, channel-length}
use Rattle.election.proofs.SendLaws.{raised-cells, dropped-cells, received-cells, takes_one}
use Rattle.election.proofs.sending.clear_channel.Goals as goal

pub take_first-requires : goal.take_first-requires
take_first-requires c =
    let same = part-row _ _ _ c.channel_start-a-in-Received.ensures.0 refl in (
      ap length same ∙ channel-length _ _ _ c.requires.2 c.requires.1 _ c.requires.3,
      rw same (takes_one _ _ _ _ c.requires.1 c.requires.2 _ c.requires.3 c.in-Received.is c.requires.4),
    )

pub returns-in-Raised : goal.returns-in-Raised
returns-in-Raised c =
    raised-cells _ _ _ _ c.requires.1 c.requires.2 _ c.requires.3 c.in-Raised.is

pub returns-in-Dropped : goal.returns-in-Dropped
returns-in-Dropped c =
    let place = c.channel_start-a.ensures.0 in
    dropped-cells _ _ _ _ c.requires.1 c.requires.2 _ c.requires.3 c.in-Dropped.is
    (changed_row _ _ c.args.channels.now place refl (λ _. emptied) c.clear.ensures)

pub returns-in-Received : goal.returns-in-Received
returns-in-Received c =
    let place = c.channel_start-a-in-Received.ensures.0 in
    received-cells _ _ _ _ c.requires.1 c.requires.2 _ c.requires.3 c.in-Received.is
    (changed_row _ _ c.args.channels.now place refl taken c.take_first.ensures)
