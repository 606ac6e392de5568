-- `election::sending::send` meets its contract: the part that is lent is the cell of the pair u, w.
use mathlib.Core.Path.{refl, ap, ◌∙◌}
use lib.ListN.{length}
use Rattle.tables.specs.inner.Written.{appended}
use Rattle.tables.proofs.RowsLaws.{part-row, changed_row, channel-length}
use Rattle.election.proofs.sending.send.Goals as goal

pub append-requires : goal.append-requires
append-requires c =
    let same = part-row _ _ _ c.channel_start-a.ensures.0 refl in
    (ap length same ∙ channel-length _ _ _ c.requires.1 c.requires.2 _ c.requires.3, rw same c.requires.4, c.requires.5)

pub returns : goal.returns
returns c =
    let place = c.channel_start-a.ensures.0 in
    changed_row _ _ c.args.channels.now place refl (λ cell. appended cell c.args.h c.args.t.0)
    c.append.ensures
