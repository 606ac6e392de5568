-- `groups::named` meets its contract: 3, or both sets.
use Rattle.protocol.proofs.NodeLaws.{is-node}
use Rattle.groups.specs.Group.{group_named}
use Rattle.groups.proofs.named.Goals as goal

pub group-members-requires : goal.group-members-requires
group-members-requires c = is-node _ _ c.if-u-plot.true

pub returns-then-u-plot : goal.returns-then-u-plot
unfolding group_named
returns-then-u-plot c = rw (c.if-u-plot.true, c.collectors-collectors.ensures, c.group-members.ensures)

pub returns : goal.returns
unfolding group_named
returns c = rw c.if-u-plot.false
