-- `groups::walks::group` meets its contract: the group over the words is the group.
use mathlib.Core.Path.{◌∙◌}
use Rattle.groups.proofs.LinkLaws.{link-words, group-words}
use Rattle.sound.proofs.LookLaws.{size}
use Rattle.groups.proofs.walks.group.Goals as goal

pub group-requires : goal.group-requires
group-requires c =
    (link-words _ _ _ c.links-near.ensures (size _ _ c.args.plot.passed).few, c.requires)

pub returns : goal.returns
returns c = c.group.ensures ∙ group-words _ _ _ c.links-near.ensures _
