-- `groups::walks::heads` meets its contract: the heads over the words are the heads.
use mathlib.Core.Path.{◌∙◌}
use Rattle.groups.proofs.LinkLaws.{link-words, heads-words}
use Rattle.sound.proofs.LookLaws.{size}
use Rattle.groups.proofs.walks.heads.Goals as goal

pub heads-requires : goal.heads-requires
heads-requires c = link-words _ _ _ c.links-near.ensures (size _ _ c.args.plot.passed).few

pub returns : goal.returns
returns c = c.heads.ensures ∙ heads-words _ _ _ c.links-near.ensures
