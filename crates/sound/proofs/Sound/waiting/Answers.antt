use mathlib.Core.Path.{ap, ◌∙◌}
use Rattle.tables.specs.Cell.{count}
use Rattle.sound.proofs.LookLaws.{size, waiting-look}
use Rattle.sound.proofs.Sound.waiting.Goals as goal

pub channel-requires : goal.channel-requires
channel-requires c =
    let s = size _ _ c.args.self.passed in (s.few, c.requires.0, c.requires.1, s.channels)

pub returns : goal.returns
returns c = c.waiting.ensures ∙ ap count c.channel.ensures.0 ∙ waiting-look _ _ c.args.self.passed _ c.requires.0 _ c.requires.1
