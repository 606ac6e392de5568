-- `groups::walks::links` meets its contract: links over the words of who is up are the links.
use mathlib.Core.Path.{refl}
use Rattle.groups.proofs.LinkLaws.{links-of}
use Rattle.sound.proofs.LookLaws.{size}
use Rattle.groups.proofs.walks.links.Goals as goal

pub fill_links-requires : goal.fill_links-requires
fill_links-requires c =
    ((size _ _ c.args.plot.passed).few, c.ups-up.ensures.size, refl)

pub returns : goal.returns
returns c = links-of _ _ _ _ c.ups-up.ensures c.fill_links.ensures
