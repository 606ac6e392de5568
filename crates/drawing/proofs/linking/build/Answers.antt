-- `drawing::linking::build` meets its contract: the fresh plot, then its links.
use Rattle.lent.proofs.FilledLaws.{made-fresh}
use Rattle.drawing.proofs.linking.build.Goals as goal

pub link_all-requires : goal.link_all-requires
link_all-requires c =
    (c.requires.0.low, c.requires.0.few, c.requires.1, made-fresh _ _ c.requires.0 c.fresh.ensures)
