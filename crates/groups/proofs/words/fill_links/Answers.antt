use native.Mathlib.Omega.{arith}
use mathlib.Core.Path.{sym, ◌∙◌}
use Rattle.groups.proofs.LinkLaws.{fill_start, fill-next, fill_done}
use Rattle.groups.proofs.words.fill_links.Goals as goal

pub loop-w-init : goal.loop-w-init
loop-w-init c = fill_start _ _ _ c.requires.2

pub loop-w-preserved : goal.loop-w-preserved
loop-w-preserved c =
    fill-next _ _ _ _ _ c.loop-w.invariant (omega arith) (omega arith) c.links-set.ensures

pub shape_of-near : goal.shape_of-near
shape_of-near c = c.loop-w.invariant.size ∙ sym c.requires.2

pub returns : goal.returns
returns c = fill_done _ _ _ _ c.loop-w.invariant (omega arith)
