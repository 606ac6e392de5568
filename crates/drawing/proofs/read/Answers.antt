-- `drawing::read` meets its contract: 16, 1, 17, or the plot.
use mathlib.Core.Path.{sym, ◌∙◌}
use Rattle.lent.proofs.CheckLaws.{sized-is}
use Rattle.drawing.proofs.ReadLaws.{few, read_none, read-sizes, read-links, read-plot}
use Rattle.drawing.proofs.read.Goals as goal

pub returns-in_default : goal.returns-in_default
returns-in_default c = read_none _ _ c.in_default.ensures.none

pub returns-then-not-is_sized : goal.returns-then-not-is_sized
returns-then-not-is_sized c =
    let f = c.in-Some.ensures.some in read-sizes _ _ _ f.0 f.1 _ c.is_sized.ensures c.if-not-is_sized.true

pub hold-requires : goal.hold-requires
hold-requires c =
    let f = c.in-Some.ensures.some in (few c.args.text.now _ f.0 f.1, f.2)

pub returns-then-not-hold : goal.returns-then-not-hold
returns-then-not-hold c =
    let f = c.in-Some.ensures.some in
    read-links _ _ _ f.0 f.1 _ c.is_sized.ensures c.if-not-is_sized.false _ c.hold.ensures c.if-not-hold.true

pub build-requires : goal.build-requires
build-requires c = (sized-is _ _ (sym c.is_sized.ensures ∙ c.if-not-is_sized.false), c.in-Some.ensures.some.2)

pub returns : goal.returns
returns c =
    let f = c.in-Some.ensures.some in
    read-plot _ _ _ f.0 f.1 _ c.is_sized.ensures c.if-not-is_sized.false _ c.hold.ensures c.if-not-hold.false _ c.build.ensures
