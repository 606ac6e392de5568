-- `decision::levels::is_of_level` meets its contract: a node outside the set passes, one inside by its level.
use mathlib.Core.Path.{◌≡◌, sym, ◌∙◌}
use mathlib.Core.Bool.{true, false}
use Rattle.nodeset.specs.NodeSet.{member}
use Rattle.protocol.specs.Rules.{of_level}
use Rattle.decision.proofs.levels.is_of_level.Goals as goal

pub returns-then-contains : goal.returns-then-contains
unfolding of_level
returns-then-contains c =
    let inside : member c.args.set c.args.w ≡ true = sym c.contains.ensures ∙ c.if-contains.true in
    rw (c.level_same.ensures, inside, c.of-other.ensures.0)

pub returns : goal.returns
unfolding of_level
returns c =
    let outside : member c.args.set c.args.w ≡ false = sym c.contains.ensures ∙ c.if-contains.false in
    rw outside
