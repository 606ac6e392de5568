-- `decision::rule::of_equal_pairs` meets its contract: the tests are those of `equal_pairs_rule`, and v's level is the view's.
use mathlib.Core.Bool.{true, false}
use mathlib.Core.Path.{◌≡◌, sym, ◌∙◌}
use Rattle.basics.proofs.FunctionsLaws.{update-at}
use Rattle.nodeset.specs.NodeSet.{member}
use Rattle.protocol.specs.Rules.{equal_pairs_rule}
use Rattle.protocol.specs.Sink.{sink}
use Rattle.decision.specs.inner.After.{seen}
use Rattle.decision.proofs.rule.of_equal_pairs.Goals as goal

pub returns-then-not-is_sink : goal.returns-then-not-is_sink
unfolding equal_pairs_rule
returns-then-not-is_sink c = let a = c.args in
    let idle : sink a.views.n (member a.«set») (seen a.views.row.now a.views.v a.views.view) a.u ≡ false =
    sym c.is_sink.ensures ∙ c.if-not-is_sink.true in
    rw idle

pub returns-then-all_of_level : goal.returns-then-all_of_level
unfolding equal_pairs_rule
returns-then-all_of_level c =
    let a = c.args in
    let sinks : sink a.views.n (member a.«set») (seen a.views.row.now a.views.v a.views.view) a.u ≡ true =
    sym c.is_sink.ensures ∙ c.if-not-is_sink.false in
    rw (update-at, sinks, ← c.all_of_level.ensures, c.if-all_of_level.true) c.of_one_level.ensures

pub returns : goal.returns
unfolding equal_pairs_rule
returns c =
    let a = c.args in
    let sinks : sink a.views.n (member a.«set») (seen a.views.row.now a.views.v a.views.view) a.u ≡ true =
    sym c.is_sink.ensures ∙ c.if-not-is_sink.false in
    rw (update-at, sinks, ← c.all_of_level.ensures, c.if-all_of_level.false, c.largest_level.ensures)
