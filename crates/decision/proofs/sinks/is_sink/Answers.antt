use mathlib.Core.Path.{◌≡◌, refl}
use borrow.Author.Rules.{rules}
use Rattle.std.proofs.Common.{tests}
use Rattle.basics.specs.Functions.{every}
use Rattle.nodeset.specs.NodeSet.{member}
use Rattle.protocol.specs.Sink.{above, sink}
use Rattle.decision.specs.inner.After.{seen}
use Rattle.basics.proofs.EveryLaws.{every-from_all}
use Rattle.decision.proofs.sinks.is_sink.Goals as goal

pub returns : goal.returns
unfolding sink above
returns c =
    let all : c.all-above.result ≡ every c.args.views.n (above (member c.args.set) (seen c.args.views.row.now c.args.views.v c.args.views.view) c.args.u) =
    every-from_all _ _ _ _ _ refl c.all-above.ensures.ran (λ x q k. (search (rules, tests), rw (← c.of-own.ensures.0) (search (rules, tests)))) (λ x q k. rw (← c.of-own.ensures.0) (search (rules, tests))) in
    rw (all, c.of-own.ensures.0)
