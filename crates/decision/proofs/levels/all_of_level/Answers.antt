use mathlib.Core.Path.{refl}
use borrow.Author.Rules.{rules}
use Rattle.std.proofs.Common.{tests}
use Rattle.basics.proofs.EveryLaws.{every-from_all}
use Rattle.decision.proofs.levels.all_of_level.Goals as goal

pub returns : goal.returns
returns c =
    every-from_all _ _ _ _ _ refl c.all.ensures.ran (λ x q k. search (rules, tests)) (λ x q k. search (rules, tests))
