-- `election::sending::has_room` meets its contract: every node has room.
use borrow.Author.Rules.{rules}
use mathlib.Core.Path.{refl}
use Rattle.std.proofs.Common.{tests}
use Rattle.basics.proofs.EveryLaws.{every-from_all}
use Rattle.election.proofs.sending.has_room.Goals as goal

pub returns : goal.returns
returns c =
    every-from_all _ _ _ _ _ refl c.all.ensures.ran (λ x q k. search (rules, tests)) (λ x q k. search (rules, tests))
