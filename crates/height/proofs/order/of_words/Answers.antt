-- `height::order::of_words` meets its contract: the order of two numbers, neither below 0.
use borrow.Author.Rules.{rules}
use Rattle.height.proofs.Compare.{order-read}
use Rattle.height.proofs.order.of_words.Goals as goal

pub returns : goal.returns
returns c =
    order-read _ (search rules) (search rules) c.signed.ensures c.signed-2.ensures c.of_numbers.ensures
