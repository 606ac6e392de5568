-- `height::order::of_pairs` meets its contract: the two parts of the pairs, one after the other.
use borrow.Author.Rules.{rules}
use mathlib.Core.Path.{refl, sym}
use mir.Syntax.{w64}
use mir.Val.{SFits}
use Rattle.height.proofs.Compare.{order-pairs, order-read}
use Rattle.height.proofs.order.of_pairs.Goals as goal

pub returns : goal.returns
returns c =
    let fa : SFits w64 c.args.a.nlts.0 = search rules in
    let fb : SFits w64 c.args.b.nlts.0 = search rules in
    rw (c.and_then.ensures, c.of_words-lid.ensures, order-read 5 fa fb refl refl c.of_numbers-nlts.ensures)
    (sym (order-pairs _ _))
