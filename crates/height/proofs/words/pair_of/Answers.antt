-- `height::words::pair_of` meets its contract: the election time negated, the leader as it is.
use native.Mathlib.Omega.{arith}
use Rattle.height.proofs.WordsLaws.{negated_word}
use Rattle.height.proofs.words.pair_of.Goals as goal

pub returns : goal.returns
returns c = (rw c.nlts_of-nlts.ensures, rw c.nlts_of-nlts.ensures (negated_word c.args.elected (omega arith)))
