-- `pairs::is_member` meets its contract: node v is bit v - 1, and the bits above it do not count.
use Rattle.pairs.proofs.PairLaws.{bit-member}
use Rattle.pairs.proofs.is_member.Goals as goal

pub returns : goal.returns
returns c = bit-member c.args.word c.args.v c.requires.0
