-- `nodeset::disjoint` meets its contract: what two sets share is 0 exactly where they are apart.
use native.Mathlib.Omega.{arith}
use Rattle.nodeset.proofs.Members.{and-apart}
use Rattle.nodeset.proofs.disjoint.Goals as goal

pub returns : goal.returns
returns c = and-apart 16 c.args.a c.args.b (omega arith)
