-- `nodeset::union` meets its contract: the set of `a | b` is told by its members.
use native.Mathlib.Omega.{arith}
use lib.Bits.{bit_or, or_lt}
use Rattle.nodeset.specs.inner.Operations.{in_either}
use Rattle.nodeset.proofs.Members.{set_is, member-or}
use Rattle.nodeset.proofs.union.Goals as goal

pub returns : goal.returns
unfolding in_either
returns c =
    let a = c.args.a in
    let b = c.args.b in
    set_is 16 (bit_or a b) _ (or_lt 16 a b (omega arith) (omega arith)) (λ k l u. member-or a b k)
