-- `groups::words::without` meets its contract: the set is told by its members.
use native.Mathlib.Omega.{arith}
use lib.Bits.{bit_and, and_le_l}
use Rattle.nodeset.specs.inner.Operations.{in_but_not}
use Rattle.nodeset.proofs.Members.{set_is, member-minus}
use Prim.Native.Nat.{◌-◌}
use Rattle.groups.proofs.words.without.Goals as goal

pub overflow_sub-result : goal.overflow_sub-result
overflow_sub-result c = and_le_l c.args.a c.args.b

pub returns : goal.returns
unfolding in_but_not
returns c = let a = c.args.a in let b = c.args.b in set_is 16 (a - bit_and a b) _ (omega arith) (λ k l u. member-minus a b k)
