-- `nodeset::remove` meets its contract: s without what it shares with node k alone is told by its members.
use Prim.Native.Nat.{ℕ, ◌-◌, ◌^◌, ◌<◌}
use native.Mathlib.Omega.{arith}
use mathlib.Core.Path.{◌≡◌, ap, ◌∙◌}
use mathlib.Core.Bool.{Bool, not, ◌&&◌}
use lib.Bits.{bit_and, and_le_l}
use Rattle.nodeset.specs.NodeSet.{member, set_of}
use Rattle.nodeset.specs.inner.Operations.{in_but_not}
use Rattle.nodeset.proofs.Members.{set_is, member-minus, member-set_of}
use Rattle.nodeset.proofs.remove.Goals as goal

less : (n s : ℕ) (f : ℕ → Bool) → s < 2 ^ n → s - bit_and s (set_of n f) ≡ set_of n (in_but_not (member s) f)
unfolding in_but_not
less n s f h =
    set_is n (s - bit_and s (set_of n f)) _ (omega arith)
    (λ k l u. member-minus s (set_of n f) k ∙ ap (λ (b : Bool). member s k && not b) (member-set_of n f k l u))

pub overflow_sub-result : goal.overflow_sub-result
overflow_sub-result c = and_le_l c.args.s c.single.result

pub returns : goal.returns
returns c =
    let s = c.args.s in
    ap (λ (x : ℕ). s - bit_and s x) c.single.ensures ∙ less 16 s _ (omega arith)
