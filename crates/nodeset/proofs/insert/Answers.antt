-- `nodeset::insert` meets its contract: the set of `s | single(k)` is told by its members.
use Prim.Native.Nat.{ℕ, ◌^◌, ◌<◌}
use native.Mathlib.Omega.{arith}
use mathlib.Core.Path.{◌≡◌, ap, ◌∙◌}
use mathlib.Core.Bool.{Bool, ◌||◌}
use lib.Bits.{bit_or, or_lt}
use Rattle.nodeset.specs.NodeSet.{member, set_of}
use Rattle.nodeset.specs.inner.Operations.{in_either}
use Rattle.nodeset.proofs.Members.{set_is, member-or, member-set_of, set_of-lt}
use Rattle.nodeset.proofs.insert.Goals as goal

joined : (n s : ℕ) (f : ℕ → Bool) → s < 2 ^ n → bit_or s (set_of n f) ≡ set_of n (in_either (member s) f)
unfolding in_either
joined n s f h =
    set_is n (bit_or s (set_of n f)) _ (or_lt n s (set_of n f) h (set_of-lt n f))
    (λ k l u. member-or s (set_of n f) k ∙ ap (λ (b : Bool). member s k || b) (member-set_of n f k l u))

pub returns : goal.returns
returns c = ap (λ (x : ℕ). bit_or c.args.s x) c.single.ensures ∙ joined 16 c.args.s _ (omega arith)
