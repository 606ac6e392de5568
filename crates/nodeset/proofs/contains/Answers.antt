-- `nodeset::contains` meets its contract. What s shares with node k alone has node k, or nothing.
use Prim.Native.Nat.{ℕ, ◌^◌, ◌<◌}
use native.Mathlib.Omega.{arith}
use mathlib.Core.Path.{◌≡◌, refl, sym, ap, ap₂, ◌∙◌}
use mathlib.Core.Bool.{Bool, true, false, not, ◌&&◌, and-false, true≢false}
use lib.Bits.{bit_and}
use lib.Dec.{eqb}
use borrow.Author.Tests.{eq-eqb, ne_eqb, eqb-true}
use Rattle.nodeset.specs.NodeSet.{member, set_of, same_node}
use Rattle.nodeset.proofs.Members.{and-apart, at-apart, member-and, member-range, member-set_of, none-in-zero}
use Rattle.nodeset.proofs.contains.Goals as goal

shares : (n s k : ℕ) → s < 2 ^ n → not (eqb (bit_and s (set_of n (same_node k))) 0) ≡ member s k
unfolding same_node
shares n s k h = go (member s k) refl
  where
    one : ℕ
    one = set_of n (same_node k)

    at : (j : ℕ) (b : Bool) → eqb j k ≡ b → member s k ≡ false → (member s j && b) ≡ false
    at j true e m = rw (eqb-true j k e, m)
    at j false e m = and-false (member s j)

    go : (b : Bool) → member s k ≡ b → not (eqb (bit_and s one) 0) ≡ b
    go true m =
        let r = member-range n s k h m in
        let both : member (bit_and s one) k ≡ true =
        member-and s one k ∙ ap₂ ◌&&◌ m (member-set_of n (same_node k) k r.0 r.1 ∙ eq-eqb k k refl) in
        ap not (ne_eqb (bit_and s one) 0 (λ q. true≢false (sym both ∙ ap (λ (x : ℕ). member x k) q ∙ none-in-zero k)))
    go false m =
        ap not (and-apart n s one h ∙ at-apart n (member s) (member one)
        (λ j l u. ap (λ (b : Bool). member s j && b) (member-set_of n (same_node k) j l u) ∙ at j (eqb j k) refl m))

pub returns : goal.returns
returns c =
    let a = c.args in
    ap (λ (x : ℕ). not (eqb (bit_and a.s x) 0)) c.single.ensures ∙ shares 16 a.s a.k (omega arith)
