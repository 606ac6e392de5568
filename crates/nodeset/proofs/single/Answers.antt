-- `nodeset::single` meets its contract. The test passes one node of 1 to 16, or none.
use Prim.Native.Nat.{ℕ, zero, suc, ◌-◌, ◌*◌, ◌%◌, ◌^◌, ◌≤◌}
use native.Mathlib.Omega.{arith}
use mathlib.Core.Path.{◌≡◌, refl, sym}
use mathlib.Core.Bool.{false}
use lib.Dec.{lit<}
use lib.Pow.{shl_exact}
use borrow.Author.Tests.{eq-eqb, ne_eqb}
use Rattle.nodeset.specs.NodeSet.{set_of, same_node}
use Rattle.nodeset.proofs.Members.{set_of-none, one_more}
use Rattle.nodeset.proofs.single.Goals as goal

nothing : (n k : ℕ) → ((j : ℕ) → 1 ≤ j → j ≤ n → j ≡ k → ⊥) → 0 ≡ set_of n (same_node k)
unfolding same_node
nothing n k h = sym (set_of-none n (same_node k) (λ j l u. ne_eqb j k (h j l u)))

shifted : (n k : ℕ) → 1 ≤ k → k ≤ n → (1 * 2 ^ (k - 1)) % 2 ^ n ≡ set_of n (same_node k)
unfolding same_node
shifted n zero l u = absurd (omega arith)
shifted n (suc k) l u =
    let i : suc k - 1 ≡ k = omega arith in
    let e = one_more n k (λ j. false) (same_node (suc k)) (omega arith) refl (eq-eqb (suc k) (suc k) refl) (λ j ne. ne_eqb j (suc k) ne) in
    let z = set_of-none n (λ j. false) (λ j a b. refl) in
    rw (i, shl_exact 1 k n (lit< tt) (omega arith)) (omega (arith, e.0))

pub returns-then-k-lt1 : goal.returns-then-k-lt1
returns-then-k-lt1 c = nothing 16 c.args.k (λ j l u e. omega arith)

pub returns-then-k-gt16 : goal.returns-then-k-gt16
returns-then-k-gt16 c = nothing 16 c.args.k (λ j l u e. omega arith)

pub returns : goal.returns
returns c = shifted 16 c.args.k (omega arith) (omega arith)
