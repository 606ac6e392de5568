-- For a walk that takes the lowest node left, its group, and goes on without it: what is left stays a union of whole groups,
-- and the lowest node left is the lowest of its group. So each group comes once, lowest member first. Assumes at most 16 nodes.
use Prim.Native.Nat.{ℕ, ◌^◌, ◌<◌, ◌≤◌}
use native.Mathlib.Omega.{arith}
use mathlib.Core.Bool.{Bool, true, not, ◌&&◌}
use mathlib.Core.Path.{◌≡◌, sym, ap₂, ◌∙◌}
use lib.Dec.{ltb}
use borrow.Author.Tests.{ltb-true, ltb-false}
use Rattle.basics.proofs.Tests.{iff, clash, Choice, yes!, no!, choice}
use Rattle.nodeset.specs.NodeSet.{member, set_of, lowest}
use Rattle.nodeset.specs.inner.Operations.{in_but_not}
use Rattle.protocol.specs.Network.{Node}
use Rattle.calls.specs.Component.{Joined, alone}
use Rattle.groups.specs.Groups.{group_of}
use Rattle.nodeset.proofs.Members.{member-set_of, set_of-lt}
use Rattle.nodeset.proofs.Walk.{LowestNode, lowest-in}
use Rattle.calls.proofs.Groups.{joined-trans, joined-sym}
use Rattle.groups.proofs.ClosureLaws.{joined-node, joined-sound, joined-complete}
use Rattle.groups.proofs.Partition.{parted}

-- with a node, all of its group
pub record Whole (n : ℕ) (ups : ℕ → ℕ → Bool) (s : ℕ) : Type 0 where
  pub within : s < 2 ^ n
  pub same : (u w : ℕ) → Node n u → Joined n ups u w → member s u ≡ member s w

module _ (n : ℕ) (ups : ℕ → ℕ → Bool) where
  -- all nodes
  pub whole-all : Whole n ups (set_of n (λ k. true))
  whole-all = record {
    within = set_of-lt n (λ k. true);
    same = λ u w a j.
        let b = joined-node n ups u w a j in
        member-set_of n (λ k. true) u a.low a.high ∙ sym (member-set_of n (λ k. true) w b.low b.high);
  }

  in_group : (v u w : ℕ) → Node n v → Joined n ups u w → member (group_of n ups v) u ≡ member (group_of n ups v) w
  in_group v u w a j =
      iff (member (group_of n ups v) u) (member (group_of n ups v) w)
      (λ e. joined-complete n ups v a w (joined-trans n ups (joined-sound n ups v u e) j))
      (λ e. joined-complete n ups v a u (joined-trans n ups (joined-sound n ups v w e) (joined-sym n ups j)))

  -- without the group of v
  pub whole-less : (s v : ℕ) → Whole n ups s → Node n v → Whole n ups (set_of n (in_but_not (member s) (member (group_of n ups v))))
  unfolding in_but_not
  whole-less s v h b = record {
    within = set_of-lt n _;
    same = λ u w a j.
        let c = joined-node n ups u w a j in
        member-set_of n (λ k. member s k && not (member (group_of n ups v) k)) u a.low a.high
        ∙ ap₂ (λ (x y : Bool). x && not y) (h.same u w a j) (in_group v u w b j)
        ∙ sym (member-set_of n (λ k. member s k && not (member (group_of n ups v) k)) w c.low c.high);
  }

  -- the lowest node left is its group's lowest
  pub whole-head : (s : ℕ) → n ≤ 16 → Whole n ups s → 0 < s → lowest (group_of n ups (lowest s)) ≡ lowest s
  whole-head s few h p =
      let l : LowestNode n s (lowest s) = lowest-in n s p h.within few in
      let a : Node n (lowest s) = record { low = l.from_one; high = l.at_most } in
      let q = parted n ups few in
      let most : lowest (group_of n ups (lowest s)) ≤ lowest s = q.lowest-is (lowest s) (lowest s) a alone in
      let held : member s (lowest (group_of n ups (lowest s))) ≡ true =
      sym (h.same (lowest s) (lowest (group_of n ups (lowest s))) a (q.head (lowest s) a)) ∙ l.is_member in
      go l most held (choice (ltb (lowest (group_of n ups (lowest s))) (lowest s)))
    where
      go : LowestNode n s (lowest s) → lowest (group_of n ups (lowest s)) ≤ lowest s → member s (lowest (group_of n ups (lowest s))) ≡ true
          → Choice (ltb (lowest (group_of n ups (lowest s))) (lowest s)) → lowest (group_of n ups (lowest s)) ≡ lowest s
      go l most held (yes! e) = clash held (l.none_below (lowest (group_of n ups (lowest s))) (ltb-true (lowest (group_of n ups (lowest s))) (lowest s) e))
      go l most held (no! e) = let x = ltb-false (lowest (group_of n ups (lowest s))) (lowest s) e in omega arith
