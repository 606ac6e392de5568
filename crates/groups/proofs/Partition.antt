-- The groups part the nodes 1 to n: a group is exactly what is joined, the same set from each of its members, and has one lowest member.
-- Assumes at most 16 nodes.
use Prim.Native.Nat.{ℕ, zero, suc, ◌<◌, ◌≤◌}
use native.Mathlib.Omega.{arith}
use mathlib.Core.Bool.{Bool, true}
use mathlib.Core.Path.{◌≡◌, sym, ap, ◌∙◌}
use lib.Dec.{leb}
use borrow.Author.Tests.{eq-eqb, eqb-true, leb-true, leb-false}
use Rattle.basics.proofs.Tests.{iff, Choice, yes!, no!, choice, clash}
use Rattle.calls.specs.Component.{Joined, alone}
use Rattle.calls.proofs.Groups.{joined-trans, joined-sym}
use Rattle.nodeset.specs.NodeSet.{member, set_of, lowest}
use Rattle.nodeset.proofs.Members.{member-set_of, set_of-lt, same-members, none-in-zero}
use Rattle.nodeset.proofs.Walk.{LowestNode, lowest-in}
use Rattle.protocol.specs.Network.{Node}
use Rattle.tables.proofs.TablesLaws.{member-node}
use Rattle.groups.specs.Groups.{group_of, is_head, heads_of}
use Rattle.groups.proofs.ClosureLaws.{joined-node, group-lt, joined-sound, joined-complete}

-- ---- the statement

pub record Parted (n : ℕ) (ups : ℕ → ℕ → Bool) : Type 0 where
  -- a group is what is joined, no more and no less
  pub sound : (u w : ℕ) → Node n u → member (group_of n ups u) w ≡ true → Joined n ups u w
  pub complete : (u w : ℕ) → Node n u → Joined n ups u w → member (group_of n ups u) w ≡ true
  -- nobody beyond n
  pub nodes : (u w : ℕ) → Node n u → member (group_of n ups u) w ≡ true → Node n w
  -- it is the same set from each of its members
  pub same : (u w : ℕ) → Node n u → Joined n ups u w → group_of n ups u ≡ group_of n ups w
  -- its lowest member is one of the heads, and no other member is
  pub head : (u : ℕ) → Node n u → Joined n ups u (lowest (group_of n ups u))
  pub lowest-is : (u w : ℕ) → Node n u → Joined n ups u w → lowest (group_of n ups u) ≤ w
  pub heads : (u w : ℕ) → Node n u → Joined n ups u w → member (heads_of n ups) w ≡ true → w ≡ lowest (group_of n ups u)
  pub head-nodes : (w : ℕ) → member (heads_of n ups) w ≡ true → Node n w
  pub headed : (u : ℕ) → Node n u → member (heads_of n ups) (lowest (group_of n ups u)) ≡ true

-- ---- the proof

pub positive : (s w : ℕ) → member s w ≡ true → 0 < s
positive zero w m = clash m (none-in-zero w)
positive (suc s) w m = omega arith

module _ (n : ℕ) (ups : ℕ → ℕ → Bool) where
  same-group : (u w : ℕ) → Node n u → Joined n ups u w → group_of n ups u ≡ group_of n ups w
  same-group u w a j =
      let b : Node n w = joined-node n ups u w a j in
      same-members n (group_of n ups u) (group_of n ups w) (group-lt n ups u) (group-lt n ups w) (λ k l h.
      iff (member (group_of n ups u) k) (member (group_of n ups w) k)
      (λ e. joined-complete n ups w b k (joined-trans n ups (joined-sym n ups j) (joined-sound n ups u k e)))
      (λ e. joined-complete n ups u a k (joined-trans n ups j (joined-sound n ups w k e))))

  heads-at : (h : ℕ) → Node n h → member (heads_of n ups) h ≡ is_head n ups h
  unfolding heads_of
  heads-at h a = member-set_of n (is_head n ups) h a.low a.high

  heads-within : (w : ℕ) → member (heads_of n ups) w ≡ true → Node n w
  unfolding heads_of
  heads-within w m = member-node n (set_of n (is_head n ups)) (set_of-lt n (is_head n ups)) w m

  head-true : (u : ℕ) → lowest (group_of n ups u) ≡ u → is_head n ups u ≡ true
  unfolding is_head
  head-true u e = eq-eqb (lowest (group_of n ups u)) u e

  true-head : (u : ℕ) → is_head n ups u ≡ true → lowest (group_of n ups u) ≡ u
  unfolding is_head
  true-head u e = eqb-true (lowest (group_of n ups u)) u e

  module _ (few : n ≤ 16) where
    lowest-node : (u : ℕ) → Node n u → LowestNode n (group_of n ups u) (lowest (group_of n ups u))
    lowest-node u a =
        lowest-in n (group_of n ups u) (positive (group_of n ups u) u (joined-complete n ups u a u alone)) (group-lt n ups u) few

    head_in : (u : ℕ) → Node n u → Joined n ups u (lowest (group_of n ups u))
    head_in u a = joined-sound n ups u (lowest (group_of n ups u)) (lowest-node u a).is_member

    head-least : (u w : ℕ) → Node n u → Joined n ups u w → lowest (group_of n ups u) ≤ w
    head-least u w a j = go (choice (leb (lowest (group_of n ups u)) w))
      where
        go : Choice (leb (lowest (group_of n ups u)) w) → lowest (group_of n ups u) ≤ w
        go (yes! e) = leb-true (lowest (group_of n ups u)) w e
        go (no! e) =
            clash (joined-complete n ups u a w j)
            ((lowest-node u a).none_below w (leb-false (lowest (group_of n ups u)) w e))

    head-is : (u : ℕ) → Node n u → is_head n ups (lowest (group_of n ups u)) ≡ true
    head-is u a =
        let k = lowest (group_of n ups u) in
        head-true k (sym (ap lowest (same-group u k a (head_in u a))))

    pub parted : Parted n ups
    parted = record {
      sound = λ u w a e. joined-sound n ups u w e;
      complete = λ u w a j. joined-complete n ups u a w j;
      nodes = λ u w a e. joined-node n ups u w a (joined-sound n ups u w e);
      same = same-group;
      head = head_in;
      lowest-is = head-least;
      heads = λ u w a j m.
          sym (true-head w (sym (heads-at w (joined-node n ups u w a j)) ∙ m)) ∙ sym (ap lowest (same-group u w a j));
      head-nodes = heads-within;
      headed = λ u a.
          let k = lowest (group_of n ups u) in
          heads-at k (joined-node n ups u k a (head_in u a)) ∙ head-is u a;
    }
