-- Collectors: the set said of u's group, and that `the_one` of it is the node w exactly when w is the only collector of the group.
-- Assumes at most 16 nodes.
use Prim.Native.Nat.{ℕ, zero, suc, ◌^◌, ◌<◌, ◌≤◌}
use native.Mathlib.Omega.{arith}
use mathlib.Core.Bool.{Bool, true, false, not, cond, and-false}
use mathlib.Core.Logic.{inl, inr}
use mathlib.Core.Path.{◌≡◌, refl, sym, ap, subst, ◌∙◌}
use lib.Count.{ones}
use lib.Dec.{eqb}
use borrow.Author.Tests.{eq-eqb, eqb-true}
use Rattle.basics.proofs.Tests.{clash, not-true-is-false, Choice, yes!, no!, choice, SameOrNot, equal?, and_left, and_right, and_both}
use Rattle.nodeset.specs.NodeSet.{member, set_of, same_node, lowest}
use Rattle.nodeset.specs.inner.Operations.{size_of, in_but_not}
use Rattle.protocol.specs.Network.{Node}
use Rattle.calls.specs.Component.{Joined, Leader}
use Rattle.groups.specs.Groups.{group_of, collects, collectors_in, the_one}
use Rattle.height.specs.declared.Height.{Height}
use Rattle.nodeset.proofs.Members.{is_same, same-is, not_same, member-set_of, set_of-ext, set_of-lt, ones-set_of, one_more}
use Rattle.nodeset.proofs.Walk.{LowestNode, lowest-in}
use Rattle.calls.proofs.CountLaws.{size_of-lt}
use Rattle.tables.proofs.TablesLaws.{member-node}
use Rattle.groups.proofs.ClosureLaws.{joined-node, joined-sound, joined-complete}
use Rattle.groups.proofs.Partition.{positive}

-- ---- the statements

-- w is the only collector of u's group
pub record OneCollector (n : ℕ) (ups : ℕ → ℕ → Bool) (own : ℕ → Height) (u w : ℕ) : Type 0 where
  pub member : Joined n ups u w
  pub leads : Leader own w
  pub only : (x : ℕ) → Joined n ups u x → Leader own x → x ≡ w

-- the collectors said are those of u's group, no more and no less; of a node u the station said, where it is one, is the only collector
pub record Named (n : ℕ) (ups : ℕ → ℕ → Bool) (own : ℕ → Height) (u : ℕ) : Type 0 where
  pub each : (w : ℕ) → member (collectors_in n own (group_of n ups u)) w ≡ true → Joined n ups u w × Leader own w
  pub all : (w : ℕ) → Joined n ups u w → Leader own w → member (collectors_in n own (group_of n ups u)) w ≡ true
  pub there : (w : ℕ) → OneCollector n ups own u w → the_one (collectors_in n own (group_of n ups u)) ≡ w
  pub back : (w : ℕ) → the_one (collectors_in n own (group_of n ups u)) ≡ w → 1 ≤ w → OneCollector n ups own u w

-- ---- sets of one node

size-zero : (n : ℕ) → size_of n (λ k. false) ≡ 0
unfolding size_of
size-zero zero = refl
size-zero (suc n) = let ih = size-zero n in omega arith

size_same : (n k : ℕ) → Node n k → size_of n (same_node k) ≡ 1
size_same n zero a = absurd (omega (arith, a.low))
size_same n (suc k) a =
    let e = one_more n k (λ j. false) (same_node (suc k)) a.high refl (is_same (suc k) (suc k) refl) (λ j d. not_same (suc k) j d) in
    omega (arith, e.1, size-zero n)

-- a test that k alone passes
only_one : (n k : ℕ) (f : ℕ → Bool) → f k ≡ true → ((j : ℕ) → Node n j → f j ≡ true → j ≡ k) → (j : ℕ) → Node n j → f j ≡ same_node k j
only_one n k f h only j a = go (equal? j k)
  where
    go : SameOrNot j k → f j ≡ same_node k j
    go (inl e) = ap f e ∙ h ∙ sym (ap (same_node k) e ∙ is_same k k refl)
    go (inr d) = not-true-is-false (f j) (λ t. d (only j a t)) ∙ sym (not_same k j d)

lowest-same : (n k : ℕ) → n ≤ 16 → Node n k → lowest (set_of n (same_node k)) ≡ k
lowest-same n k few a =
    let m : member (set_of n (same_node k)) k ≡ true = member-set_of n (same_node k) k a.low a.high ∙ is_same k k refl in
    let l = lowest-in n (set_of n (same_node k)) (positive (set_of n (same_node k)) k m) (set_of-lt n (same_node k)) few in
    same-is k (lowest (set_of n (same_node k)))
    (sym (member-set_of n (same_node k) (lowest (set_of n (same_node k))) l.from_one l.at_most) ∙ l.is_member)

one-is : (s : ℕ) → ones s ≡ 1 → the_one s ≡ lowest s
unfolding the_one
one-is s e = ap (λ (k : ℕ). cond (eqb k 1) (lowest s) 0) e

is_one : (s : ℕ) → 1 ≤ the_one s → ones s ≡ 1
unfolding the_one
is_one s h = go (choice (eqb (ones s) 1)) h
  where
    go : Choice (eqb (ones s) 1) → 1 ≤ cond (eqb (ones s) 1) (lowest s) 0 → ones s ≡ 1
    go (yes! q) l = eqb-true (ones s) 1 q
    go (no! q) l = let z : 1 ≤ 0 = rw q at l in absurd (omega arith)

-- a test that one node of 1 to n passes is passed by no second
but-inner : (f : ℕ → Bool) (a x : ℕ) → in_but_not f (same_node a) x ≡ true → f x ≡ true
unfolding in_but_not
but-inner f a x e = and_left (f x) (not (same_node a x)) e

but-self : (f : ℕ → Bool) (a : ℕ) → in_but_not f (same_node a) a ≡ false
unfolding in_but_not
but-self f a = rw (is_same a a refl) (and-false (f a))

but-other : (f : ℕ → Bool) (a b : ℕ) → (a ≡ b → ⊥) → f b ≡ true → in_but_not f (same_node a) b ≡ true
unfolding in_but_not
but-other f a b d e = rw (e, not-true-is-false (same_node a b) (λ q. d (sym (same-is a b q))))

single-pass : (n a b : ℕ) (f : ℕ → Bool) → size_of n f ≡ 1 → Node n a → f a ≡ true → Node n b → f b ≡ true → a ≡ b
single-pass n a b f e x p y q = go (equal? a b)
  where
    go : SameOrNot a b → a ≡ b
    go (inl s) = s
    go (inr d) =
        let less = size_of-lt n (in_but_not f (same_node a)) f (but-inner f a) a x (but-self f a) p in
        let some = size_of-lt n (λ j. false) (in_but_not f (same_node a)) (λ j h. clash h refl) b y refl (but-other f a b d q) in
        absurd (omega arith)

ones_none : ones 0 ≡ 0
unfolding ones
ones_none = refl

ones-positive : (s : ℕ) → ones s ≡ 1 → 0 < s
ones-positive zero e = absurd (omega (arith, ones_none))
ones-positive (suc s) e = omega arith

-- ---- the collectors of a group

module _ (n : ℕ) (ups : ℕ → ℕ → Bool) (own : ℕ → Height) (u : ℕ) where
  collector-why : (w : ℕ) → collects own (group_of n ups u) w ≡ true → Joined n ups u w × Leader own w
  unfolding collects
  collector-why w e = (
    joined-sound n ups u w (and_left (member (group_of n ups u) w) (eqb (own w).pair.lid w) e),
    eqb-true (own w).pair.lid w (and_right (member (group_of n ups u) w) (eqb (own w).pair.lid w) e),
  )

  set_is : collectors_in n own (group_of n ups u) ≡ set_of n (collects own (group_of n ups u))
  unfolding collectors_in
  set_is = refl

  counted : ones (collectors_in n own (group_of n ups u)) ≡ size_of n (collects own (group_of n ups u))
  counted = ap ones set_is ∙ ones-set_of n (collects own (group_of n ups u))

  module _ (a : Node n u) where
    collector-when : (w : ℕ) → Joined n ups u w → Leader own w → collects own (group_of n ups u) w ≡ true
    unfolding collects
    collector-when w j l = and_both (joined-complete n ups u a w j) (eq-eqb (own w).pair.lid w l)

    alone-set : (w : ℕ) → OneCollector n ups own u w → collectors_in n own (group_of n ups u) ≡ set_of n (same_node w)
    alone-set w o =
        set_is ∙ set_of-ext n _ _ (λ k l h. only_one n w (collects own (group_of n ups u)) (collector-when w o.member o.leads)
        (λ j b e. let y = collector-why j e in o.only j y.0 y.1) k (record { low = l; high = h }))

    one-counted : (w : ℕ) → OneCollector n ups own u w → ones (collectors_in n own (group_of n ups u)) ≡ 1
    one-counted w o =
        ap ones (alone-set w o) ∙ ones-set_of n (same_node w) ∙ size_same n w (joined-node n ups u w a o.member)

    names : n ≤ 16 → (w : ℕ) → OneCollector n ups own u w → the_one (collectors_in n own (group_of n ups u)) ≡ w
    names few w o =
        one-is (collectors_in n own (group_of n ups u)) (one-counted w o) ∙ ap lowest (alone-set w o)
        ∙ lowest-same n w few (joined-node n ups u w a o.member)

    is-named : n ≤ 16 → (w : ℕ) → the_one (collectors_in n own (group_of n ups u)) ≡ w → 1 ≤ w → OneCollector n ups own u w
    is-named few w e h =
        let one : ones (collectors_in n own (group_of n ups u)) ≡ 1 = is_one (collectors_in n own (group_of n ups u)) (omega arith) in
        let here : lowest (collectors_in n own (group_of n ups u)) ≡ w = sym (one-is (collectors_in n own (group_of n ups u)) one) ∙ e in
        let lt : collectors_in n own (group_of n ups u) < 2 ^ n = subst (λ x. x < 2 ^ n) (sym set_is) (set_of-lt n (collects own (group_of n ups u))) in
        let low = subst (LowestNode n (collectors_in n own (group_of n ups u))) here
        (lowest-in n (collectors_in n own (group_of n ups u)) (ones-positive (collectors_in n own (group_of n ups u)) one) lt few) in
        let b : Node n w = record { low = low.from_one; high = low.at_most } in
        let pass : collects own (group_of n ups u) w ≡ true =
        sym (member-set_of n (collects own (group_of n ups u)) w b.low b.high) ∙ ap (λ (s : ℕ). member s w) (sym set_is) ∙ low.is_member in
        let y = collector-why w pass in
        record {
          member = y.0;
          leads = y.1;
          only = λ x j l.
              single-pass n x w (collects own (group_of n ups u)) (sym counted ∙ one) (joined-node n ups u x a j) (collector-when x j l) b pass;
        }

    each-is : (w : ℕ) → member (collectors_in n own (group_of n ups u)) w ≡ true → Joined n ups u w × Leader own w
    unfolding collectors_in
    each-is w m =
        let b = member-node n (set_of n (collects own (group_of n ups u))) (set_of-lt n (collects own (group_of n ups u))) w m in
        collector-why w (sym (member-set_of n (collects own (group_of n ups u)) w b.low b.high) ∙ m)

    all_are : (w : ℕ) → Joined n ups u w → Leader own w → member (collectors_in n own (group_of n ups u)) w ≡ true
    unfolding collectors_in
    all_are w j l =
        let b = joined-node n ups u w a j in
        member-set_of n (collects own (group_of n ups u)) w b.low b.high ∙ collector-when w j l

    pub collector-named : n ≤ 16 → Named n ups own u
    collector-named few = record { each = each-is; all = all_are; there = names few; back = is-named few }
