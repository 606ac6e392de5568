-- What holds at the heads of the loops: a set gathered node by node, a test of every node, rounds.
use Prim.Native.Nat.{ℕ, zero, suc, ◌+◌, ◌-◌, ◌<◌, ◌≤◌}
use native.Mathlib.Omega.{arith}
use mathlib.Core.Bool.{Bool, true, false, cond, ◌&&◌, ◌||◌, or-true, or-false, and-false}
use mathlib.Core.Logic.{inl, inr}
use mathlib.Core.Path.{◌≡◌, refl, sym, ap, ap₂, ◌∙◌}
use lib.Dec.{eqb, leb, ltb}
use borrow.Author.Tests.{lt-ltb, le-ltb, ltb-true, ltb-false, leb-true, leb-false, eq-eqb, ne_eqb}
use Rattle.basics.proofs.Tests.{clash, not-true-is-false, Choice, yes!, no!, choice, SameOrNot, equal?}
use Rattle.nodeset.specs.NodeSet.{member, set_of, same_node, apart}
use Rattle.nodeset.specs.inner.Operations.{in_either}
use Rattle.groups.specs.inner.Words.{add_if}
use Rattle.groups.specs.Groups.{one_round, rounds, group_by}
use Rattle.nodeset.proofs.Members.{not_same, member-set_of, set_of-ext, set_of-more, set_of-none, set_of-lt, none_above, apart-at, at-apart}
use Rattle.basics.specs.Functions.{every}

-- ---- a set gathered from 1 on

unfoldable pub before : ℕ → (ℕ → Bool) → ℕ → Bool
before v f k = ltb k v && f k

-- with node v next: the nodes below v that pass
pub record Gathered (f : ℕ → Bool) (v s : ℕ) : Type 0 where
  pub so_far : s ≡ set_of 16 (before v f)

module _ (f : ℕ → Bool) where
  below_one : (k : ℕ) → 1 ≤ k → before 1 f k ≡ false
  unfolding before
  below_one k l = rw (le-ltb k 1 l)

  pub gather-start : Gathered f 1 0
  gather-start = record { so_far = sym (set_of-none 16 (before 1 f) (λ k l h. below_one k l)) }

  before-next : (v k : ℕ) → (k ≡ v → ⊥) → before (v + 1) f k ≡ before v f k
  unfolding before
  before-next v k d = go (choice (ltb k v))
    where
      go : Choice (ltb k v) → (ltb k (v + 1) && f k) ≡ (ltb k v && f k)
      go (yes! e) = let l = ltb-true k v e in rw (e, lt-ltb k (v + 1) (omega arith))
      go (no! e) = let l = ltb-false k v e in rw (e, le-ltb k (v + 1) (omega arith))

  before_here : (v : ℕ) → before (v + 1) f v ≡ f v
  unfolding before
  before_here v = rw (lt-ltb v (v + 1) (omega arith))

  before-not : (v : ℕ) → before v f v ≡ false
  unfolding before
  before-not v = rw (le-ltb v v (omega arith))

  with-here : (s v k : ℕ) → s ≡ set_of 16 (before v f) → f v ≡ true → 1 ≤ k → k ≤ 16
      → in_either (member s) (same_node v) k ≡ before (v + 1) f k
  unfolding in_either same_node
  with-here s v k e t l h = go (equal? k v)
    where
      at : member s k ≡ before v f k
      at = ap (λ (x : ℕ). member x k) e ∙ member-set_of 16 (before v f) k l h

      go : SameOrNot k v → (member s k || eqb k v) ≡ before (v + 1) f k
      go (inl q) = rw (eq-eqb k v q) (or-true (member s k) ∙ sym (ap (before (v + 1) f) q ∙ before_here v ∙ t))
      go (inr d) = rw (ne_eqb k v d) (or-false (member s k) ∙ at ∙ sym (before-next v k d))

  without-here : (v k : ℕ) → f v ≡ false → before v f k ≡ before (v + 1) f k
  without-here v k e = go (equal? k v)
    where
      go : SameOrNot k v → before v f k ≡ before (v + 1) f k
      go (inl q) = ap (before v f) q ∙ before-not v ∙ sym (ap (before (v + 1) f) q ∙ before_here v ∙ e)
      go (inr d) = sym (before-next v k d)

  pub gather-next : (v s : ℕ) (b : Bool) → Gathered f v s → b ≡ f v → Gathered f (v + 1) (add_if s v b)
  unfolding add_if
  gather-next v s b g e = record { so_far = go (choice b) }
    where
      go : Choice b → cond b (set_of 16 (in_either (member s) (same_node v))) s ≡ set_of 16 (before (v + 1) f)
      go (yes! q) =
          ap (λ (x : Bool). cond x (set_of 16 (in_either (member s) (same_node v))) s) q
          ∙ set_of-ext 16 _ _ (λ k l u. with-here s v k g.so_far (sym e ∙ q) l u)
      go (no! q) =
          ap (λ (x : Bool). cond x (set_of 16 (in_either (member s) (same_node v))) s) q
          ∙ g.so_far ∙ set_of-ext 16 _ _ (λ k l u. without-here v k (sym e ∙ q))

  past_all : (v k : ℕ) → k < v → before v f k ≡ f k
  unfolding before
  past_all v k l = rw (lt-ltb k v l)

  past-none : (v k : ℕ) → v ≤ k → before v f k ≡ false
  unfolding before
  past-none v k l = rw (le-ltb k v l)

  pub gather-done : (n v s : ℕ) → Gathered f v s → v ≡ n + 1 → n ≤ 16 → s ≡ set_of n f
  gather-done n v s g e few =
      g.so_far ∙ set_of-more n 16 (before v f) few (λ k h. past-none v k (omega arith))
      ∙ set_of-ext n _ _ (λ k p q. past_all v k (omega arith))

-- ---- a test of every node

-- with node v next
pub record Tested (f : ℕ → Bool) (v : ℕ) (ok : Bool) : Type 0 where
  pub so_far : ok ≡ every (v - 1) f

module _ (f : ℕ → Bool) where
  pub tested-start : Tested f 1 true
  unfolding every
  tested-start = record { so_far = refl }

  pub tested-next : (v : ℕ) (ok b : Bool) → Tested f v ok → 1 ≤ v → b ≡ f v → Tested f (v + 1) (b && ok)
  unfolding every
  tested-next v ok b g low e =
      let q : v + 1 - 1 ≡ suc (v - 1) = omega arith in
      let p : suc (v - 1) ≡ v = omega arith in
      record { so_far = ap₂ ◌&&◌ (e ∙ ap f (sym p)) g.so_far ∙ sym (ap (λ (k : ℕ). every k f) q) }

  pub tested-done : (n v : ℕ) (ok : Bool) → Tested f v ok → v ≡ n + 1 → ok ≡ every n f
  tested-done n v ok g e =
      let q : v - 1 ≡ n = omega arith in
      g.so_far ∙ ap (λ (k : ℕ). every k f) q

-- ---- rounds

-- after k rounds
pub record Rounds (n : ℕ) (links : ℕ → ℕ → Bool) (u k s : ℕ) : Type 0 where
  pub rest : rounds (n - k) n links s ≡ group_by n links u

module _ (n : ℕ) (links : ℕ → ℕ → Bool) (u : ℕ) where
  pub rounds-start : (s : ℕ) → u ≤ n → n ≤ 16 → s ≡ set_of 16 (same_node u) → Rounds n links u 0 s
  unfolding group_by
  rounds-start s h few e =
      let q : n - 0 ≡ n = omega arith in
      record {
        rest =
            ap (λ (j : ℕ). rounds j n links s) q
            ∙ ap (rounds n n links) (e ∙ set_of-more n 16 (same_node u) few (λ k l. not_same u k (λ q. omega arith)));
      }

  pub rounds-next : (k s r : ℕ) → Rounds n links u k s → k < n → r ≡ one_round n links s → Rounds n links u (k + 1) r
  unfolding rounds
  rounds-next k s r g l e =
      let q : n - k ≡ suc (n - (k + 1)) = omega arith in
      record { rest = ap (rounds (n - (k + 1)) n links) e ∙ sym (ap (λ (j : ℕ). rounds j n links s) q) ∙ g.rest }

  fixed : (k s : ℕ) → one_round n links s ≡ s → rounds k n links s ≡ s
  unfolding rounds
  fixed zero s q = refl
  fixed (suc k) s q = ap (rounds k n links) q ∙ fixed k s q

  pub rounds-stop : (k s r : ℕ) → Rounds n links u k s → r ≡ one_round n links s → r ≡ s → s ≡ group_by n links u
  rounds-stop k s r g e q = sym (fixed (n - k) s (sym e ∙ q)) ∙ g.rest

  pub rounds-done : (k s : ℕ) → Rounds n links u k s → n ≤ k → s ≡ group_by n links u
  unfolding rounds
  rounds-done k s g l =
      let q : n - k ≡ 0 = omega arith in
      sym (ap (λ (j : ℕ). rounds j n links s) q) ∙ g.rest

-- ---- two sets that share no node

pub apart_words : (n s : ℕ) (f : ℕ → Bool) → n ≤ 16 → apart 16 (member s) (member (set_of n f)) ≡ apart n (member s) f
apart_words n s f few = go (choice (apart n (member s) f))
  where
    go : Choice (apart n (member s) f) → apart 16 (member s) (member (set_of n f)) ≡ apart n (member s) f
    go (yes! e) = at-apart 16 (member s) (member (set_of n f)) each ∙ sym e
      where
        in-range : (k : ℕ) → Choice (leb k n) → 1 ≤ k → (member s k && member (set_of n f) k) ≡ false
        in-range k (yes! l) p =
            let h = leb-true k n l in
            ap (λ (b : Bool). member s k && b) (member-set_of n f k p h) ∙ apart-at n (member s) f e k p h
        in-range k (no! l) p =
            ap (λ (b : Bool). member s k && b) (none_above n (set_of n f) k (set_of-lt n f) (leb-false k n l)) ∙ and-false (member s k)

        each : (k : ℕ) → 1 ≤ k → k ≤ 16 → (member s k && member (set_of n f) k) ≡ false
        each k p h = in-range k (choice (leb k n)) p
    go (no! e) = not-true-is-false (apart 16 (member s) (member (set_of n f))) (λ t. clash (small t) e) ∙ sym e
      where
        small : apart 16 (member s) (member (set_of n f)) ≡ true → apart n (member s) f ≡ true
        small t =
            at-apart n (member s) f (λ k p h. ap (λ (b : Bool). member s k && b) (sym (member-set_of n f k p h))
            ∙ apart-at 16 (member s) (member (set_of n f)) t k p (omega arith))
