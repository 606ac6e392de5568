-- Sets as words and as tests: a node joins or leaves, and the set that a rule sends to.
-- Assumes that the sets are within n, n at most 16.
use Prim.Native.Nat.{ℕ, ◌^◌, ◌<◌, ◌≤◌}
use native.Mathlib.Omega.{arith}
use mathlib.Core.Bool.{Bool, true, false, not, ◌&&◌, ◌||◌, or-true, and-true, and-false, or-false}
use mathlib.Core.Logic.{◌⊎◌, inl, inr}
use mathlib.Core.Path.{◌≡◌, refl, ◌∙◌, fun_ext}
use lib.Dec.{eqb}
use borrow.Author.Tests.{eq-eqb, ne_eqb, eqb-true}
use Rattle.basics.specs.Functions.{update}
use Rattle.basics.proofs.FunctionsLaws.{update-at, update-off}
use Rattle.basics.proofs.Tests.{not-true-is-false, equal?, and_left}
use Rattle.decision.specs.inner.After.{sends_to}
use Rattle.nodeset.specs.NodeSet.{member, set_of, same_node}
use Rattle.nodeset.specs.inner.Operations.{in_either, in_but_not}
use Rattle.nodeset.proofs.Members.{member-set_of-all, set_of-within, set_of-more}
use Rattle.protocol.specs.Network.{Node}
use Rattle.protocol.specs.declared.Rule.{Rule}
use Rattle.protocol.proofs.Soundness.{sends-in, either}
pub use Rattle.tables.proofs.TablesLaws.{member-node}

-- a set with v, and without v, as the code makes them
abbrev pub joined : ℕ → ℕ → ℕ
joined s v = set_of 16 (in_either (member s) (same_node v))

abbrev pub without : ℕ → ℕ → ℕ
without s v = set_of 16 (in_but_not (member s) (same_node v))

-- a set of nodes 1 to n, read at any number
module _ (n : ℕ) (few : n ≤ 16) (f : ℕ → Bool) (only : (k : ℕ) → f k ≡ true → Node n k) where
  none_at_zero : f 0 ≡ false
  none_at_zero = not-true-is-false (f 0) (λ e. absurd (omega (arith, (only 0 e).low)))

  none-past : (k : ℕ) → n < k → f k ≡ false
  none-past k l = not-true-is-false (f k) (λ e. absurd (omega (arith, (only k e).high)))

  pub members-are : member (set_of 16 f) ≡ f
  members-are = fun_ext (member-set_of-all 16 f none_at_zero (λ j l. none-past j (omega arith)))

  pub set-lt : set_of 16 f < 2 ^ n
  set-lt = set_of-within n 16 f none-past

  pub set-is-n : set_of 16 f ≡ set_of n f
  set-is-n = set_of-more n 16 f few none-past

module _ (n : ℕ) (few : n ≤ 16) (s : ℕ) (h : s < 2 ^ n) (v : ℕ) (b : Node n v) where
  -- v joins
  joined_is : in_either (member s) (same_node v) ≡ update (member s) v true
  unfolding in_either same_node
  joined_is = fun_ext λ k. go k (equal? k v)
    where
      go : (k : ℕ) → (k ≡ v) ⊎ (k ≡ v → ⊥) → (member s k || eqb k v) ≡ update (member s) v true k
      go k (inl e) = rw (e, update-at (member s) v true, eq-eqb v v refl) (or-true (member s v))
      go k (inr d) = rw (update-off (member s) v true k d, ne_eqb k v d) (or-false (member s k))

  joined-node : (k : ℕ) → in_either (member s) (same_node v) k ≡ true → Node n k
  unfolding in_either same_node
  joined-node k e = either (member s k) (eqb k v) e (member-node n s h k) (λ q. rw (eqb-true k v q) b)

  pub insert-members : member (joined s v) ≡ update (member s) v true
  insert-members = members-are n few (in_either (member s) (same_node v)) joined-node ∙ joined_is

  pub insert-lt : joined s v < 2 ^ n
  insert-lt = set-lt n few (in_either (member s) (same_node v)) joined-node

  -- v leaves
  left_is : in_but_not (member s) (same_node v) ≡ update (member s) v false
  unfolding in_but_not same_node
  left_is = fun_ext λ k. go k (equal? k v)
    where
      go : (k : ℕ) → (k ≡ v) ⊎ (k ≡ v → ⊥) → (member s k && not (eqb k v)) ≡ update (member s) v false k
      go k (inl e) = rw (e, update-at (member s) v false, eq-eqb v v refl) (and-false (member s v))
      go k (inr d) = rw (update-off (member s) v false k d, ne_eqb k v d) (and-true (member s k))

  left-node : (k : ℕ) → in_but_not (member s) (same_node v) k ≡ true → Node n k
  unfolding in_but_not
  left-node k e = member-node n s h k (and_left (member s k) (not (same_node v k)) e)

  pub remove-members : member (without s v) ≡ update (member s) v false
  remove-members = members-are n few (in_but_not (member s) (same_node v)) left-node ∙ left_is

  pub remove-lt : without s v < 2 ^ n
  remove-lt = set-lt n few (in_but_not (member s) (same_node v)) left-node

-- the set that a rule sends to
module _ (n : ℕ) (few : n ≤ 16) (N F : ℕ) (h_n : N < 2 ^ n) (h_f : F < 2 ^ n) (v : ℕ) (b : Node n v) (rule : Rule) where
  pub sends-node : (k : ℕ) → sends_to v rule N F k ≡ true → Node n k
  unfolding sends_to
  sends-node k e = go (sends-in v rule k (member N k || member F k) e)
    where
      go : ((member N k || member F k) ≡ true) ⊎ (k ≡ v) → Node n k
      go (inl i) = either (member N k) (member F k) i (member-node n N h_n k) (member-node n F h_f k)
      go (inr q) = rw q b

  pub sent-members : member (set_of 16 (sends_to v rule N F)) ≡ sends_to v rule N F
  sent-members = members-are n few (sends_to v rule N F) sends-node

  pub sent-lt : set_of 16 (sends_to v rule N F) < 2 ^ n
  sent-lt = set-lt n few (sends_to v rule N F) sends-node

  pub sent-is-n : set_of 16 (sends_to v rule N F) ≡ set_of n (sends_to v rule N F)
  sent-is-n = set-is-n n few (sends_to v rule N F) sends-node
