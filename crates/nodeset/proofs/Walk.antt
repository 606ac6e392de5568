-- For a loop that takes the lowest node of a set and removes it: which node is the lowest, and that the set gets smaller each time.
use Prim.Native.Nat.{ℕ, zero, suc, ◌+◌, ◌/◌, ◌%◌, ◌^◌, ◌≤◌, ◌<◌}
use native.Mathlib.Omega.{arith}
use mathlib.Core.Bool.{Bool, true, false, cond, and-true, and-false}
use mathlib.Core.Path.{◌≡◌, refl, sym, ◌∙◌}
use lib.Count.{count_trailing_zeros, under}
use lib.Dec.{eqb}
use lib.Pow.{pow_mono, pow_pos}
use borrow.Author.Tests.{eqb-false, eq-eqb, ne_eqb}
use Rattle.nodeset.specs.NodeSet.{member, set_of, same_node, least_from, lowest}
use Rattle.nodeset.specs.inner.Operations.{size_of, in_but_not}
use Rattle.nodeset.proofs.Members.{member-zero, member-one, member-half, member-range, member-set_of-all, none_above, set_of-member, one_more}

-- ---- the lowest node

least-higher : (k v : ℕ) (f g : ℕ → Bool) → 1 ≤ v → ((j : ℕ) → 1 ≤ j → f (suc j) ≡ g j) → least_from k (suc v) f ≡ suc (least_from k v g)
unfolding least_from
least-higher zero v f g l h = refl
least-higher (suc k) v f g l h = rw (h v l, least-higher k (suc v) f g (omega arith) h) (go (g v))
  where
    go : (b : Bool) → cond b (suc v) (suc (least_from k (suc v) g)) ≡ suc (cond b v (least_from k (suc v) g))
    go true = refl
    go false = refl

-- of the half
least-half : (k s : ℕ) → least_from (suc k) 1 (member s) ≡ cond (eqb (s % 2) 1) 1 (suc (least_from k 1 (member (s / 2))))
unfolding least_from
least-half k s = rw (member-one s, least-higher k 1 (member s) (member (s / 2)) (omega arith) (member-half s))

-- as the code finds it
trailing-least : (k s : ℕ) → count_trailing_zeros k s + 1 ≡ least_from k 1 (member s)
unfolding count_trailing_zeros least_from
trailing-least zero s = refl
trailing-least (suc k) s = go (s % 2) (omega arith) (trailing-least k (s / 2)) ∙ sym (least-half k s)
  where
    go : (d : ℕ) → d < 2 → count_trailing_zeros k (s / 2) + 1 ≡ least_from k 1 (member (s / 2))
        → under d (count_trailing_zeros k (s / 2)) + 1 ≡ cond (eqb d 1) 1 (suc (least_from k 1 (member (s / 2))))
    go zero l e = omega arith
    go (suc zero) l e = refl
    go (suc (suc d)) l e = absurd (omega arith)

lowest-is : (s : ℕ) → lowest s ≡ least_from 16 1 (member s)
unfolding lowest
lowest-is s = refl

pub trailing-lowest : (s : ℕ) → count_trailing_zeros 16 s + 1 ≡ lowest s
trailing-lowest s = trailing-least 16 s ∙ sym (lowest-is s)

-- v is the lowest node of s, a set of nodes 1 to n
pub record LowestNode (n s v : ℕ) : Type 0 where
  pub from_one : 1 ≤ v
  pub at_most : v ≤ n
  pub is_member : member s v ≡ true
  pub none_below : (j : ℕ) → j < v → member s j ≡ false

least-in : (k s : ℕ) → 0 < s → s < 2 ^ k → LowestNode k s (least_from k 1 (member s))
unfolding member
least-in zero s p h = absurd (omega arith)
least-in (suc k) s p h = rw (least-half k s) (go (eqb (s % 2) 1) refl (λ q. least-in k (s / 2) q (omega arith)))
  where
    zeroth : (j : ℕ) → j < 1 → member s j ≡ false
    zeroth zero l = refl
    zeroth (suc j) l = absurd (omega arith)

    below : (v : ℕ) → member s 1 ≡ false → ((j : ℕ) → j < v → member (s / 2) j ≡ false) → (j : ℕ) → j < suc v → member s j ≡ false
    below v m h zero l = refl
    below v m h (suc zero) l = m
    below v m h (suc (suc j)) l = member-half s (suc j) (omega arith) ∙ h (suc j) (omega arith)

    go : (b : Bool) → eqb (s % 2) 1 ≡ b → (0 < s / 2 → LowestNode k (s / 2) (least_from k 1 (member (s / 2))))
        → LowestNode (suc k) s (cond b 1 (suc (least_from k 1 (member (s / 2)))))
    go true e rest =
        record { from_one = omega arith; at_most = omega arith; is_member = member-one s ∙ e; none_below = zeroth }
    go false e rest =
        let ne = eqb-false (s % 2) 1 e in
        let ih = rest (omega arith) in
        record {
          from_one = omega arith;
          at_most = omega (arith, ih.at_most);
          is_member = member-half s (least_from k 1 (member (s / 2))) ih.from_one ∙ ih.is_member;
          none_below = below _ (member-one s ∙ e) ih.none_below;
        }

pub lowest-in : (n s : ℕ) → 0 < s → s < 2 ^ n → n ≤ 16 → LowestNode n s (lowest s)
lowest-in n s p h l =
    let o = least-in 16 s p (omega (arith, pow_mono l)) in
    rw (lowest-is s) (record {
      from_one = o.from_one;
      at_most = (member-range n s (least_from 16 1 (member s)) h o.is_member).1;
      is_member = o.is_member;
      none_below = o.none_below;
    })

-- ---- without one node

but_not-same : (f : ℕ → Bool) (k : ℕ) → in_but_not f (same_node k) k ≡ false
unfolding in_but_not same_node
but_not-same f k = rw (eq-eqb k k refl) (and-false (f k))

but_not-other : (f : ℕ → Bool) (k j : ℕ) → (j ≡ k → ⊥) → in_but_not f (same_node k) j ≡ f j
unfolding in_but_not same_node
but_not-other f k j ne = rw (ne_eqb j k ne) (and-true (f j))

but_not-none : (f : ℕ → Bool) (k j : ℕ) → f j ≡ false → in_but_not f (same_node k) j ≡ false
unfolding in_but_not
but_not-none f k j e = rw e

pub member-without : (s k : ℕ) → s < 2 ^ 16 → (j : ℕ)
    → member (set_of 16 (in_but_not (member s) (same_node k))) j ≡ in_but_not (member s) (same_node k) j
member-without s k h =
    member-set_of-all 16 _ (but_not-none (member s) k 0 (member-zero s))
    (λ j l. but_not-none (member s) k j (none_above 16 s j h l))

-- one member less, and a smaller number
smaller : (s k : ℕ) → member s k ≡ true → s < 2 ^ 16
    → (size_of 16 (in_but_not (member s) (same_node k)) + 1 ≡ size_of 16 (member s)) × (set_of 16 (in_but_not (member s) (same_node k)) < s)
smaller s zero m h = absurd (omega (arith, (member-range 16 s 0 h m).0))
smaller s (suc k) m h =
    let r = member-range 16 s (suc k) h m in
    let e =
    one_more 16 k (in_but_not (member s) (same_node (suc k))) (member s) (omega arith) (but_not-same (member s) (suc k)) m
    (λ j ne. sym (but_not-other (member s) (suc k) j ne)) in
    (sym e.1, omega (arith, e.0, set_of-member 16 s h, pow_pos k))

pub without-less : (s k : ℕ) → member s k ≡ true → s < 2 ^ 16 → set_of 16 (in_but_not (member s) (same_node k)) < s
without-less s k m h = (smaller s k m h).1
