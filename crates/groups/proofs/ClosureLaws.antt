-- The n rounds reach exactly what is joined: the members of a group of specs/Groups are those `Joined` (crate `calls`), between nodes 1 to n.
-- A round that changes nothing leaves a closed set; each other round adds a node, and there are only n.
use Prim.Native.Nat.{ℕ, zero, suc, ◌+◌, ◌^◌, ◌<◌, ◌≤◌}
use native.Mathlib.Omega.{arith}
use mathlib.Core.Bool.{Bool, true, false, not, ◌&&◌, ◌||◌}
use mathlib.Core.Logic.{◌⊎◌, inl, inr}
use mathlib.Core.Path.{◌≡◌, refl, sym, ap, subst, ◌∙◌}
use Rattle.basics.proofs.Tests.{iff, clash, not-true-is-false, Choice, yes!, no!, choice, SameOrNot, equal?, and_left, and_right, and_both}
use Rattle.nodeset.specs.NodeSet.{member, set_of, digit, same_node, apart}
use Rattle.nodeset.specs.inner.Operations.{size_of}
use Rattle.protocol.specs.Network.{Node}
use Rattle.calls.specs.Component.{Linked, Joined, alone, link}
use Rattle.basics.proofs.FunctionsLaws.{Found, every-at, every-not}
use Rattle.groups.specs.Groups.{linked, reached, one_round, rounds, group_by, group_of}
use Rattle.nodeset.proofs.Members.{is_same, same-is, member-set_of, set_of-lt, same-members, apart-at}
use Rattle.basics.specs.Functions.{every}
use Rattle.calls.proofs.CountLaws.{size_of-lt}
use Rattle.calls.proofs.Groups.{joined-trans}
use Rattle.tables.proofs.TablesLaws.{member-node}

-- ---- what is joined to a node of 1 to n is one

pub joined-node : (n : ℕ) (ups : ℕ → ℕ → Bool) (u w : ℕ) → Node n u → Joined n ups u w → Node n w
joined-node n ups u w a alone = a
joined-node n ups u w a (link {v = x} l j) = joined-node n ups x w l.two.other j

-- ---- two tests that share a node

record Shared (n : ℕ) (f g : ℕ → Bool) : Type 0 where
  at : ℕ
  node : Node n at
  here : f at ≡ true
  there : g at ≡ true

shared : (n : ℕ) (f g : ℕ → Bool) → apart n f g ≡ false → Shared n f g
unfolding apart
shared zero f g h = clash refl h
shared (suc n) f g h = go (λ (e : apart n f g ≡ false). shared n f g e) (choice (f (suc n) && g (suc n)))
  where
    go : (apart n f g ≡ false → Shared n f g) → Choice (f (suc n) && g (suc n)) → Shared (suc n) f g
    go ih (yes! e) = record {
      at = suc n;
      node = record { low = omega arith; high = omega arith };
      here = and_left (f (suc n)) (g (suc n)) e;
      there = and_right (f (suc n)) (g (suc n)) e;
    }
    go ih (no! e) =
        let s : Shared n f g = ih (rw e at h) in
        record { at = s.at; node = record { low = s.node.low; high = omega (arith, s.node.high) }; here = s.here; there = s.there }

-- ---- one round

either : (a b : Bool) → (a || not b) ≡ true → (a ≡ true) ⊎ (b ≡ false)
either true b e = inl refl
either false true e = clash e refl
either false false e = inr refl

left_in : (a b : Bool) → a ≡ true → (a || b) ≡ true
left_in a b e = rw e

right-in : (a b : Bool) → b ≡ false → (a || not b) ≡ true
right-in true b e = refl
right-in false b e = rw e

module _ (n : ℕ) (ups : ℕ → ℕ → Bool) where
  reached-in : (s w : ℕ) → member s w ≡ true → reached n (linked ups) s w ≡ true
  unfolding reached
  reached-in s w e = left_in (member s w) (not (apart n (member s) (linked ups w))) e

  reached-by : (s v w : ℕ) → Node n v → member s v ≡ true → linked ups w v ≡ true → reached n (linked ups) s w ≡ true
  unfolding reached
  reached-by s v w a m l =
      right-in (member s w) (apart n (member s) (linked ups w))
      (not-true-is-false (apart n (member s) (linked ups w))
      (λ e. clash (and_both m l) (apart-at n (member s) (linked ups w) e v a.low a.high)))

  reached-why : (s w : ℕ) → reached n (linked ups) s w ≡ true → (member s w ≡ true) ⊎ Shared n (member s) (linked ups w)
  unfolding reached
  reached-why s w e = go (either (member s w) (apart n (member s) (linked ups w)) e)
    where
      go : (member s w ≡ true) ⊎ (apart n (member s) (linked ups w) ≡ false) → (member s w ≡ true) ⊎ Shared n (member s) (linked ups w)
      go (inl m) = inl m
      go (inr d) = inr (shared n (member s) (linked ups w) d)

  pub round-lt : (s : ℕ) → one_round n (linked ups) s < 2 ^ n
  unfolding one_round
  round-lt s = set_of-lt n (reached n (linked ups) s)

  round-at : (s w : ℕ) → Node n w → member (one_round n (linked ups) s) w ≡ reached n (linked ups) s w
  unfolding one_round
  round-at s w a = member-set_of n (reached n (linked ups) s) w a.low a.high

  round_keeps : (s w : ℕ) → s < 2 ^ n → member s w ≡ true → member (one_round n (linked ups) s) w ≡ true
  round_keeps s w h e = round-at s w (member-node n s h w e) ∙ reached-in s w e

  -- ---- what is reached is joined

  linked-joined : (v w : ℕ) → Node n v → Node n w → linked ups w v ≡ true → Joined n ups v w
  unfolding linked
  linked-joined v w a b e = go (equal? v w)
    where
      go : SameOrNot v w → Joined n ups v w
      go (inl q) = subst (λ x. Joined n ups v x) q alone
      go (inr d) =
          link (record {
            two = record { one = a; other = b; differ = d };
            forth = and_right (ups w v) (ups v w) e;
            back = and_left (ups w v) (ups v w) e;
          }) alone

  round-within : (u s : ℕ) → ((w : ℕ) → member s w ≡ true → Joined n ups u w)
      → (w : ℕ) → member (one_round n (linked ups) s) w ≡ true → Joined n ups u w
  round-within u s h w e =
      let b : Node n w = member-node n (one_round n (linked ups) s) (round-lt s) w e in
      go b (reached-why s w (sym (round-at s w b) ∙ e))
    where
      go : Node n w → (member s w ≡ true) ⊎ Shared n (member s) (linked ups w) → Joined n ups u w
      go b (inl m) = h w m
      go b (inr x) = joined-trans n ups (h x.at x.here) (linked-joined x.at w x.node b x.there)

  rounds-within : (k u s : ℕ) → ((w : ℕ) → member s w ≡ true → Joined n ups u w)
      → (w : ℕ) → member (rounds k n (linked ups) s) w ≡ true → Joined n ups u w
  unfolding rounds
  rounds-within zero u s h = h
  rounds-within (suc k) u s h = rounds-within k u (one_round n (linked ups) s) (round-within u s h)

  -- ---- a set that a round leaves as it is holds all that is joined to its members

  both : (u v : ℕ) → Linked n ups u v → linked ups v u ≡ true
  unfolding linked
  both u v l = and_both l.back l.forth

  pub closed-holds : (s : ℕ) → one_round n (linked ups) s ≡ s → (u w : ℕ) → Joined n ups u w → member s u ≡ true → member s w ≡ true
  closed-holds s q u w alone m = m
  closed-holds s q u w (link {v = x} l j) m =
      closed-holds s q x w j
      (subst (λ z. member z x ≡ true) q (round-at s x l.two.other ∙ reached-by s u x l.two.one m (both u x l)))

  -- ---- a round changes nothing, or the set grows

  unfoldable agree : ℕ → ℕ → Bool
  agree s w = not (reached n (linked ups) s w) || member s w

  unfold-agree : (s w : ℕ) → agree s w ≡ true → reached n (linked ups) s w ≡ true → member s w ≡ true
  unfolding agree
  unfold-agree s w e r = rw r at e

  agree-not : (s w : ℕ) → agree s w ≡ false → (reached n (linked ups) s w ≡ true) × (member s w ≡ false)
  unfolding agree
  agree-not s w e = go (reached n (linked ups) s w) refl e
    where
      go : (b : Bool) → reached n (linked ups) s w ≡ b → (not b || member s w) ≡ false → (reached n (linked ups) s w ≡ true) × (member s w ≡ false)
      go true r x = (r, x)
      go false r x = clash refl x

  grows : (s : ℕ) → s < 2 ^ n → (one_round n (linked ups) s ≡ s) ⊎ (size_of n (member s) < size_of n (member (one_round n (linked ups) s)))
  grows s h = go (choice (every n (agree s)))
    where
      go : Choice (every n (agree s)) → (one_round n (linked ups) s ≡ s) ⊎ (size_of n (member s) < size_of n (member (one_round n (linked ups) s)))
      go (yes! e) =
          inl (same-members n (one_round n (linked ups) s) s (round-lt s) h (λ k l u.
          let a : Node n k = record { low = l; high = u } in
          iff (member (one_round n (linked ups) s) k) (member s k)
          (λ m. unfold-agree s k (every-at n (agree s) e k l u) (sym (round-at s k a) ∙ m)) (round_keeps s k h)))
      go (no! e) =
          let f : Found n (agree s) = every-not n (agree s) e in
          let a : Node n f.at = record { low = f.low; high = f.high } in
          let b = agree-not s f.at f.fails in
          inr (size_of-lt n (member s) (member (one_round n (linked ups) s)) (λ x m. round_keeps s x h m) f.at a b.1 (round-at s f.at a ∙ b.0))

  -- ---- n rounds

  pub rounds-fixed : (k s : ℕ) → one_round n (linked ups) s ≡ s → rounds k n (linked ups) s ≡ s
  unfolding rounds
  rounds-fixed zero s q = refl
  rounds-fixed (suc k) s q = ap (rounds k n (linked ups)) q ∙ rounds-fixed k s q

  pub rounds-lt : (k s : ℕ) → s < 2 ^ n → rounds k n (linked ups) s < 2 ^ n
  unfolding rounds
  rounds-lt zero s h = h
  rounds-lt (suc k) s h = rounds-lt k (one_round n (linked ups) s) (round-lt s)

  rounds-keep : (k s w : ℕ) → s < 2 ^ n → member s w ≡ true → member (rounds k n (linked ups) s) w ≡ true
  unfolding rounds
  rounds-keep zero s w h m = m
  rounds-keep (suc k) s w h m = rounds-keep k (one_round n (linked ups) s) w (round-lt s) (round_keeps s w h m)

  abbrev Fixed : ℕ → Type 0
  Fixed s = one_round n (linked ups) s ≡ s

  rounds-grow : (k s : ℕ) → s < 2 ^ n → Fixed (rounds k n (linked ups) s) ⊎ (size_of n (member s) + k ≤ size_of n (member (rounds k n (linked ups) s)))
  unfolding rounds
  rounds-grow zero s h = inr (omega arith)
  rounds-grow (suc k) s h = go (grows s h) (rounds-grow k (one_round n (linked ups) s) (round-lt s))
    where
      go : Fixed s ⊎ (size_of n (member s) < size_of n (member (one_round n (linked ups) s)))
          → Fixed (rounds k n (linked ups) (one_round n (linked ups) s))
          ⊎ (size_of n (member (one_round n (linked ups) s)) + k ≤ size_of n (member (rounds k n (linked ups) (one_round n (linked ups) s))))
          → Fixed (rounds k n (linked ups) (one_round n (linked ups) s))
          ⊎ (size_of n (member s) + suc k ≤ size_of n (member (rounds k n (linked ups) (one_round n (linked ups) s))))
      go (inl q) r = inl (subst Fixed (sym (ap (rounds k n (linked ups)) q ∙ rounds-fixed k s q)) q)
      go (inr l) (inl q) = inl q
      go (inr l) (inr g) = inr (omega arith)

size_of-most : (n : ℕ) (f : ℕ → Bool) → size_of n f ≤ n
unfolding size_of
size_of-most zero f = omega arith
size_of-most (suc n) f = go (f 1) (size_of-most n (λ k. f (suc k)))
  where
    go : (b : Bool) → size_of n (λ k. f (suc k)) ≤ n → digit b + size_of n (λ k. f (suc k)) ≤ suc n
    go true l = omega arith
    go false l = omega arith

-- ---- the group of a node

module _ (n : ℕ) (ups : ℕ → ℕ → Bool) (u : ℕ) where
  pub group-lt : group_of n ups u < 2 ^ n
  unfolding group_of group_by
  group-lt = rounds-lt n ups n (set_of n (same_node u)) (set_of-lt n (same_node u))

  pub joined-sound : (w : ℕ) → member (group_of n ups u) w ≡ true → Joined n ups u w
  unfolding group_of group_by
  joined-sound w e = rounds-within n ups n u (set_of n (same_node u)) start w e
    where
      start : (x : ℕ) → member (set_of n (same_node u)) x ≡ true → Joined n ups u x
      start x m =
          let a : Node n x = member-node n (set_of n (same_node u)) (set_of-lt n (same_node u)) x m in
          subst (λ z. Joined n ups u z) (sym (same-is u x (sym (member-set_of n (same_node u) x a.low a.high) ∙ m))) alone

  module _ (a : Node n u) where
    first-in : member (set_of n (same_node u)) u ≡ true
    first-in = member-set_of n (same_node u) u a.low a.high ∙ is_same u u refl

    group-fixed : one_round n (linked ups) (group_of n ups u) ≡ group_of n ups u
    unfolding group_of group_by
    group-fixed = go (rounds-grow n ups n (set_of n (same_node u)) (set_of-lt n (same_node u)))
      where
        go : (one_round n (linked ups) (rounds n n (linked ups) (set_of n (same_node u))) ≡ rounds n n (linked ups) (set_of n (same_node u)))
            ⊎ (size_of n (member (set_of n (same_node u))) + n ≤ size_of n (member (rounds n n (linked ups) (set_of n (same_node u)))))
            → one_round n (linked ups) (rounds n n (linked ups) (set_of n (same_node u))) ≡ rounds n n (linked ups) (set_of n (same_node u))
        go (inl q) = q
        go (inr g) =
            let one = size_of-lt n (λ x. false) (member (set_of n (same_node u))) (λ x e. clash e refl) u a refl first-in in
            let most = size_of-most n (member (rounds n n (linked ups) (set_of n (same_node u)))) in
            absurd (omega arith)

    self_in : member (group_of n ups u) u ≡ true
    unfolding group_of group_by
    self_in = rounds-keep n ups n (set_of n (same_node u)) u (set_of-lt n (same_node u)) first-in

    pub joined-complete : (w : ℕ) → Joined n ups u w → member (group_of n ups u) w ≡ true
    joined-complete w j = closed-holds n ups (group_of n ups u) group-fixed u w j self_in
