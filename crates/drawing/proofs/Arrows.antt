-- Arrows and links: an arrow stands for a link and leads to the lower own height.
-- In a sound network each link has exactly one arrow, and no node is linked to itself.
use Prim.Native.Nat.{ℕ}
use mathlib.Core.Bool.{Bool, true, false, not, ◌&&◌, ◌||◌}
use mathlib.Core.List.{List}
use mathlib.Core.Logic.{inl, inr}
use mathlib.Core.Path.{◌≡◌, refl, sym, ap, ◌∙◌}
use borrow.Author.Tests.{eq-eqb, eqb-true, not-true}
use lib.Dec.{eqb, leb}
use lib.IntN.{ℤ}
use lib.ListN.{length}
use Rattle.basics.specs.Functions.{every}
use Rattle.basics.proofs.FunctionsLaws.{every-pair-at}
use Rattle.basics.proofs.Tests.{clash, and_left, and_right, and_both, not-true-is-false, Choice, yes!, no!, choice, SameOrNot, equal?}
use Rattle.calls.specs.Component.{Linked}
use Rattle.height.specs.Clock.{last_time}
use Rattle.height.specs.Height.{height_key}
use Rattle.height.specs.Order.{before}
use Rattle.height.specs.declared.Height.{Height}
use Rattle.height.proofs.Keys.{key-length, key-injective}
use Rattle.height.proofs.OrderLaws.{before-asym, before-irrefl, before-total}
use Rattle.protocol.specs.Holds.{level_holds, delta_holds, leader_pair_holds, height_holds, not_in_both, sets_hold, is_empty, own_holds, pair_holds, sound}
use Rattle.protocol.specs.Network.{Node, Two, Network, up_to, own}
use Rattle.drawing.specs.Drawing.{points}

-- ---- whatever the network is

-- what an arrow from u to v says
pub record Pointing (p : Network) (u v : ℕ) : Type 0 where
  pub forth : up_to p u v ≡ true
  pub back : up_to p v u ≡ true
  pub lower : before (height_key (own p v)) (height_key (own p u)) ≡ true

pub pointing : (p : Network) (u v : ℕ) → points p u v ≡ true → Pointing p u v
unfolding points
pointing p u v h =
    let low = before (height_key (own p v)) (height_key (own p u)) in
    let up = and_left (up_to p u v && up_to p v u) low h in record {
      forth = and_left (up_to p u v) (up_to p v u) up;
      back = and_right (up_to p u v) (up_to p v u) up;
      lower = and_right (up_to p u v && up_to p v u) low h;
    }

pub points-if : (p : Network) (u v : ℕ) → Pointing p u v → points p u v ≡ true
unfolding points
points-if p u v k = and_both (and_both k.forth k.back) k.lower

-- no arrow leads from a node to itself
pub no-own-arrow : (p : Network) (u : ℕ) → points p u u ≡ false
no-own-arrow p u = not-true-is-false (points p u u) (λ h. clash (pointing p u u h).lower (before-irrefl (height_key (own p u))))

-- no two arrows lead forth and back
pub no-arrow-back : (p : Network) (u v : ℕ) → points p u v ≡ true → points p v u ≡ false
no-arrow-back p u v h =
    not-true-is-false (points p v u) (λ k.
    clash (pointing p v u k).lower (before-asym (height_key (own p v)) (height_key (own p u)) (pointing p u v h).lower))

-- an arrow stands for a link, and leads to the lower own height
pub arrow-links : (n : ℕ) (p : Network) (u v : ℕ) → Node n u → Node n v → points p u v ≡ true
    → Linked n (up_to p) u v × (before (height_key (own p v)) (height_key (own p u)) ≡ true)
arrow-links n p u v a b h =
    let k = pointing p u v h in
    let apart : u ≡ v → ⊥ = λ e. clash h (rw e (no-own-arrow p v)) in
    (record { two = record { one = a; other = b; differ = apart }; forth = k.forth; back = k.back }, k.lower)

-- ---- in a sound network

opposite : (xs ys : List ℤ) → length xs ≡ length ys → (xs ≡ ys → ⊥) → before xs ys ≡ not (before ys xs)
opposite xs ys e d = go (choice (before xs ys)) (choice (before ys xs))
  where
    go : Choice (before xs ys) → Choice (before ys xs) → before xs ys ≡ not (before ys xs)
    go (yes! a) b = rw (a, before-asym xs ys a) refl
    go (no! a) (yes! b) = rw (a, b) refl
    go (no! a) (no! b) = absurd (d (before-total xs ys e a b))

one_of_two : (x : Bool) → (x || not x) ≡ true
one_of_two true = refl
one_of_two false = refl

module _ (n : ℕ) (p : Network) (s : sound n p ≡ true) where
  own-holds : (u : ℕ) → Node n u → own_holds n p u ≡ true
  unfolding sound pair_holds
  own-holds u a =
      let h : pair_holds n p u u ≡ true = every-pair-at n (pair_holds n p) s u a.low a.high u a.low a.high in
      rw (eq-eqb u u refl) at h

  -- an own height ends in the number of its node
  own-id : (u : ℕ) → Node n u → (own p u).id ≡ u
  unfolding own_holds height_holds
  own-id u a =
      let h = own p u in
      let first = leb (p.clock u) last_time && sets_hold n u (p.neighbors u) (p.forming u) in
      let most = and_left (first && height_holds n u h) (is_empty (p.channel u u)) (own-holds u a) in
      let holds = and_right first (height_holds n u h) most in
      eqb-true h.id u (and_right (level_holds n h.level && delta_holds h.delta && leader_pair_holds n h.pair) (eqb h.id u) holds)

  keys-differ : (u v : ℕ) → Two n u v → height_key (own p u) ≡ height_key (own p v) → ⊥
  keys-differ u v t e =
      let same : (own p u).id ≡ (own p v).id = ap (λ (h : Height). h.id) (key-injective (own p u) (own p v) e) in
      t.differ (sym (own-id u t.one) ∙ (same ∙ own-id v t.other))

  pub one-arrow : (u v : ℕ) → Two n u v → up_to p u v ≡ true → up_to p v u ≡ true → points p v u ≡ not (points p u v)
  unfolding points
  one-arrow u v t forth back =
      let long : length (height_key (own p u)) ≡ length (height_key (own p v)) = key-length (own p u) ∙ sym (key-length (own p v)) in
      rw (forth, back) (opposite (height_key (own p u)) (height_key (own p v)) long (keys-differ u v t))

  pub no-own-link : (u : ℕ) → Node n u → up_to p u u ≡ false
  unfolding own_holds sets_hold
  no-own-link u a =
      let sets = sets_hold n u (p.neighbors u) (p.forming u) in
      let first = leb (p.clock u) last_time in
      let holds = height_holds n u (own p u) in
      let most = and_left (first && sets && holds) (is_empty (p.channel u u)) (own-holds u a) in
      let hold = and_right first sets (and_left (first && sets) holds most) in
      let apart = every n (not_in_both (p.neighbors u) (p.forming u)) in
      let not_n = not (p.neighbors u u) in
      let not_f = not (p.forming u u) in
      let no_f = not-true (p.forming u u) (and_right (apart && not_n) not_f hold) in
      let no_n = not-true (p.neighbors u u) (and_right apart not_n (and_left (apart && not_n) not_f hold)) in
      rw (no_n, no_f) refl

  -- two nodes are linked exactly when an arrow leads one way or the other
  pub linked-points : (u v : ℕ) → Node n u → Node n v → (up_to p u v && up_to p v u) ≡ (points p u v || points p v u)
  linked-points u v a b = go (equal? u v) (choice (up_to p u v)) (choice (up_to p v u))
    where
      unlinked : (x y : ℕ) → (up_to p x y ≡ true → up_to p y x ≡ true → ⊥) → points p x y ≡ false
      unlinked x y d = not-true-is-false (points p x y) (λ h. d (pointing p x y h).forth (pointing p x y h).back)

      go : SameOrNot u v → Choice (up_to p u v) → Choice (up_to p v u) → (up_to p u v && up_to p v u) ≡ (points p u v || points p v u)
      go (inl e) x y = rw (e, no-own-link v b, no-own-arrow p v) refl
      go (inr d) (no! x) y = rw (unlinked u v (λ i j. clash i x), unlinked v u (λ i j. clash j x), x) refl
      go (inr d) (yes! x) (no! y) = rw (unlinked u v (λ i j. clash j y), unlinked v u (λ i j. clash i y), x, y) refl
      go (inr d) (yes! x) (yes! y) =
          rw (one-arrow u v (record { one = a; other = b; differ = d }) x y, x, y) (sym (one_of_two (points p u v)))
