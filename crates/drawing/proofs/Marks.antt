-- Which pairs were named, as a set for each node: none at first, and a link marked at both of its ends.
use Prim.Native.Nat.{ℕ, zero, suc, ◌-◌, ◌≤◌}
use native.Mathlib.Omega.{arith}
use mathlib.Core.Bool.{Bool, true, false, not, ◌&&◌, ◌||◌, or_comm, or-false}
use mathlib.Core.List.{List, [], ◌∷◌}
use mathlib.Core.Logic.{inl, inr}
use mathlib.Core.Path.{◌≡◌, refl, sym, ap, ◌∙◌}
use borrow.Author.Tests.{eq-eqb, ne_eqb, eqb-false, not-true}
use lib.Dec.{eqb}
use lib.ListN.{get_or, set, replicate, length-set}
use lib.Seq.{get_or-set_same, get_or-set_other}
use Rattle.basics.proofs.Tests.{and_left, and_right, SameOrNot, equal?}
use Rattle.dot.specs.declared.Edge.{Edge}
use Rattle.nodeset.specs.NodeSet.{member, set_of, same_node}
use Rattle.nodeset.specs.inner.Operations.{in_either}
use Rattle.nodeset.proofs.Members.{member-set_of, none-in-zero}
use Rattle.protocol.specs.Network.{Node, Two, is_node}
use Rattle.protocol.proofs.NodeLaws.{is-node}
use Rattle.drawing.specs.Links.{is_link, names, named_by}
use Rattle.drawing.specs.inner.Seen.{Seen}

-- ---- a link

pub link-two : (n : ℕ) (e : Edge) → is_link n e ≡ true → Two n e.first e.second
unfolding is_link
link-two n e h =
    let nodes = and_left (is_node n e.first && is_node n e.second) (not (eqb e.first e.second)) h in
    let apart = and_right (is_node n e.first && is_node n e.second) (not (eqb e.first e.second)) h in record {
      one = is-node n e.first (and_left (is_node n e.first) (is_node n e.second) nodes);
      other = is-node n e.second (and_right (is_node n e.first) (is_node n e.second) nodes);
      differ = eqb-false e.first e.second (not-true (eqb e.first e.second) apart);
    }

-- ---- nothing named

zeros-at : (k i : ℕ) → ◌≡◌ {A = ℕ} (get_or (replicate k 0) i 0) 0
zeros-at zero i = refl
zeros-at (suc k) zero = refl
zeros-at (suc k) (suc i) = zeros-at k i

pub none_seen : (n : ℕ) → Seen n [] (replicate 16 0)
unfolding named_by
none_seen n = record { size = refl; at = λ u v a b. ap (λ (s : ℕ). member s v) (zeros-at 16 (u - 1)) ∙ none-in-zero v }

-- ---- a link marked

-- s with node k
abbrev with : ℕ → ℕ → ℕ
with s k = set_of 16 (in_either (member s) (same_node k))

with-member : (s k v : ℕ) → 1 ≤ v → v ≤ 16 → member (with s k) v ≡ (member s v || eqb v k)
unfolding in_either same_node
with-member s k v a b = member-set_of 16 (in_either (member s) (same_node k)) v a b

module _ (n : ℕ) (few : n ≤ 16) (e : Edge) (two : Two n e.first e.second) (xs : List ℕ) (done : List Edge) (seen : Seen n done xs) where
  abbrev i : ℕ
  i = e.first - 1

  abbrev j : ℕ
  j = e.second - 1

  apart : j ≡ i → ⊥
  apart q = two.differ (omega (arith, q, two.one.low, two.other.low))

  abbrev once : List ℕ
  once = set xs i (with (get_or xs i 0) e.second)

  abbrev twice : List ℕ
  twice = set once j (with (get_or once j 0) e.first)

  at_first : get_or twice i 0 ≡ with (get_or xs i 0) e.second
  at_first =
      get_or-set_other once j i (with (get_or once j 0) e.first) 0 (λ q. apart (sym q))
      ∙ get_or-set_same xs i (with (get_or xs i 0) e.second) 0 (omega (arith, seen.size, two.one.low, two.one.high, few))

  at_second : get_or twice j 0 ≡ with (get_or xs j 0) e.first
  at_second =
      get_or-set_same once j (with (get_or once j 0) e.first) 0
      (omega (arith, length-set xs i (with (get_or xs i 0) e.second), seen.size, two.other.low, two.other.high, few))
      ∙ ap (λ (s : ℕ). with s e.first) (get_or-set_other xs i j (with (get_or xs i 0) e.second) 0 apart)

  at_other : (k : ℕ) → (k ≡ i → ⊥) → (k ≡ j → ⊥) → get_or twice k 0 ≡ get_or xs k 0
  at_other k a b = get_or-set_other once j k (with (get_or once j 0) e.first) 0 b ∙ get_or-set_other xs i k (with (get_or xs i 0) e.second) 0 a

  named-at : (u v : ℕ) → Node n u → Node n v → SameOrNot u e.first → SameOrNot u e.second → member (get_or twice (u - 1) 0)
      v ≡ (names e u v || named_by done u v)
  unfolding names
  named-at u v a b (inl p) q =
      let m = ap (λ (s : ℕ). member s v) (ap (λ (w : ℕ). get_or twice (w - 1) 0) p ∙ at_first) in
      let other : eqb u e.second ≡ false = ne_eqb u e.second (λ z. two.differ (sym p ∙ z)) in
      let named : (eqb u e.first && eqb v e.second || eqb u e.second && eqb v e.first) ≡ eqb v e.second =
      rw (eq-eqb u e.first p, other) (or-false (eqb v e.second)) in
      let d : member (get_or xs i 0) v ≡ named_by done u v = seen.at e.first v two.one b ∙ ap (λ (w : ℕ). named_by done w v) (sym p) in
      m
      ∙ (with-member (get_or xs i 0) e.second v b.low (omega (arith, b.high, few))
      ∙ (ap (λ (t : Bool). t || eqb v e.second) d
      ∙ (or_comm (named_by done u v) (eqb v e.second)
      ∙ ap (λ (t : Bool). t || named_by done u v) (sym named))))
  named-at u v a b (inr p) (inl q) =
      let m = ap (λ (s : ℕ). member s v) (ap (λ (w : ℕ). get_or twice (w - 1) 0) q ∙ at_second) in
      let d : member (get_or xs j 0) v ≡ named_by done u v = seen.at e.second v two.other b ∙ ap (λ (w : ℕ). named_by done w v) (sym q) in
      let named : (eqb u e.first && eqb v e.second || eqb u e.second && eqb v e.first) ≡ eqb v e.first =
      rw (ne_eqb u e.first p, eq-eqb u e.second q) refl in
      m
      ∙ (with-member (get_or xs j 0) e.first v b.low (omega (arith, b.high, few))
      ∙ (ap (λ (t : Bool). t || eqb v e.first) d ∙ (or_comm (named_by done u v) (eqb v e.first) ∙ ap (λ (t : Bool). t || named_by done u v) (sym named))))
  named-at u v a b (inr p) (inr q) =
      let same : get_or twice (u - 1) 0 ≡ get_or xs (u - 1) 0 =
      at_other (u - 1) (λ z. p (omega (arith, z, a.low, two.one.low))) (λ z. q (omega (arith, z, a.low, two.other.low))) in
      let named : (eqb u e.first && eqb v e.second || eqb u e.second && eqb v e.first) ≡ false =
      rw (ne_eqb u e.first p, ne_eqb u e.second q) refl in
      ap (λ (s : ℕ). member s v) same ∙ (seen.at u v a b ∙ ap (λ (t : Bool). t || named_by done u v) (sym named))

  pub marked : Seen n (e ∷ done) (set (set xs (e.first - 1) (set_of 16 (in_either (member (get_or xs (e.first - 1) 0)) (same_node e.second))))
      (e.second - 1) (set_of 16 (in_either (member (get_or once (e.second - 1) 0)) (same_node e.first))))
  unfolding named_by
  marked = record {
    size = length-set once j (with (get_or once j 0) e.first) ∙ (length-set xs i (with (get_or xs i 0) e.second) ∙ seen.size);
    at = λ u v a b. named-at u v a b (equal? u e.first) (equal? u e.second);
  }

-- ---- the steps of `is_new` and `mark`

module _ (n : ℕ) (e : Edge) (xs : List ℕ) (l : Bool) (is : l ≡ is_link n e) where
  pub new-there : {t : Bool} → l ≡ true → t ≡ member (get_or xs (e.first - 1) 0) e.second
      → not t ≡ (is_link n e && not (member (get_or xs (e.first - 1) 0) e.second))
  new-there h s = ap not s ∙ sym (rw (sym is ∙ h) refl)

  pub not_new : l ≡ false → false ≡ (is_link n e && not (member (get_or xs (e.first - 1) 0) e.second))
  not_new h = sym (rw (sym is ∙ h) refl)

pub marked-as : (n : ℕ) → n ≤ 16 → (e : Edge) → Two n e.first e.second → (xs : List ℕ) {a b : ℕ}
    → a ≡ set_of 16 (in_either (member (get_or xs (e.first - 1) 0)) (same_node e.second))
    → b ≡ set_of 16 (in_either (member (get_or (set xs (e.first - 1) a) (e.second - 1) 0)) (same_node e.first))
    → (done : List Edge) → Seen n done xs → Seen n (e ∷ done) (set (set xs (e.first - 1) a) (e.second - 1) b)
marked-as n few e two xs p q done seen = rw (q, p) (marked n few e two xs done seen)
