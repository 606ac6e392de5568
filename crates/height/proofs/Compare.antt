-- The comparison of two keys is the comparison of their beginnings and, where these are equal, of what follows; and what its answers say.
use Prim.Native.Nat.{ℕ, ◌+◌}
use mathlib.Core.Path.{◌≡◌, refl, ap, ap₂, sym, ◌∙◌}
use mathlib.Core.Bool.{Bool, true, false, not, cond, ◌&&◌}
use mathlib.Core.Logic.{◌⊎◌, inl, inr}
use mathlib.Core.List.{List, [], ◌∷◌, ◌++◌}
use lib.IntN.{ℤ, pos}
use lib.ListN.{length}
use mir.Syntax.{w64}
use mir.Val.{SFits, to_z, of_z}
use Rattle.std.proofs.lemmas.Bool.{cases_Bool}
use Rattle.height.specs.Comparison.{comparison, order_of, place_of, said_order}
use Rattle.height.specs.Height.{level_key, pair_key, height_key}
use Rattle.height.specs.Order.{before, same}
use Rattle.height.specs.inner.Parts.{and_then, is_less, is_equal}
use Rattle.height.specs.declared.Height.{Height}
use Rattle.height.specs.declared.LeaderPair.{LeaderPair}
use Rattle.height.specs.declared.ReferenceLevel.{ReferenceLevel}
use Rattle.height.specs.declared.order.Order.TheVariants.{Less, Equal, Greater}
use Rattle.height.specs.declared.order.Order.{Order}
use Rattle.height.proofs.OrderLaws.{before-equal, before-append, before-asym, before-total}
use Rattle.height.proofs.Places.{place-prefix, place-turned, place-append}
use Rattle.height.proofs.SaidOrder.{said-order-injective}
use Rattle.height.proofs.Signed.{read_back}

-- one beginning: what follows decides
pub before-prefix : (xs us vs : List ℤ) → before (xs ++ us) (xs ++ vs) ≡ before us vs
before-prefix [] us vs = refl
before-prefix (x ∷ xs) us vs = before-equal x (xs ++ us) (xs ++ vs) ∙ before-prefix xs us vs

pub order-append : (k : ℕ) (xs ys us vs : List ℤ) → length xs ≡ length ys
    → order_of k (xs ++ us) (ys ++ vs) ≡ and_then (order_of k xs ys) (order_of (k + length xs) us vs)
unfolding order_of
order-append k xs ys us vs e = go (cases_Bool (before xs ys)) (cases_Bool (before ys xs))
  where
    go : (before xs ys ≡ true) ⊎ (before xs ys ≡ false) → (before ys xs ≡ true) ⊎ (before ys xs ≡ false)
        → order_of k (xs ++ us) (ys ++ vs) ≡ and_then (order_of k xs ys) (order_of (k + length xs) us vs)
    go (inl p) q = rw (p, before-append xs ys p us vs, place-append k xs ys p us vs)
    go (inr p) (inl q) =
        let r : before (ys ++ vs) (xs ++ us) ≡ true = before-append ys xs q vs us in
        let t : place_of k (xs ++ us) (ys ++ vs) ≡ place_of k xs ys =
        sym (place-turned k (xs ++ us) (ys ++ vs)) ∙ place-append k ys xs q vs us ∙ place-turned k xs ys in
        rw (p, q, before-asym (ys ++ vs) (xs ++ us) r, r, t)
    go (inr p) (inr q) =
        let d : xs ≡ ys = before-total xs ys e p q in
        rw (p, q, d, before-prefix ys us vs, before-prefix ys vs us, place-prefix k ys us vs)

-- the first number of the keys, then the rest
pub order-cons : (k : ℕ) (x y : ℤ) (xs ys : List ℤ)
    → order_of k (x ∷ xs) (y ∷ ys) ≡ and_then (order_of k (x ∷ []) (y ∷ [])) (order_of (k + 1) xs ys)
order-cons k x y xs ys = order-append k (x ∷ []) (y ∷ []) xs ys refl

-- the comparison of two levels, pairs, heights, part by part
pub order-levels : (a b : ReferenceLevel) → order_of 1 (level_key a) (level_key b)
    ≡ and_then (order_of 1 (pos a.tau.0 ∷ []) (pos b.tau.0 ∷ []))
    (and_then (order_of 2 (pos a.oid ∷ []) (pos b.oid ∷ [])) (order_of 3 (pos a.r ∷ []) (pos b.r ∷ [])))
unfolding level_key
order-levels a b = rw (order-cons 1, order-cons 2 (pos a.oid) (pos b.oid))

pub order-pairs : (a b : LeaderPair) → order_of 5 (pair_key a) (pair_key b)
    ≡ and_then (order_of 5 (a.nlts.0 ∷ []) (b.nlts.0 ∷ [])) (order_of 6 (pos a.lid ∷ []) (pos b.lid ∷ []))
unfolding pair_key
order-pairs a b = order-cons 5 _ _ _ _

pub order-heights : (a b : Height) → order_of 1 (height_key a) (height_key b)
    ≡ and_then (order_of 1 (level_key a.level) (level_key b.level))
    (and_then (order_of 4 (a.delta ∷ []) (b.delta ∷ []))
    (and_then (order_of 5 (pair_key a.pair) (pair_key b.pair)) (order_of 7 (pos a.id ∷ []) (pos b.id ∷ []))))
unfolding height_key level_key pair_key
order-heights a b =
    order-append 1 (level_key a.level) (level_key b.level) _ _ refl
    ∙ rw (order-cons 4 a.delta b.delta, order-append 5 (pair_key a.pair) (pair_key b.pair) (pos a.id ∷ []) (pos b.id ∷ []) refl)

-- the answer of `of_numbers`, which reads its two numbers off 64 bits
pub order-read : {o : Order} (k : ℕ) {x y v w : ℤ} → SFits w64 v → SFits w64 w → x ≡ v → y ≡ w
    → o ≡ order_of k (to_z w64 (of_z w64 x) ∷ []) (to_z w64 (of_z w64 y) ∷ []) → o ≡ order_of k (v ∷ []) (w ∷ [])
order-read k fv fw p q e = e ∙ ap₂ (λ (v w : ℤ). order_of k (v ∷ []) (w ∷ [])) (read_back w64 p fv) (read_back w64 q fw)

-- what the answers say
pub is-less : (k : ℕ) (xs ys : List ℤ) → is_less (order_of k xs ys) ≡ before xs ys
unfolding order_of
is-less k xs ys = go (before xs ys) (before ys xs)
  where
    go : (b d : Bool) → is_less (cond b (Less (place_of k xs ys)) (cond d (Greater (place_of k xs ys)) Equal)) ≡ b
    go true d = refl
    go false true = refl
    go false false = refl

pub is-equal : (k : ℕ) (xs ys : List ℤ) → is_equal (order_of k xs ys) ≡ same xs ys
unfolding order_of same
is-equal k xs ys = go (before xs ys) (before ys xs)
  where
    go : (b d : Bool) → is_equal (cond b (Less (place_of k xs ys)) (cond d (Greater (place_of k xs ys)) Equal)) ≡ (not b && not d)
    go true d = refl
    go false true = refl
    go false false = refl

pub said-less : (a b : Height) (o : Order) → said_order o ≡ comparison a b → is_less o ≡ before (height_key a) (height_key b)
unfolding comparison
said-less a b o e = ap is_less (said-order-injective o (order_of 1 (height_key a) (height_key b)) e) ∙ is-less 1 (height_key a) (height_key b)
