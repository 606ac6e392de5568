-- What the comparison of two heights says: they are the same, or the numbers before the place agree and the one at the place decides.
-- `parts` finds one of these for every two heights, `parts-only` says that no other sign or place fits.
use Prim.Native.Nat.{ℕ, zero, suc, ◌-◌, ◌≤◌, ◌<◌}
use native.Mathlib.Omega.{arith}
use mathlib.Core.Bool.{true}
use mathlib.Core.Path.{◌≡◌, refl, ap, sym, ◌∙◌}
use lib.IntN.{ℤ, pos, negsuc, neg_ℤ}
use lib.ListN.{get_or}
use lib.Signed.{lt_z}
use Rattle.height.specs.Comparison.{Comparison, comparison, order_of, place_of, said_order, sign_at}
use Rattle.height.specs.Height.{level_key, pair_key, height_key}
use Rattle.height.specs.Order.{before}
use Rattle.height.specs.inner.Parts.{is_less}
use Rattle.height.specs.declared.Height.{Height}
use Rattle.height.specs.declared.order.Order.TheVariants.{Less, Equal, Greater}
use Rattle.height.specs.declared.order.Order.{Order}
use Rattle.height.proofs.Compare.{is-less}
use Rattle.height.proofs.FirstDifference.{FirstLess, Found, none, below, above, found, decided}
use Rattle.height.proofs.Keys.{key-length, key-injective}
use Rattle.height.proofs.OrderLaws.{before-irrefl, before-asym}
use Rattle.height.proofs.Places.{place-turned}

-- number k of a height, k of 1 to 7
unfoldable pub number : ℕ → Height → ℤ
number k h = get_or (height_key h) (k - 1) (pos 0)

-- a is the smaller: before place k the numbers of a and b agree, and at k that of a is the smaller
pub record SmallerAt (k : ℕ) (a b : Height) : Type 0 where
  pub low : 1 ≤ k
  pub high : k ≤ 7
  pub agree : (j : ℕ) → 1 ≤ j → j < k → number j a ≡ number j b
  pub decides : lt_z (number k a) (number k b) ≡ true

-- what a sign and a place say of two heights
pub data Parting (a b : Height) : Comparison → Type 0 where
  same : a ≡ b → Parting a b (sign_at (pos 0) 0)
  smaller : (k : ℕ) → SmallerAt k a b → Parting a b (sign_at (negsuc 0) k)
  larger : (k : ℕ) → SmallerAt k b a → Parting a b (sign_at (pos 1) k)

-- ---- places and keys

number-suc : (i : ℕ) (h : Height) → number (suc i) h ≡ get_or (height_key h) i (pos 0)
unfolding number
number-suc i h = ap (λ (j : ℕ). get_or (height_key h) j (pos 0)) (omega arith)

-- the first difference of the keys, as places
from_key : (a b : Height) (i : ℕ) → FirstLess i (height_key a) (height_key b) → SmallerAt (suc i) a b
from_key a b i f =
    record {
      low = omega arith;
      high = omega (arith, f.inside, key-length a);
      agree = agree;
      decides = rw (number-suc i a, number-suc i b) f.decides;
    }
  where
    agree : (j : ℕ) → 1 ≤ j → j < suc i → number j a ≡ number j b
    agree zero h t = absurd (omega (arith, h))
    agree (suc j) h t = number-suc j a ∙ f.agree j (omega (arith, t)) ∙ sym (number-suc j b)

to-key : (a b : Height) (i : ℕ) → SmallerAt (suc i) a b → FirstLess i (height_key a) (height_key b)
to-key a b i s =
    record {
      inside = omega (arith, s.high, key-length a);
      agree = λ j h. sym (number-suc j a) ∙ s.agree (suc j) (omega arith) (omega (arith, h)) ∙ number-suc j b;
      decides = rw (← number-suc i a, ← number-suc i b) s.decides;
    }

smaller-says : (a b : Height) (k : ℕ) → SmallerAt k a b
    → (before (height_key a) (height_key b) ≡ true) × (place_of 1 (height_key a) (height_key b) ≡ k)
smaller-says a b zero s = absurd (omega (arith, s.low))
smaller-says a b (suc i) s =
    let t = decided i 1 (height_key a) (height_key b) (key-length a ∙ sym (key-length b)) (to-key a b i s) in
    (t.0, t.1 ∙ omega arith)

-- ---- the statements

-- no other sign or place fits
pub parts-only : (a b : Height) (c : Comparison) → Parting a b c → comparison a b ≡ c
unfolding comparison order_of
parts-only a b c (same e) = rw (e, before-irrefl (height_key b))
parts-only a b c (smaller k s) = let t = smaller-says a b k s in rw (t.0, t.1)
parts-only a b c (larger k s) =
    let t = smaller-says b a k s in
    rw (before-asym (height_key b) (height_key a) t.0, t.0, ← place-turned 1 (height_key a) (height_key b), t.1)

-- every comparison says what is so
pub parts : (a b : Height) → Parting a b (comparison a b)
parts a b = go (found (height_key a) (height_key b) (key-length a ∙ sym (key-length b)))
  where
    said : (c : Comparison) → Parting a b c → Parting a b (comparison a b)
    said c p = rw (parts-only a b c p) p

    go : Found (height_key a) (height_key b) → Parting a b (comparison a b)
    go (none e) = said _ (same (key-injective a b e))
    go (below i f) = said _ (smaller (suc i) (from_key a b i f))
    go (above i f) = said _ (larger (suc i) (from_key b a i f))

-- 0 exactly for equal heights
pub place-0 : (a b : Height) → (comparison a b).place ≡ 0 → a ≡ b
place-0 a b e = go (comparison a b) e (parts a b)
  where
    go : (c : Comparison) → c.place ≡ 0 → Parting a b c → a ≡ b
    go c e (same p) = p
    go c e (smaller k s) = absurd (omega (arith, e, s.low))
    go c e (larger k s) = absurd (omega (arith, e, s.low))

pub equal-0 : (a : Height) → comparison a a ≡ sign_at (pos 0) 0
equal-0 a = parts-only a a _ (same refl)

-- turned round: the same place and the other sign
pub turned : (a b : Height) → comparison b a ≡ sign_at (neg_ℤ (comparison a b).sign) (comparison a b).place
turned a b = go (comparison a b) (parts a b)
  where
    go : (c : Comparison) → Parting a b c → comparison b a ≡ sign_at (neg_ℤ c.sign) c.place
    go c (same p) = parts-only b a _ (same (sym p))
    go c (smaller k s) = parts-only b a _ (larger k s)
    go c (larger k s) = parts-only b a _ (smaller k s)

-- less exactly where the sink test's order has it
pub less-before : (a b : Height) → lt_z (comparison a b).sign (pos 0) ≡ before (height_key a) (height_key b)
unfolding comparison
less-before a b = by_sign (order_of 1 (height_key a) (height_key b)) ∙ is-less 1 (height_key a) (height_key b)
  where
    by_sign : (o : Order) → lt_z (said_order o).sign (pos 0) ≡ is_less o
    by_sign (Less k) = refl
    by_sign Equal = refl
    by_sign (Greater k) = refl

-- the seven numbers by name
pub names : (h : Height) → (number 1 h ≡ pos h.level.tau.0) × (number 2 h ≡ pos h.level.oid) × (number 3 h ≡ pos h.level.r)
    × (number 4 h ≡ h.delta) × (number 5 h ≡ h.pair.nlts.0) × (number 6 h ≡ pos h.pair.lid) × (number 7 h ≡ pos h.id)
unfolding number height_key level_key pair_key
names h = (refl, refl, refl, refl, refl, refl, refl)
