-- A height's seven words and the height: each gives the other back, and a store leaves every word outside the seven.
use Prim.Native.Nat.{ℕ, zero, suc, ◌+◌, ◌-◌, ◌≤◌, ◌<◌}
use mathlib.Core.Bool.{Bool, true, false}
use mathlib.Core.Path.{◌≡◌, refl, ap, sym, ◌∙◌}
use mathlib.Core.List.{List, [], ◌∷◌}
use native.Mathlib.Nat.{add-suc, suc-add, add-zero, zero-add}
use native.Mathlib.Omega.{arith}
use borrow.Author.Tests.{lt-ltb, le-ltb, ltb-false}
use lib.ListN.{length, get_or, set, length-set}
use lib.Seq.{sets, length-sets, get_or-set_same, get_or-set_other}
use lib.Dec.{ltb}
use lib.IntN.{ℤ, pos, negsuc, neg_ℤ, nat_abs}
use lib.Signed.{mag}
use Rattle.height.specs.Words.{delta_of, delta_word, height_words, height_at}
use Rattle.height.specs.inner.Stored.{stored_at, Negated}
use Rattle.height.specs.declared.Height.{Height}

-- ---- a run of stores, read

-- a place outside the run keeps its word
pub sets-before : (l : List ℕ) (i : ℕ) (vs : List ℕ) (j d : ℕ) → j < i → get_or (sets l i vs) j d ≡ get_or l j d
sets-before l i [] j d h = refl
sets-before l i (a ∷ vs) j d h = sets-before (set l i a) (suc i) vs j d (omega arith) ∙ get_or-set_other l i j a d (omega arith)

pub sets-past : (l : List ℕ) (i : ℕ) (vs : List ℕ) (j d : ℕ) → i + length vs ≤ j → get_or (sets l i vs) j d ≡ get_or l j d
sets-past l i [] j d h = refl
sets-past l i (a ∷ vs) j d h = sets-past (set l i a) (suc i) vs j d (omega arith) ∙ get_or-set_other l i j a d (omega arith)

-- a place in the run has the run's
pub sets-in : (l : List ℕ) (i : ℕ) (vs : List ℕ) (k d : ℕ) → k < length vs → i + length vs ≤ length l → get_or (sets l i vs) (i + k) d ≡ get_or vs k d
sets-in l i [] k d h f = absurd (omega arith)
sets-in l i (a ∷ vs) zero d h f =
    rw add-zero (sets-before (set l i a) (suc i) vs i d (omega arith) ∙ get_or-set_same l i a d (omega arith))
sets-in l i (a ∷ vs) (suc k) d h f =
    rw (add-suc, ← suc-add) (sets-in (set l i a) (suc i) vs k d (omega arith) (simp length-set (omega arith)))

-- ---- the words and the numbers

pub signed_word : (z : ℤ) → mag z < 2147483648 → delta_of (delta_word z) ≡ z
unfolding delta_of delta_word
signed_word (pos n) h = simp (lt-ltb n 2147483648 h)
signed_word (negsuc n) h =
    simp (le-ltb (4294967295 - n) 2147483648 (omega arith)) (ap negsuc (omega arith))

pub word-signed : (w : ℕ) → w < 4294967296 → delta_word (delta_of w) ≡ w
unfolding delta_of delta_word
word-signed w h = go (ltb w 2147483648) refl
  where
    go : (b : Bool) → ltb w 2147483648 ≡ b → delta_word (delta_of w) ≡ w
    go true e = rw e
    go false e = rw e (omega (arith, ltb-false w 2147483648 e))

pub negated_size : (z : ℤ) → Negated z → neg_ℤ (pos (nat_abs z)) ≡ z
unfolding Negated
negated_size (pos zero) h = refl
negated_size (pos (suc n)) h = absurd (omega arith)
negated_size (negsuc n) h = refl

pub negated-bound : (z : ℤ) → Negated z → nat_abs z < 4294967296
unfolding Negated
negated-bound (pos n) h = omega arith
negated-bound (negsuc n) h = omega arith

pub negated_word : (w : ℕ) → w < 4294967296 → Negated (neg_ℤ (pos w))
unfolding Negated
negated_word zero h = omega arith
negated_word (suc w) h = omega arith

pub nat_abs-neg : (n : ℕ) → nat_abs (neg_ℤ (pos n)) ≡ n
nat_abs-neg zero = refl
nat_abs-neg (suc n) = refl

-- ---- loads and stores

-- seven words that agree give one height
pub same-words : (ws us : List ℕ) (i j : ℕ) → ((k : ℕ) → k < 7 → get_or ws (i + k) 0 ≡ get_or us (j + k) 0) → height_at ws i ≡ height_at us j
unfolding height_at
same-words ws us i j e =
    let e₀ : get_or ws i 0 ≡ get_or us j 0 = simp add-zero at (e 0 (omega arith)) in
    rw (e₀, e 1 (omega arith), e 2 (omega arith), e 3 (omega arith), e 4 (omega arith), e 5 (omega arith), e 6 (omega arith))

-- a height's words give it back
pub words-height : (h : Height) → mag h.delta < 2147483648 → neg_ℤ (pos (nat_abs h.pair.nlts.0)) ≡ h.pair.nlts.0
    → height_at (height_words h) 0 ≡ h
unfolding height_at height_words
words-height h hd hn = rw (signed_word h.delta hd, hn)

-- a word outside the seven is kept
pub stored-before : (ws : List ℕ) (i : ℕ) (h : Height) (j : ℕ) → j < i → get_or (stored_at ws i h) j 0 ≡ get_or ws j 0
unfolding stored_at height_words
stored-before ws i h j q = sets-before ws i (height_words h) j 0 q

pub stored_past : (ws : List ℕ) (i : ℕ) (h : Height) (j : ℕ) → i + 7 ≤ j → get_or (stored_at ws i h) j 0 ≡ get_or ws j 0
unfolding stored_at height_words
stored_past ws i h j q = sets-past ws i (height_words h) j 0 q

pub stored-length : (ws : List ℕ) (i : ℕ) (h : Height) → length (stored_at ws i h) ≡ length ws
unfolding stored_at height_words
stored-length ws i h = length-sets ws i (height_words h)

module _ (ws : List ℕ) (i : ℕ) (h : Height) where
  -- what was stored is loaded
  pub load_stored : i + 7 ≤ length ws → mag h.delta < 2147483648 → neg_ℤ (pos (nat_abs h.pair.nlts.0)) ≡ h.pair.nlts.0
      → height_at (stored_at ws i h) i ≡ h
  unfolding stored_at height_words
  load_stored f hd hn =
      same-words _ (height_words h) i 0 (λ k q. sets-in ws i (height_words h) k 0 q f ∙ ap (λ (n : ℕ). get_or (height_words h) n 0) (sym (zero-add k)))
      ∙ words-height h hd hn

  -- a place at least seven words away keeps its height
  pub load-before : (j : ℕ) → j + 7 ≤ i → height_at (stored_at ws i h) j ≡ height_at ws j
  unfolding stored_at height_words
  load-before j hj = same-words _ ws j j (λ k q. sets-before ws i (height_words h) (j + k) 0 (omega arith))

  pub load_past : (j : ℕ) → i + 7 ≤ j → height_at (stored_at ws i h) j ≡ height_at ws j
  unfolding stored_at height_words
  load_past j hj = same-words _ ws j j (λ k q. sets-past ws i (height_words h) (j + k) 0 (omega arith))
