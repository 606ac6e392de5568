-- What `member` reads is what `set_of` made, and a set of nodes 1 to n is told by its members. All goes by the lowest bit and the half.
use Prim.Native.Nat.{ℕ, zero, suc, ◌+◌, ◌-◌, ◌*◌, ◌/◌, ◌%◌, ◌^◌, ◌≤◌, ◌<◌, min, max}
use native.Mathlib.Omega.{arith}
use native.Mathlib.Numerals.{one-add}
use native.Mathlib.Nat.{div-eq_of_lt, le_of_lt, lt_of_le_of_lt, lt_of_not-le}
use mathlib.Core.Bool.{Bool, true, false, not, ◌&&◌, ◌||◌, true≢false}
use mathlib.Core.Path.{◌≡◌, refl, sym, ap, ap₂, ◌∙◌}
use lib.Bits.{bit_or, bit_and, or_step, and_step, and_le_l}
use lib.Count.{ones, ones_step}
use lib.Dec.{eqb, leb}
use lib.Pow.{pow_mono, pow_pos, shr-shr}
use borrow.Author.Tests.{ltb-true, lt-ltb, leb-true, leb-false, eqb-true, eqb-false, eq-eqb, ne_eqb}
use Rattle.nodeset.specs.NodeSet.{member, digit, set_of, within, same_node, apart}
use Rattle.nodeset.specs.inner.Operations.{size_of}

-- ---- the lowest bit is node 1, and the half has the others, one lower

pub member-zero : (s : ℕ) → member s 0 ≡ false
unfolding member
member-zero s = refl

pub member-one : (s : ℕ) → member s 1 ≡ eqb (s % 2) 1
unfolding member
member-one s = let e : s / 1 % 2 ≡ s % 2 = omega arith in ap (λ (x : ℕ). eqb x 1) e

pub member-half : (s k : ℕ) → 1 ≤ k → member s (suc k) ≡ member (s / 2) k
unfolding member
member-half s zero l = absurd (omega arith)
member-half s (suc k) l =
    ap (λ (x : ℕ). eqb (s / 2 ^ x % 2) 1) (sym (one-add k)) ∙ ap (λ (x : ℕ). eqb (x % 2) 1) (sym (shr-shr s 1 k))

digit_low : (b : Bool) (w : ℕ) → eqb ((digit b + 2 * w) % 2) 1 ≡ b
digit_low true w = eq-eqb ((1 + 2 * w) % 2) 1 (omega arith)
digit_low false w = ne_eqb ((0 + 2 * w) % 2) 1 (λ e. omega arith)

digit-half : (b : Bool) (w : ℕ) → (digit b + 2 * w) / 2 ≡ w
digit-half true w = omega arith
digit-half false w = omega arith

digit-of : (s : ℕ) → digit (member s 1) ≡ s % 2
digit-of s = ap digit (member-one s) ∙ go (s % 2) (omega arith)
  where
    go : (x : ℕ) → x < 2 → digit (eqb x 1) ≡ x
    go zero l = refl
    go (suc zero) l = refl
    go (suc (suc x)) l = absurd (omega arith)

-- ---- member and set_of

pub member-set_of : (n : ℕ) (f : ℕ → Bool) (k : ℕ) → 1 ≤ k → k ≤ n → member (set_of n f) k ≡ f k
unfolding set_of
member-set_of zero f k l h = absurd (omega arith)
member-set_of (suc n) f zero l h = absurd (omega arith)
member-set_of (suc n) f (suc zero) l h = member-one _ ∙ digit_low (f 1) (set_of n (λ k. f (suc k)))
member-set_of (suc n) f (suc (suc k)) l h =
    member-half _ (suc k) (omega arith) ∙ ap (λ (x : ℕ). member x (suc k)) (digit-half (f 1) (set_of n (λ k. f (suc k))))
    ∙ member-set_of n (λ k. f (suc k)) (suc k) (omega arith) (omega arith)

pub set_of-ext : (n : ℕ) (f g : ℕ → Bool) → ((k : ℕ) → 1 ≤ k → k ≤ n → f k ≡ g k) → set_of n f ≡ set_of n g
unfolding set_of
set_of-ext zero f g h = refl
set_of-ext (suc n) f g h =
    ap₂ (λ (b : Bool) (x : ℕ). digit b + 2 * x) (h 1 (omega arith) (omega arith))
    (set_of-ext n (λ k. f (suc k)) (λ k. g (suc k)) (λ k l u. h (suc k) (omega arith) (omega arith)))

pub set_of-member : (n s : ℕ) → s < 2 ^ n → set_of n (member s) ≡ s
unfolding set_of
set_of-member zero s h = omega arith
set_of-member (suc n) s h =
    let rest : set_of n (λ k. member s (suc k)) ≡ set_of n (member (s / 2)) = set_of-ext n _ _ (λ k l u. member-half s k l) in
    let ih : set_of n (member (s / 2)) ≡ s / 2 = set_of-member n (s / 2) (omega arith) in
    omega (arith, rest, digit-of s)

pub set_of-lt : (n : ℕ) (f : ℕ → Bool) → set_of n f < 2 ^ n
unfolding set_of
set_of-lt zero f = omega arith
set_of-lt (suc n) f = go (f 1) (set_of-lt n (λ k. f (suc k)))
  where
    go : (b : Bool) → set_of n (λ k. f (suc k)) < 2 ^ n → digit b + 2 * set_of n (λ k. f (suc k)) < 2 ^ suc n
    go true h = omega arith
    go false h = omega arith

pub set_of-none : (n : ℕ) (f : ℕ → Bool) → ((k : ℕ) → 1 ≤ k → k ≤ n → f k ≡ false) → set_of n f ≡ 0
unfolding set_of
set_of-none zero f h = refl
set_of-none (suc n) f h =
    omega (arith, ap digit (h 1 (omega arith) (omega arith)), set_of-none n (λ k. f (suc k)) (λ k l u. h (suc k) (omega arith) (omega arith)))

pub set_of-more : (n m : ℕ) (f : ℕ → Bool) → n ≤ m → ((k : ℕ) → n < k → f k ≡ false) → set_of m f ≡ set_of n f
unfolding set_of
set_of-more zero m f l h = set_of-none m f (λ k p u. h k (omega arith))
set_of-more (suc n) zero f l h = absurd (omega arith)
set_of-more (suc n) (suc m) f l h =
    ap (λ (x : ℕ). digit (f 1) + 2 * x) (set_of-more n m (λ k. f (suc k)) (omega arith) (λ k u. h (suc k) (omega arith)))

ones-digit : (b : Bool) (w : ℕ) → ones (digit b + 2 * w) ≡ digit b + ones w
ones-digit true w = ones_step (1 + 2 * w) ∙ rw (digit-half true w) (omega arith)
ones-digit false w = ones_step (0 + 2 * w) ∙ rw (digit-half false w) (omega arith)

pub ones-set_of : (n : ℕ) (f : ℕ → Bool) → ones (set_of n f) ≡ size_of n f
unfolding set_of size_of ones
ones-set_of zero f = refl
ones-set_of (suc n) f = ones-digit (f 1) (set_of n (λ k. f (suc k))) ∙ ap (λ (x : ℕ). digit (f 1) + x) (ones-set_of n (λ k. f (suc k)))

pub size_of-ext : (n : ℕ) (f g : ℕ → Bool) → ((k : ℕ) → 1 ≤ k → k ≤ n → f k ≡ g k) → size_of n f ≡ size_of n g
size_of-ext n f g h = sym (ones-set_of n f) ∙ ap ones (set_of-ext n f g h) ∙ ones-set_of n g

-- ---- sets of nodes 1 to n

pub none_above : (n s k : ℕ) → s < 2 ^ n → n < k → member s k ≡ false
unfolding member
none_above n s zero h l = refl
none_above n s (suc k) h l =
    let g : s < 2 ^ k = omega (arith, pow_mono {i = n} {j = k} (omega arith)) in
    ap (λ (x : ℕ). eqb (x % 2) 1) (div-eq_of_lt g)

pub none-in-zero : (k : ℕ) → member 0 k ≡ false
unfolding member
none-in-zero zero = refl
none-in-zero (suc k) = none_above 0 0 (suc k) (omega arith) (omega arith)

-- a member is a node of 1 to n
pub member-range : (n s k : ℕ) → s < 2 ^ n → member s k ≡ true → (1 ≤ k) × (k ≤ n)
unfolding member
member-range n s zero h m = absurd (true≢false (sym m))
member-range n s (suc k) h m =
    let u : suc k < suc n = lt_of_not-le (λ (l : n < suc k). true≢false (sym m ∙ none_above n s (suc k) h l)) in
    (omega arith, omega arith)

-- a set is told by its members
pub set_is : (n s : ℕ) (f : ℕ → Bool) → s < 2 ^ n → ((k : ℕ) → 1 ≤ k → k ≤ n → member s k ≡ f k) → s ≡ set_of n f
set_is n s f l h = sym (set_of-member n s l) ∙ set_of-ext n (member s) f h

pub same-members : (n a b : ℕ) → a < 2 ^ n → b < 2 ^ n → ((k : ℕ) → 1 ≤ k → k ≤ n → member a k ≡ member b k) → a ≡ b
same-members n a b p q h = set_is n a (member b) p h ∙ set_of-member n b q

-- where the test fails outside 1 to n
pub member-set_of-all : (n : ℕ) (f : ℕ → Bool) → f 0 ≡ false → ((j : ℕ) → n < j → f j ≡ false) → (k : ℕ) → member (set_of n f) k ≡ f k
unfolding member
member-set_of-all n f z h zero = sym z
member-set_of-all n f z h (suc k) = go (leb (suc k) n) refl
  where
    go : (b : Bool) → leb (suc k) n ≡ b → member (set_of n f) (suc k) ≡ f (suc k)
    go true e = member-set_of n f (suc k) (omega arith) (leb-true (suc k) n e)
    go false e = let l = leb-false (suc k) n e in none_above n (set_of n f) (suc k) (set_of-lt n f) l ∙ sym (h (suc k) l)

pub set_of-within : (n m : ℕ) (f : ℕ → Bool) → ((k : ℕ) → n < k → f k ≡ false) → set_of m f < 2 ^ n
set_of-within n m f h = go (leb n m) refl
  where
    go : (b : Bool) → leb n m ≡ b → set_of m f < 2 ^ n
    go true e = omega (arith, set_of-lt n f, set_of-more n m f (leb-true n m e) h)
    go false e = omega (arith, set_of-lt m f, pow_mono (le_of_lt (leb-false n m e)))

-- a test that passes node k + 1 besides
pub one_more : (n k : ℕ) (f g : ℕ → Bool) → k < n → f (suc k) ≡ false → g (suc k) ≡ true
    → ((j : ℕ) → (j ≡ suc k → ⊥) → g j ≡ f j) → (set_of n g ≡ set_of n f + 2 ^ k) × (size_of n g ≡ size_of n f + 1)
unfolding set_of size_of
one_more zero k f g l p q h = absurd (omega arith)
one_more (suc n) zero f g l p q h =
    let same : (j : ℕ) → 1 ≤ j → j ≤ n → g (suc j) ≡ f (suc j) = λ j a b. h (suc j) (omega arith) in
    let s = set_of-ext n (λ j. g (suc j)) (λ j. f (suc j)) same in
    let c = size_of-ext n (λ j. g (suc j)) (λ j. f (suc j)) same in
    (omega (arith, ap digit p, ap digit q), omega (arith, ap digit p, ap digit q))
one_more (suc n) (suc k) f g l p q h =
    let ih = one_more n k (λ j. f (suc j)) (λ j. g (suc j)) (omega arith) p q (λ j e. h (suc j) (omega arith)) in
    let d = ap digit (h 1 (omega arith)) in
    (omega arith, omega arith)

-- ---- operations that work bit by bit

-- of any two bits, by cases
each-bit : (P : ℕ → ℕ → Type 0) → P 0 0 → P 0 1 → P 1 0 → P 1 1 → (a b : ℕ) → P (a % 2) (b % 2)
each-bit P p q r s a b = go (a % 2) (b % 2) (omega arith) (omega arith)
  where
    go : (x y : ℕ) → x < 2 → y < 2 → P x y
    go zero zero l h = p
    go zero (suc zero) l h = q
    go (suc zero) zero l h = r
    go (suc zero) (suc zero) l h = s
    go zero (suc (suc y)) l h = absurd (omega arith)
    go (suc zero) (suc (suc y)) l h = absurd (omega arith)
    go (suc (suc x)) y l h = absurd (omega arith)

module _ (op low : ℕ → ℕ → ℕ) (test : Bool → Bool → Bool) (none : test false false ≡ false)
    (lows : (a b : ℕ) → eqb (low (a % 2) (b % 2)) 1 ≡ test (eqb (a % 2) 1) (eqb (b % 2) 1))
    (step : (a b : ℕ) → (op a b / 2 ≡ op (a / 2) (b / 2)) × (op a b % 2 ≡ low (a % 2) (b % 2))) where
  member-bitwise : (a b k : ℕ) → member (op a b) k ≡ test (member a k) (member b k)
  unfolding member
  member-bitwise a b zero = sym none
  member-bitwise a b (suc zero) =
      member-one (op a b) ∙ ap (λ (x : ℕ). eqb x 1) (step a b).1 ∙ lows a b ∙ sym (ap₂ test (member-one a) (member-one b))
  member-bitwise a b (suc (suc k)) =
      let l : 1 ≤ suc k = omega arith in
      member-half (op a b) (suc k) l ∙ ap (λ (x : ℕ). member x (suc k)) (step a b).0
      ∙ member-bitwise (a / 2) (b / 2) (suc k) ∙ sym (ap₂ test (member-half a (suc k) l) (member-half b (suc k) l))

pub member-or : (a b k : ℕ) → member (bit_or a b) k ≡ (member a k || member b k)
member-or =
    member-bitwise bit_or max ◌||◌ refl (each-bit (λ x y. eqb (max x y) 1 ≡ (eqb x 1 || eqb y 1)) refl refl refl refl)
    (λ a b. let e = or_step a b in (omega arith, omega arith))

pub member-and : (a b k : ℕ) → member (bit_and a b) k ≡ (member a k && member b k)
member-and =
    member-bitwise bit_and min ◌&&◌ refl (each-bit (λ x y. eqb (min x y) 1 ≡ (eqb x 1 && eqb y 1)) refl refl refl refl)
    (λ a b. let e = and_step a b in (omega arith, omega arith))

-- a without what it shares with b
pub member-minus : (a b k : ℕ) → member (a - bit_and a b) k ≡ (member a k && not (member b k))
member-minus =
    member-bitwise (λ a b. a - bit_and a b) (λ x y. x - min x y) (λ p q. p && not q) refl
    (each-bit (λ x y. eqb (x - min x y) 1 ≡ (eqb x 1 && not (eqb y 1))) refl refl refl refl)
    (λ a b. let e = and_step a b in let l = and_le_l (a / 2) (b / 2) in (omega arith, omega arith))

-- ---- within and apart

pub within-true : (n s : ℕ) → within n s ≡ true → s < 2 ^ n
unfolding within
within-true n s h = ltb-true s (2 ^ n) h

pub lt-within : (n s : ℕ) → s < 2 ^ n → within n s ≡ true
unfolding within
lt-within n s h = lt-ltb s (2 ^ n) h

pub apart-at : (n : ℕ) (f g : ℕ → Bool) → apart n f g ≡ true → (k : ℕ) → 1 ≤ k → k ≤ n → (f k && g k) ≡ false
unfolding apart
apart-at zero f g h k l u = absurd (omega arith)
apart-at (suc n) f g h k l u = go (eqb k (suc n)) refl (f (suc n) && g (suc n)) refl h (λ e v. apart-at n f g e k l v)
  where
    go : (b : Bool) → eqb k (suc n) ≡ b → (t : Bool) → (f (suc n) && g (suc n)) ≡ t → (not t && apart n f g) ≡ true
        → (apart n f g ≡ true → k ≤ n → (f k && g k) ≡ false) → (f k && g k) ≡ false
    go b q true e h rest = absurd (true≢false (sym h))
    go true q false e h rest = ap (λ (x : ℕ). f x && g x) (eqb-true k (suc n) q) ∙ e
    go false q false e h rest = let ne = eqb-false k (suc n) q in rest h (omega arith)

pub at-apart : (n : ℕ) (f g : ℕ → Bool) → ((k : ℕ) → 1 ≤ k → k ≤ n → (f k && g k) ≡ false) → apart n f g ≡ true
unfolding apart
at-apart zero f g h = refl
at-apart (suc n) f g h =
    ap₂ (λ (a b : Bool). not a && b) (h (suc n) (omega arith) (omega arith)) (at-apart n f g (λ k l u. h k l (omega arith)))

-- the shared part is empty exactly where the two are apart
pub and-apart : (n a b : ℕ) → a < 2 ^ n → eqb (bit_and a b) 0 ≡ apart n (member a) (member b)
and-apart n a b l = go (apart n (member a) (member b)) refl
  where
    go : (t : Bool) → apart n (member a) (member b) ≡ t → eqb (bit_and a b) 0 ≡ t
    go true e =
        eq-eqb (bit_and a b) 0 (same-members n (bit_and a b) 0 (lt_of_le_of_lt (and_le_l a b) l) (pow_pos n)
        (λ k p u. member-and a b k ∙ apart-at n (member a) (member b) e k p u ∙ sym (none-in-zero k)))
    go false e =
        ne_eqb (bit_and a b) 0 (λ q. true≢false (sym (at-apart n (member a) (member b)
        (λ k p u. sym (member-and a b k) ∙ ap (λ (x : ℕ). member x k) q ∙ none-in-zero k)) ∙ e))

-- ---- one node alone

pub is_same : (k j : ℕ) → j ≡ k → same_node k j ≡ true
unfolding same_node
is_same k j e = eq-eqb j k e

pub same-is : (k j : ℕ) → same_node k j ≡ true → j ≡ k
unfolding same_node
same-is k j e = eqb-true j k e

pub not_same : (k j : ℕ) → (j ≡ k → ⊥) → same_node k j ≡ false
unfolding same_node
not_same k j d = ne_eqb j k d
