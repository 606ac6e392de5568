-- Laws of text: pouring part by part, what poured bytes leave of those lent, and decimal numbers digit by digit.
use Prim.Native.Nat.{ℕ, zero, suc, ◌+◌, ◌/◌, ◌%◌, ◌^◌, ◌≤◌, ◌<◌}
use native.Mathlib.Nat.{add-zero, mod-eq_of_lt}
use native.Mathlib.Numerals.{add-one}
use native.Mathlib.Omega.{arith}
use mathlib.Core.Path.{◌≡◌, refl, sym, ap, ap₂, ◌∙◌}
use mathlib.Core.Bool.{Bool, true, false, cond}
use mathlib.Core.List.{List, [], ◌∷◌, ◌++◌}
use lib.Dec.{ltb}
use borrow.Author.Tests.{lt-ltb, le-ltb, ltb-true, ltb-false}
use lib.ListN.{length, take, drop, get_or, set, length-append, length-set, length-take}
use lib.Seq.{take-suc}
use Rattle.text.specs.Text.{digits, decimal}
use Rattle.text.specs.inner.Poured.{poured}

-- ---- pouring
-- two parts are poured one after the other
pub poured-append : (out : List ℕ) (at : ℕ) (a b : List ℕ) → poured out at (a ++ b) ≡ poured (poured out at a) (at + length a) b
unfolding poured
poured-append out at [] b = rw add-zero refl
poured-append out at (x ∷ a) b =
    let e : suc at + length a ≡ at + suc (length a) = omega arith in
    poured-append (set out at x) (suc at) a b ∙ ap (λ (n : ℕ). poured (poured (set out at x) (suc at) a) n b) e

-- no byte is added and none is lost
pub length-poured : (out : List ℕ) (at : ℕ) (bs : List ℕ) → length (poured out at bs) ≡ length out
unfolding poured
length-poured out at [] = refl
length-poured out at (b ∷ bs) = length-poured (set out at b) (suc at) bs ∙ length-set out at b

-- behind the first byte only the others change
poured-suc : (x : ℕ) (out : List ℕ) (at : ℕ) (bs : List ℕ) → poured (x ∷ out) (suc at) bs ≡ x ∷ poured out at bs
unfolding poured
poured-suc x out at [] = refl
poured-suc x out at (b ∷ bs) = poured-suc x (set out at b) (suc at) bs

-- what fits stands at the front, and the bytes behind it stay
pub poured-all : (out bs : List ℕ) → length bs ≤ length out → poured out 0 bs ≡ bs ++ drop (length bs) out
unfolding poured
poured-all out [] h = refl
poured-all [] (b ∷ bs) h = absurd (omega arith)
poured-all (x ∷ out) (b ∷ bs) h = poured-suc b out 0 bs ∙ ap (λ (l : List ℕ). b ∷ l) (poured-all out bs (omega arith))

-- with no bytes lent nothing is written
pub poured-none : (at : ℕ) (bs : List ℕ) → poured [] at bs ≡ []
unfolding poured
poured-none at [] = refl
poured-none at (b ∷ bs) = poured-none (suc at) bs

-- ---- decimal numbers
-- the digits of a number of one digit, and of more
pub digits-one : (k x : ℕ) → x < 10 → digits (suc k) x ≡ (48 + x) ∷ []
unfolding digits
digits-one k x h = rw (lt-ltb x 10 h)

pub digits_more : (k x : ℕ) → 10 ≤ x → digits (suc k) x ≡ digits k (x / 10) ++ ((48 + x % 10) ∷ [])
unfolding digits
digits_more k x h = rw (le-ltb x 10 h)

-- a number has one digit or more
one_or_more : (C : Type 0) (x : ℕ) → (x < 10 → C) → (10 ≤ x → C) → C
one_or_more C x one more = go (ltb x 10) refl
  where
    go : (t : Bool) → ltb x 10 ≡ t → C
    go true e = one (ltb-true x 10 e)
    go false e = more (ltb-false x 10 e)

-- where k + 1 digits are enough, one more makes no difference
digits-room : (k x : ℕ) → x < 10 ^ suc k → digits (suc (suc k)) x ≡ digits (suc k) x
digits-room zero x h =
    let i : x < 10 = omega arith in
    digits-one 1 x i ∙ sym (digits-one 0 x i)
digits-room (suc k) x h =
    one_or_more (digits (suc (suc (suc k))) x ≡ digits (suc (suc k)) x) x
    (λ i. digits-one (suc (suc k)) x i ∙ sym (digits-one (suc k) x i))
    (λ i. let q : x / 10 < 10 ^ suc k = omega arith in
    digits_more (suc (suc k)) x i ∙ ap (λ (l : List ℕ). l ++ ((48 + x % 10) ∷ [])) (digits-room k (x / 10) q) ∙ sym (digits_more (suc k) x i))

-- the digits before the last: none, or those of a tenth
unfoldable pub front : ℕ → List ℕ
front x = cond (ltb x 10) [] (decimal (x / 10))

front-one : (x : ℕ) → x < 10 → front x ≡ []
unfolding front
front-one x h = rw (lt-ltb x 10 h)

front-more : (x : ℕ) → 10 ≤ x → front x ≡ decimal (x / 10)
unfolding front
front-more x h = rw (le-ltb x 10 h)

-- a number of 32 bits is its digits before the last, and its last
pub decimal-last : (x : ℕ) → x < 2 ^ 32 → decimal x ≡ front x ++ ((48 + x % 10) ∷ [])
decimal-last x b =
    one_or_more (decimal x ≡ front x ++ ((48 + x % 10) ∷ [])) x
    (λ i. digits-one 9 x i ∙ sym (ap₂ (λ (l : List ℕ) (y : ℕ). l ++ ((48 + y) ∷ [])) (front-one x i) (mod-eq_of_lt i)))
    (λ i. let q : x / 10 < 10 ^ 9 = omega arith in
    digits_more 9 x i ∙ sym (ap (λ (l : List ℕ). l ++ ((48 + x % 10) ∷ [])) (front-more x i ∙ digits-room 8 (x / 10) q)))

-- a number has no more digits than there is room for
length-digits-le : (k x : ℕ) → length (digits k x) ≤ k
unfolding digits
length-digits-le zero x = omega arith
length-digits-le (suc k) x =
    one_or_more (length (digits (suc k) x) ≤ suc k) x
    (λ i. rw (digits-one k x i) (omega arith))
    (λ i. rw (digits_more k x i) (simp length-append (omega (arith, length-digits-le k (x / 10)))))

pub length-decimal-le : (x : ℕ) → length (decimal x) ≤ 10
length-decimal-le x = length-digits-le 10 x

-- a number and the byte behind it are at most eleven bytes
pub number-le : (x e : ℕ) → length (decimal x ++ (e ∷ [])) ≤ 11
number-le x e = omega (arith, length-append (decimal x) (e ∷ []), length-decimal-le x)

pub length-front-le : (x : ℕ) → length (front x) ≤ 10
length-front-le x =
    one_or_more (length (front x) ≤ 10) x
    (λ i. rw (front-one x i) (omega arith))
    (λ i. rw (front-more x i) (length-decimal-le (x / 10)))

-- ---- steps of the code
-- put_bytes: behind the first k bytes goes the next
pub put-turn : (out₀ out : List ℕ) (at : ℕ) (bs : List ℕ) (offset k : ℕ) → k < length bs → offset ≡ at + k → out ≡ poured out₀ at (take k bs)
    → poured out offset (get_or bs k 0 ∷ []) ≡ poured out₀ at (take (k + 1) bs)
put-turn out₀ out at bs offset k h e o =
    let n : offset ≡ at + length (take k bs) = simp length-take (omega arith) in
    ap₂ (λ (l : List ℕ) (p : ℕ). poured l p (get_or bs k 0 ∷ [])) o n
    ∙ sym (poured-append out₀ at (take k bs) (get_or bs k 0 ∷ []))
    ∙ sym (ap (poured out₀ at) (rw (add-one, take-suc bs k 0)))

-- put_decimal: the digits before the last, where there are any, and the last behind them
pub put-no-front : (out₀ : List ℕ) (at x : ℕ) (out : List ℕ) (offset : ℕ) → x < 10 → out ≡ out₀ → offset ≡ at
    → (out ≡ poured out₀ at (front x)) × (offset ≡ at + length (front x))
unfolding poured
put-no-front out₀ at x out offset h o p = rw (front-one x h) (o, omega arith)

pub put_front : (out₀ : List ℕ) (at x : ℕ) (out : List ℕ) (offset : ℕ) → 10 ≤ x
    → out ≡ poured out₀ at (decimal (x / 10)) → offset ≡ at + length (decimal (x / 10))
    → (out ≡ poured out₀ at (front x)) × (offset ≡ at + length (front x))
put_front out₀ at x out offset h o p = rw (front-more x h) (o, p)

pub put_last : (out₀ : List ℕ) (at x : ℕ) (out : List ℕ) (offset : ℕ) (done : List ℕ) (r : ℕ) → x < 2 ^ 32
    → out ≡ poured out₀ at (front x) → offset ≡ at + length (front x)
    → done ≡ poured out offset ((48 + x % 10) ∷ []) → r ≡ offset + 1
    → (done ≡ poured out₀ at (decimal x)) × (r ≡ at + length (decimal x))
put_last out₀ at x out offset done r b o p d e =
    let q : done ≡ poured out₀ at (front x ++ ((48 + x % 10) ∷ [])) =
    d
    ∙ ap₂ (λ (l : List ℕ) (n : ℕ). poured l n ((48 + x % 10) ∷ [])) o p
    ∙ sym (poured-append out₀ at (front x) ((48 + x % 10) ∷ [])) in
    rw (decimal-last x b) (q, simp length-append (omega arith))
