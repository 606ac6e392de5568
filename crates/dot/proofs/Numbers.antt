-- A number of the bench, written and read: what is read at the front of its digits is the number, where no digit follows.
use Prim.Native.Nat.{ℕ, ◌+◌, ◌-◌, ◌*◌, ◌/◌, ◌%◌, ◌≤◌, ◌<◌}
use native.Mathlib.Omega.{arith}
use mathlib.Core.Bool.{Bool, true, false, not, cond, ◌&&◌}
use mathlib.Core.List.{List, [], ◌∷◌, ◌++◌}
use mathlib.Core.Path.{◌≡◌, refl, sym, ap, ◌∙◌}
use borrow.Author.Tests.{le-leb, ne_eqb, ltb-true, ltb-false}
use lib.Dec.{eqb, ltb}
use lib.ListN.{length, get_or, take, drop}
use lib.Seq.{drop-append_seam}
use Rattle.basics.proofs.Tests.{and_both, Choice, yes!, no!, choice}
use Rattle.commands.specs.Commands.{none, is_digit, number_of}
use Rattle.text.specs.Text.{decimal}
use Rattle.text.proofs.TextLaws.{digits-one, digits_more}
use Rattle.dot.specs.Sketch.{digits_at, number_at}

pub decimal-one : (x : ℕ) → x < 10 → decimal x ≡ (48 + x) ∷ []
decimal-one x h = digits-one 9 x h

pub decimal-two : (x : ℕ) → 10 ≤ x → x < 100 → decimal x ≡ (48 + x / 10) ∷ (48 + x % 10) ∷ []
decimal-two x l h =
    let q : x / 10 < 10 = omega arith in
    digits_more 9 x l ∙ ap (λ (t : List ℕ). t ++ ((48 + x % 10) ∷ [])) (digits-one 8 (x / 10) q)

digit-is : (d : ℕ) → d < 10 → is_digit (48 + d) ≡ true
digit-is d h = and_both (le-leb 48 (48 + d) (omega arith)) (le-leb (48 + d) 57 (omega arith))

-- what is read: how many digits, and the number
pub record ReadBack (x : ℕ) (xs : List ℕ) : Type 0 where
  pub size : digits_at xs ≡ length (decimal x)
  pub number : number_at xs ≡ x

one-back : (d : ℕ) → d < 10 → (y : ℕ) (ys : List ℕ) → is_digit y ≡ false
    → (digits_at ((48 + d) ∷ y ∷ ys) ≡ 1) × (number_at ((48 + d) ∷ y ∷ ys) ≡ d)
unfolding digits_at number_at number_of
one-back d h y ys n = let e : 48 + d - 48 ≡ d = omega arith in (rw n refl, rw (n, digit-is d h) e)

two_back : (a b : ℕ) → 1 ≤ a → a < 10 → b < 10 → (ys : List ℕ)
    → (digits_at ((48 + a) ∷ (48 + b) ∷ ys) ≡ 2) × (number_at ((48 + a) ∷ (48 + b) ∷ ys) ≡ 10 * a + b)
unfolding digits_at number_at number_of
two_back a b l h k ys =
    let nought : eqb (48 + a) 48 ≡ false = ne_eqb (48 + a) 48 (λ e. omega (arith, e)) in
    let e : 10 * (48 + a - 48) + (48 + b - 48) ≡ 10 * a + b = omega arith in
    let all : (is_digit (48 + a) && is_digit (48 + b) && not (eqb (48 + a) 48)) ≡ true = and_both (and_both (digit-is a h) (digit-is b k)) (rw nought refl) in
    let two : digits_at ((48 + a) ∷ (48 + b) ∷ ys) ≡ 2 = rw (digit-is b k) refl in
    let number : number_of ((48 + a) ∷ (48 + b) ∷ []) ≡ 10 * a + b = ap (λ (t : Bool). cond t (10 * (48 + a - 48) + (48 + b - 48)) none) all ∙ e in
    (two, ap (λ (n : ℕ). number_of (take n ((48 + a) ∷ (48 + b) ∷ ys))) two ∙ number)

-- digits ds that are read as x, under the name of x's digits
renamed : (x : ℕ) (ds ys : List ℕ) → decimal x ≡ ds → digits_at (ds ++ ys) ≡ length ds → number_at (ds ++ ys) ≡ x → ReadBack x (decimal x ++ ys)
renamed x ds ys e size number = record {
  size = ap (λ (l : List ℕ). digits_at (l ++ ys)) e ∙ size ∙ ap length (sym e);
  number = ap (λ (l : List ℕ). number_at (l ++ ys)) e ∙ number;
}

pub number-back : (x : ℕ) → x < 100 → (y : ℕ) (ys : List ℕ) → is_digit y ≡ false → ReadBack x (decimal x ++ (y ∷ ys))
number-back x h y ys n = go (choice (ltb x 10))
  where
    go : Choice (ltb x 10) → ReadBack x (decimal x ++ (y ∷ ys))
    go (yes! e) =
        let l = ltb-true x 10 e in
        let r = one-back x l y ys n in
        renamed x ((48 + x) ∷ []) (y ∷ ys) (decimal-one x l) r.0 r.1
    go (no! e) =
        let l = ltb-false x 10 e in
        let r = two_back (x / 10) (x % 10) (omega arith) (omega arith) (omega arith) (y ∷ ys) in
        let whole : 10 * (x / 10) + x % 10 ≡ x = omega arith in
        renamed x ((48 + x / 10) ∷ (48 + x % 10) ∷ []) (y ∷ ys) (decimal-two x l h) r.0 (r.1 ∙ whole)

-- the byte behind the number at the front
unfoldable pub next_byte : List ℕ → ℕ
next_byte xs = get_or (drop (digits_at xs) xs) 0 0

pub next-back : (x : ℕ) → x < 100 → (y : ℕ) (ys : List ℕ) → is_digit y ≡ false → next_byte (decimal x ++ (y ∷ ys)) ≡ y
unfolding next_byte
next-back x h y ys n =
    ap (λ (k : ℕ). get_or (drop k (decimal x ++ (y ∷ ys))) 0 0) (number-back x h y ys n).size
    ∙ ap (λ (l : List ℕ). get_or l 0 0) (drop-append_seam (decimal x) (y ∷ ys))
