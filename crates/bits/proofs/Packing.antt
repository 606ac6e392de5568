-- Fields packed into numbers of 64 bits, and these put at a bit place: what a turn of each loop does, over every list of widths.
use Prim.Native.Nat.{ℕ, zero, suc, ◌+◌, ◌-◌, ◌*◌, ◌/◌, ◌%◌, ◌^◌, ◌≤◌, ◌<◌}
use native.Mathlib.Nat.{mod-lt, lt_of_lt_of_le, le_of_eq}
use native.Mathlib.Numerals.{add-one}
use native.Mathlib.Omega.{arith}
use mathlib.Core.Path.{◌≡◌, refl, sym, ap, ap₂, subst, ◌∙◌}
use mathlib.Core.List.{List, ◌++◌, append_assoc}
use lib.ListN.{length, take, get_or, set, length-append, length-set}
use lib.Pow.{pow_pos, pow-add}
use lib.Seq.{take_all, get_or-set_same, get_or-set_other}
use lib.Arith.{digits_lt}
use Rattle.bits.specs.Bits.{bits, total, spread}
use Rattle.bits.specs.inner.Written.{written, word_bits}
use Rattle.bits.proofs.Bytes.{written-written}
use Rattle.bits.proofs.Fields.{total-more, spread-more}
use Rattle.bits.proofs.Numbers.{Below, below-nil, below-append, length-bits, below-bits}
use Rattle.bits.proofs.Seeing.{total-narrow}
use Rattle.bits.proofs.SixtyFour.{joins, fills}

-- ---- numbers of 64 bits

pub length-words : (j : ℕ) (xs : List ℕ) → length (word_bits j xs) ≡ 64 * j
unfolding word_bits
length-words zero xs = refl
length-words (suc j) xs =
    length-append (word_bits j xs) (bits 64 (get_or xs j 0)) ∙ omega (arith, length-words j xs, length-bits 64 (get_or xs j 0))

pub below-words : (j : ℕ) (xs : List ℕ) → Below 2 (word_bits j xs)
unfolding word_bits
below-words zero xs = below-nil 2 (omega arith)
below-words (suc j) xs = below-append 2 (word_bits j xs) (bits 64 (get_or xs j 0)) (below-words j xs) (below-bits 64 (get_or xs j 0))

-- a number behind the first j does not count among them
words-set : (j i : ℕ) (xs : List ℕ) (y : ℕ) → j ≤ i → word_bits j (set xs i y) ≡ word_bits j xs
unfolding word_bits
words-set zero i xs y h = refl
words-set (suc j) i xs y h =
    ap₂ (λ (a : List ℕ) (b : ℕ). a ++ bits 64 b) (words-set j i xs y (omega arith)) (get_or-set_other xs i j y 0 (omega arith))

words_more : (j : ℕ) (xs : List ℕ) (y : ℕ) → j < length xs → word_bits (j + 1) (set xs j y) ≡ word_bits j xs ++ bits 64 y
unfolding word_bits
words_more j xs y h =
    ap (λ (n : ℕ). word_bits n (set xs j y)) (add-one j)
    ∙ ap₂ (λ (a : List ℕ) (b : ℕ). a ++ bits 64 b) (words-set j j xs y (omega arith)) (get_or-set_same xs j y 0 h)

-- ---- packing: k fields are taken in; they fill j numbers, and c bits are held
pub record Packing (ws vs full : List ℕ) (held c j k : ℕ) : Type 0 where
  pub inside : k ≤ length ws
  pub few : c < 64
  pub small : held < 2 ^ c
  pub size : length full ≡ 4
  pub sum : 64 * j + c ≡ total (take k ws)
  pub packed : spread (take k ws) (take k vs) ≡ word_bits j full ++ bits c held

pub packing-start : (ws vs full : List ℕ) → length full ≡ 4 → Packing ws vs full 0 0 0 0
unfolding word_bits bits spread total
packing-start ws vs full e =
    record { inside = omega arith; few = omega arith; small = omega arith; size = e; sum = omega arith; packed = refl }

module _ {ws vs full : List ℕ} {held c j k w v : ℕ} (inv : Packing ws vs full held c j k) (narrow : (i : ℕ) → get_or ws i 0 ≤ 32)
    (e : length ws ≡ length vs) (short : length ws ≤ 8) (h : k < length ws) (ew : w ≡ get_or ws k 0) (ev : v ≡ get_or vs k 0) where
  pub packing-narrow : w ≤ 32
  packing-narrow = omega (arith, narrow k)

  -- a full number has its place among four
  pub packing-room : 64 ≤ c + w → j < 4
  packing-room f = omega (arith, inv.sum, total-more ws k h, total-narrow ws (k + 1) narrow)

  next : spread (take (k + 1) ws) (take (k + 1) vs) ≡ word_bits j full ++ (bits c held ++ bits w v)
  next =
      spread-more ws vs k h e ∙ ap₂ (λ (a : List ℕ) (b : List ℕ). a ++ b) inv.packed (sym (ap₂ bits ew ev))
      ∙ append_assoc (word_bits j full) (bits c held) (bits w v)

  pub packing-more : c + w < 64 → Packing ws vs full (held * 2 ^ w + v % 2 ^ w) (c + w) j (k + 1)
  packing-more f = record {
    inside = omega arith;
    few = f;
    small = lt_of_lt_of_le (digits_lt inv.small (mod-lt v (pow_pos w))) (le_of_eq (sym (pow-add 2 c w)));
    size = inv.size;
    sum = omega (arith, inv.sum, total-more ws k h);
    packed = next ∙ ap (λ (t : List ℕ). word_bits j full ++ t) (joins c w held v);
  }

  pub packing-full : (r : ℕ) → c + w ≡ 64 + r → r ≤ w
      → Packing ws vs (set full j (held * 2 ^ (w - r) + v / 2 ^ r % 2 ^ (w - r))) (v % 2 ^ r) r (j + 1) (k + 1)
  packing-full r s f =
      let x : ℕ = held * 2 ^ (w - r) + v / 2 ^ r % 2 ^ (w - r) in
      let low : List ℕ = bits r (v % 2 ^ r) in
      record {
        inside = omega arith;
        few = omega (arith, inv.few, narrow k);
        small = mod-lt v (pow_pos r);
        size = length-set full j x ∙ inv.size;
        sum = omega (arith, inv.sum, total-more ws k h);
        packed = next ∙ ap (λ (t : List ℕ). word_bits j full ++ t) (fills c w r held v s f)
            ∙ sym (append_assoc (word_bits j full) (bits 64 x) low)
            ∙ sym (ap (λ (t : List ℕ). t ++ low) (words_more j full x (omega (arith, inv.size, packing-room (omega arith)))));
      }

-- the same with the numbers that the loop has
pub packing-as : {ws vs full full' : List ℕ} {held held' c c' j j' k : ℕ} → Packing ws vs full held c j k
    → full' ≡ full → held' ≡ held → c' ≡ c → j' ≡ j → Packing ws vs full' held' c' j' k
packing-as {ws = ws} {vs = vs} {full = full} {held = held} {held' = held'} {c = c} {c' = c'} {j' = j'} {k = k} inv ef eh ec ej =
    subst (λ (x : List ℕ). Packing ws vs x held' c' j' k) (sym ef)
    (subst (λ (x : ℕ). Packing ws vs full x c' j' k) (sym eh)
    (subst (λ (x : ℕ). Packing ws vs full held x j' k) (sym ec)
    (subst (λ (x : ℕ). Packing ws vs full held c x k) (sym ej) inv)))

-- eight fields fill at most four numbers
pub packing-few : {ws vs full : List ℕ} {held c j k : ℕ} → Packing ws vs full held c j k → ((i : ℕ) → get_or ws i 0 ≤ 32) → length ws ≤ 8 → j ≤ 4
packing-few {ws = ws} {k = k} inv narrow short = omega (arith, inv.sum, inv.inside, total-narrow ws k narrow)

pub packing-all : {ws vs full : List ℕ} {held c j k : ℕ} → Packing ws vs full held c j k → length ws ≡ length vs → length ws ≤ k
    → (spread ws vs ≡ word_bits j full ++ bits c held) × (64 * j + c ≡ total ws)
packing-all {ws = ws} {vs = vs} {k = k} inv e h =
    let a : take k ws ≡ ws = take_all k ws h in
    (sym (ap₂ spread a (take_all k vs (omega arith))) ∙ inv.packed, inv.sum ∙ ap total a)

-- ---- putting: the first j numbers are put
pub put_word : (xs ys : List ℕ) (at : ℕ) (full : List ℕ) (j : ℕ) → at + (64 * j + 64) ≤ 8 * length xs → ys ≡ written xs at (word_bits j full)
    → written ys (at + 64 * j) (bits 64 (get_or full j 0)) ≡ written xs at (word_bits (j + 1) full)
unfolding word_bits
put_word xs ys at full j h e =
    ap (λ (l : List ℕ). written l (at + 64 * j) (bits 64 (get_or full j 0))) e
    ∙ written-written xs at (word_bits j full) (bits 64 (get_or full j 0)) (at + 64 * j) (below-words j full)
    (ap (λ (n : ℕ). at + n) (sym (length-words j full))) (omega (arith, length-bits 64 (get_or full j 0)))
    ∙ ap (λ (n : ℕ). written xs at (word_bits n full)) (sym (add-one j))

pub put_rest : (xs ys : List ℕ) (at : ℕ) (full : List ℕ) (j c held : ℕ) → at + (64 * j + c) ≤ 8 * length xs → ys ≡ written xs at (word_bits j full)
    → written ys (at + 64 * j) (bits c held) ≡ written xs at (word_bits j full ++ bits c held)
put_rest xs ys at full j c held h e =
    ap (λ (l : List ℕ). written l (at + 64 * j) (bits c held)) e
    ∙ written-written xs at (word_bits j full) (bits c held) (at + 64 * j) (below-words j full)
    (ap (λ (n : ℕ). at + n) (sym (length-words j full))) (omega (arith, length-bits c held))
