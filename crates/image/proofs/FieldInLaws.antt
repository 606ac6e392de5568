-- One field of a list of bits: the number at a place, what stands behind it, and the list as the field and the rest.
use Prim.Native.Nat.{ℕ, ◌+◌, ◌^◌, ◌≤◌, ◌<◌}
use native.Mathlib.Nat.{mod-eq_of_lt, lt_of_lt_of_le}
use native.Mathlib.Omega.{arith}
use mathlib.Core.Path.{◌≡◌, sym, ap, ap₂, ◌∙◌}
use mathlib.Core.List.{List, ◌++◌}
use lib.ListN.{length, take, drop, length-take, length-drop, take-append-drop}
use lib.Pow.{pow_mono}
use lib.Seq.{take_at, drop-drop}
use Rattle.bits.specs.Bits.{bits, number}
use Rattle.bits.proofs.Numbers.{Below, below-take, below-drop, length-bits, number-bits, bits-number, number_lt}
use Rattle.tables.proofs.RowsMore.{behind}
use Rattle.image.specs.Places.{field_in}

-- where a number of w bits stands, the field is the number
pub field-head : (l t : List ℕ) (q w v : ℕ) → v < 2 ^ w → drop q l ≡ bits w v ++ t → field_in l q w ≡ v
unfolding field_in
field-head l t q w v h e =
    ap (λ (x : List ℕ). number (take w x)) e
    ∙ ap number (take_at (bits w v) t w (length-bits w v))
    ∙ number-bits w v
    ∙ mod-eq_of_lt h

-- and behind it is what follows
pub field-behind : (l t : List ℕ) (q w v : ℕ) → drop q l ≡ bits w v ++ t → drop (q + w) l ≡ t
field-behind l t q w v e = ap (λ (x : ℕ). drop (q + x) l) (sym (length-bits w v)) ∙ behind l (bits w v) t q e

-- the list from a place on is the bits of the field there, and the rest
pub field-tail : (l : List ℕ) (q w : ℕ) → Below 2 l → q + w ≤ length l → drop q l ≡ bits w (field_in l q w) ++ drop (q + w) l
unfolding field_in
field-tail l q w b h =
    let t : List ℕ = take w (drop q l) in
    let e : length t ≡ w = simp (length-take, length-drop) (omega arith) in
    let o : bits w (number t) ≡ t =
    ap (λ (n : ℕ). bits n (number t)) (sym e) ∙ bits-number t (below-take 2 w (drop q l) (omega arith) (below-drop 2 q l b)) in
    sym (take-append-drop w (drop q l)) ∙ sym (ap₂ (λ (x y : List ℕ). x ++ y) o (sym (drop-drop w q l)))

-- a field fits its width
pub field-in-lt : (l : List ℕ) (q w : ℕ) → Below 2 l → field_in l q w < 2 ^ w
unfolding field_in
field-in-lt l q w b =
    let n : length (take w (drop q l)) ≤ w = simp length-take (omega arith) in
    lt_of_lt_of_le (number_lt (take w (drop q l)) (below-take 2 w (drop q l) (omega arith) (below-drop 2 q l b))) (pow_mono n)
