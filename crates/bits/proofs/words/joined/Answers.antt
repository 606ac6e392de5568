-- `bits::words::joined` meets its contract: nothing is shifted out.
use Prim.Native.Nat.{ℕ, ◌+◌, ◌-◌, ◌*◌, ◌%◌, ◌^◌, ◌<◌}
use native.Mathlib.Nat.{mod-lt, lt_of_lt_of_le, le_of_eq}
use native.Mathlib.Omega.{arith}
use mathlib.Core.Path.{◌≡◌, sym, ap, ap₂, ◌∙◌}
use lib.Arith.{digits_lt}
use lib.Pow.{pow_pos, pow-add, shl_exact}
use Rattle.bits.proofs.Turns.{one_shl}
use Rattle.bits.proofs.words.joined.Goals as goal

machine : (h v w : ℕ) → w < 64 → h < 2 ^ (64 - w) → h * 2 ^ w % 2 ^ 64 + v % (1 * 2 ^ w % 2 ^ 64) ≡ h * 2 ^ w + v % 2 ^ w
machine h v w l b = ap₂ (λ (x y : ℕ). x + v % y) (shl_exact (64 - w) w 64 b (omega arith)) (one_shl w 64 l)

fits : (h v w : ℕ) → w < 64 → h < 2 ^ (64 - w) → h * 2 ^ w + v % 2 ^ w < 2 ^ 64
fits h v w l b =
    let s : 64 - w + w ≡ 64 = omega arith in
    lt_of_lt_of_le (digits_lt b (mod-lt v (pow_pos w))) (le_of_eq (sym (pow-add 2 (64 - w) w) ∙ ap (λ (k : ℕ). 2 ^ k) s))

pub nonzero_rem-result : goal.nonzero_rem-result
nonzero_rem-result c = rw (one_shl c.args.w 64 (omega arith)) (pow_pos c.args.w)

pub overflow_add-result : goal.overflow_add-result
overflow_add-result c =
    let a = c.args in
    record { fits = rw (machine a.held a.v a.w (omega arith) c.requires.1) (fits a.held a.v a.w (omega arith) c.requires.1) }

pub returns : goal.returns
returns c = machine c.args.held c.args.v c.args.w (omega arith) c.requires.1
