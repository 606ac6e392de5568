-- `bits::put_bytes` meets its contract: inside a byte, its bits before the place are written where they stand.
use Prim.Native.Nat.{ℕ, ◌+◌, ◌-◌, ◌*◌, ◌/◌, ◌%◌, ◌^◌, ◌<◌}
use native.Mathlib.Omega.{arith}
use mathlib.Core.Path.{◌≡◌, ap, ap₂, ◌∙◌}
use mathlib.Core.List.{List}
use lib.ListN.{get_or}
use Rattle.bits.specs.Bits.{bits}
use Rattle.bits.specs.inner.Written.{written}
use Rattle.bits.proofs.SixtyFour.{bytes-written, bytes-machine, bytes_fit}
use Rattle.bits.proofs.put_bytes.Goals as goal

pub returns-then-off-eq0 : goal.returns-then-off-eq0
returns-then-off-eq0 c =
    let a = c.args in
    let e : 8 * (a.at / 8) ≡ a.at = omega arith in
    c.store.ensures ∙ ap (λ (p : ℕ). written a.buf.now p (bits (8 * a.m) a.value)) e

pub overflow_add-before : goal.overflow_add-before
overflow_add-before c =
    let a = c.args in
    let x = get_or a.buf.now (a.at / 8) 0 in
    let h : x < 2 ^ 8 = omega arith in
    record { fits = bytes_fit x a.value (a.at % 8) a.m (omega arith) (omega arith) (omega arith) (omega arith) h c.requires.1.1 }

pub returns : goal.returns
returns c =
    let a = c.args in
    let k = a.at / 8 in
    let o = a.at % 8 in
    let b : (j : ℕ) → get_or a.buf.now j 0 < 2 ^ 8 = λ j. grind arith in
    let e = bytes-machine (get_or a.buf.now k 0) a.value o a.m (omega arith) (omega arith) (omega arith) (omega arith) (b k) c.requires.1.1 in
    let p : 8 * (k + a.m) ≡ a.at + (8 * a.m - o) = omega arith in
    c.put_first.ensures
    ∙ ap₂ (λ (l : List ℕ) (q : ℕ). written l q (bits o (a.value % 2 ^ 8)))
    (c.store-2.ensures ∙ ap (λ (x : ℕ). written a.buf.now (8 * k) (bits (8 * a.m) x)) e) p
    ∙ bytes-written a.buf.now a.at a.m a.value b (omega arith) (omega arith) c.requires.1.1
