-- `drawing::drawing_length` meets its contract: 0, or by the digits of n.
use Prim.Native.Nat.{◌+◌, ◌-◌, ◌*◌, ◌≤◌}
use native.Mathlib.Omega.{arith}
use Rattle.drawing.proofs.Lengths.{small_product, no_length, to-sixteen, short-length, long-length}
use Rattle.drawing.proofs.drawing_length.Goals as goal

pub returns-then-n : goal.returns-then-n
returns-then-n c = no_length _ c.if-n.true

pub overflow_mul-result-then-k-lt10 : goal.overflow_mul-result-then-k-lt10
overflow_mul-result-then-k-lt10 c =
    let few : c.args.n ≤ 16 = to-sixteen _ c.if-n.false in omega (arith, small_product _ (4 * c.args.n + c.args.n) few (omega (arith, few)))

pub overflow_add-result-then-k-lt10 : goal.overflow_add-result-then-k-lt10
overflow_add-result-then-k-lt10 c =
    let few : c.args.n ≤ 16 = to-sixteen _ c.if-n.false in omega (arith, small_product _ (4 * c.args.n + c.args.n) few (omega (arith, few)))

pub returns-then-k-lt10 : goal.returns-then-k-lt10
returns-then-k-lt10 c = short-length _ c.if-n.false c.if-k-lt10.true

pub overflow_mul-result-4 : goal.overflow_mul-result-4
overflow_mul-result-4 c =
    let few : c.args.n ≤ 16 = to-sixteen _ c.if-n.false in omega
    (arith, small_product _ (4 * c.args.n + (2 * c.args.n - 9)) few (omega (arith, few)))

pub overflow_add-result-3 : goal.overflow_add-result-3
overflow_add-result-3 c =
    let few : c.args.n ≤ 16 = to-sixteen _ c.if-n.false in omega
    (arith, small_product _ (4 * c.args.n + (2 * c.args.n - 9)) few (omega (arith, few)))

pub returns : goal.returns
returns c = long-length _ c.if-n.false c.if-k-lt10.false
