use Prim.Native.Nat.{◌+◌, ◌*◌, ◌%◌, ◌^◌}
use native.Mathlib.Omega.{arith}
use mathlib.Core.Path.{◌≡◌, sym}
use Rattle.bits.specs.Bits.{field}
use Rattle.bits.proofs.Turns.{get-turn, field_fits, field-none}
use Rattle.bits.proofs.get_by_bytes.Goals as goal

pub loop-done-init : goal.loop-done-init
loop-done-init c = (omega arith, sym (field-none c.args.bytes.now c.args.at))

pub overflow_add-v : goal.overflow_add-v
overflow_add-v c =
    let a = c.args in
    let l = c.loop-done in
    let n = c.run-n.result in
    let e : l.v * 2 ^ n % 2 ^ 32 + c.digits-p.result ≡ field a.bytes.now a.at (l.done + n) =
    get-turn a.bytes.now a.at l.done n l.v c.digits-p.result
    (omega arith) (omega arith) (omega arith) (omega arith) l.invariant.1 c.digits-p.ensures in
    record { fits = rw e (field_fits a.bytes.now a.at (l.done + n) (omega arith) (omega arith)) }

pub loop-done-preserved : goal.loop-done-preserved
loop-done-preserved c =
    let a = c.args in
    let l = c.loop-done in
    let n = c.run-n.result in
    let e : l.v * 2 ^ n % 2 ^ 32 + c.digits-p.result ≡ field a.bytes.now a.at (l.done + n) =
    get-turn a.bytes.now a.at l.done n l.v c.digits-p.result
    (omega arith) (omega arith) (omega arith) (omega arith) l.invariant.1 c.digits-p.ensures in
    (omega arith, e)
