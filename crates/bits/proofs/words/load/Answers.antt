use Prim.Native.Nat.{◌+◌, ◌*◌}
use native.Mathlib.Omega.{arith}
use mathlib.Core.Path.{refl, sym}
use Rattle.bits.proofs.SixtyFour.{load-turn}
use Rattle.bits.proofs.Turns.{field-none}
use Rattle.bits.proofs.words.load.Goals as goal

pub loop-k-init : goal.loop-k-init
loop-k-init c = sym (field-none c.args.bytes.now (8 * c.args.i))

pub loop-k-preserved : goal.loop-k-preserved
loop-k-preserved c =
    let a = c.args in
    let l = c.loop-k in
    load-turn a.bytes.now a.i l.k l.v _ (omega arith) (omega arith) (c.type_inv.bytes (a.i + l.k)).fits l.invariant refl
