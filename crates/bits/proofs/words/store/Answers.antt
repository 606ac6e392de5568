use Prim.Native.Nat.{◌+◌, ◌*◌}
use native.Mathlib.Omega.{arith}
use mathlib.Core.Path.{refl, ◌∙◌}
use lib.ListN.{length-set}
use Rattle.bits.proofs.Numbers.{below_set}
use Rattle.bits.proofs.SixtyFour.{store-turn}
use Rattle.bits.proofs.Turns.{put-none, put_all}
use Rattle.bits.proofs.words.store.Goals as goal

pub loop-k-init : goal.loop-k-init
loop-k-init c =
    let a = c.args in
    (refl, ((λ j. (c.type_inv.buf j).fits), put-none a.buf.now (8 * a.i) (8 * a.m) a.v (omega arith)))

pub loop-k-preserved : goal.loop-k-preserved
loop-k-preserved c =
    let a = c.args in
    let l = c.loop-k in
    let y = c.byte_at.result in (
      length-set l.buf (a.i + l.k) y ∙ l.invariant.0,
      (
        below_set 256 l.buf (a.i + l.k) y c.byte_at.type_inv l.invariant.1.0,
        store-turn a.buf.now l.buf a.i a.m l.k a.v y (omega arith) (omega arith) l.invariant.0 l.invariant.1.1
            c.byte_at.ensures,
      ),
    )

pub returns : goal.returns
returns c =
    let a = c.args in
    let l = c.loop-k in
    put_all a.buf.now l.buf (8 * a.i) (8 * a.m) a.v (8 * l.k) l.invariant.0 l.invariant.1.0 (omega arith) l.invariant.1.1
