use Prim.Native.Nat.{ℕ, ◌+◌, ◌/◌, ◌%◌}
use native.Mathlib.Omega.{arith}
use mathlib.Core.Path.{refl, ap, ◌∙◌}
use lib.ListN.{get_or, length-set}
use Rattle.bits.specs.Bits.{bits}
use Rattle.bits.specs.inner.Written.{over}
use Rattle.bits.proofs.Numbers.{below_set}
use Rattle.bits.proofs.Turns.{put-turn, put-none, put_all}
use Rattle.bits.proofs.put_by_bytes.Goals as goal

pub loop-done-init : goal.loop-done-init
loop-done-init c =
    let a = c.args in
    (omega arith, (refl, ((λ i. (c.type_inv.buf i).fits), put-none a.buf.now a.at a.width a.value (omega arith))))

pub loop-done-preserved : goal.loop-done-preserved
loop-done-preserved c =
    let a = c.args in
    let l = c.loop-done in
    let n = c.run-n.result in
    let q : ℕ = a.at + l.done in
    let y = c.spliced.result in (
      omega arith,
      (
        (length-set l.buf (q / 8) y ∙ l.invariant.1.0),
        (
          below_set 256 l.buf (q / 8) y c.spliced.type_inv l.invariant.1.1.0,
          put-turn a.buf.now l.buf a.at a.width l.done n a.value y
              (omega arith) (omega arith) (omega arith) l.invariant.1.0 (omega arith) l.invariant.1.1.1
              (c.spliced.ensures ∙ ap (λ (p : ℕ). over (bits 8 (get_or l.buf (q / 8) 0)) (q % 8) (bits n p)) c.digits-p.ensures),
        ),
      ),
    )

pub returns : goal.returns
returns c =
    let a = c.args in
    let l = c.loop-done in
    put_all a.buf.now l.buf a.at a.width a.value l.done l.invariant.1.0 l.invariant.1.1.0 (omega arith) l.invariant.1.1.1
