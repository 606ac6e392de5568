use Prim.Native.Nat.{ℕ, ◌+◌, ◌≤◌, ◌<◌}
use native.Mathlib.Omega.{arith}
use mathlib.Core.Path.{◌≡◌, refl, ap, ap₂, ◌∙◌}
use mathlib.Core.List.{List, ◌++◌, append-nil}
use lib.ListN.{length, get_or, set, take, drop, length-set, drop_of_length-le}
use lib.Seq.{take_all}
use Rattle.bits.specs.Bits.{unpacked, field, total, gathered}
use Rattle.bits.proofs.Fields.{total-in, total-more, get-more}
use Rattle.bits.proofs.get_near_end.Goals as goal

pub loop-k-init : goal.loop-k-init
unfolding total gathered
loop-k-init c = (omega arith, (refl, refl))

pub get-requires : goal.get-requires
get-requires c =
    let a = c.args in
    let k = c.loop-k.k in
    let t = total-in a.widths.now k (omega arith) in
    let r = c.requires.0.narrow k in
    omega arith

pub overflow_add-place : goal.overflow_add-place
overflow_add-place c =
    let a = c.args in
    omega (arith, total-in a.widths.now c.loop-k.k (omega arith))

pub loop-k-preserved : goal.loop-k-preserved
loop-k-preserved c =
    let a = c.args in
    let l = c.loop-k in
    let ws = a.widths.now in
    let h : l.k < length ws = omega arith in
    let e : c.get.result ≡ field a.bytes.now (a.at + total (take l.k ws)) (get_or ws l.k 0) =
    c.get.ensures ∙ ap (λ (p : ℕ). field a.bytes.now p (get_or ws l.k 0)) l.invariant.0 in (
      omega (arith, total-more ws l.k h),
      (
        length-set l.values l.k c.get.result ∙ l.invariant.1.0,
        ap (set l.values l.k) e ∙ get-more a.bytes.now a.at ws a.values.now l.values l.k h c.requires.1 l.invariant.1.1,
      ),
    )

pub returns : goal.returns
returns c =
    let a = c.args in
    let l = c.loop-k in
    let bs = drop a.at (unpacked a.bytes.now) in
    let z : length a.values.now ≤ l.k = omega arith in
    l.invariant.1.1
    ∙ ap₂ (λ (x y : List ℕ). gathered x bs ++ y) (take_all l.k a.widths.now (omega arith)) (drop_of_length-le a.values.now z)
    ∙ append-nil (gathered a.widths.now bs)
