use Prim.Native.Nat.{ℕ, ◌+◌, ◌≤◌, ◌<◌}
use native.Mathlib.Numerals.{add-one}
use native.Mathlib.Omega.{arith}
use mathlib.Core.Path.{◌≡◌, sym, ap, ap₂, ◌∙◌}
use mathlib.Core.List.{List}
use lib.ListN.{get_or}
use Rattle.image.specs.Widths.{widths_of, field_place}
use Rattle.image.proofs.FieldPlaces.{first-place, next_place, place-le, message-end}
use Rattle.image.proofs.widths.place.Goals as goal

-- a field more: the sum is where the one behind it starts
next : (d k : ℕ) (w : List ℕ) (end i : ℕ) → w ≡ widths_of d → k ≤ 8 → i < k → end ≡ field_place d i → end + get_or w i 0 ≡ field_place d (i + 1)
next d k w end i ew few h e =
    ap₂ (λ (x : ℕ) (l : List ℕ). x + get_or l i 0) e ew ∙ sym (next_place d i (omega arith)) ∙ ap (field_place d) (sym (add-one i))

pub loop-i-init : goal.loop-i-init
loop-i-init c = sym (first-place c.args.depth)

pub overflow_cast-end : goal.overflow_cast-end
overflow_cast-end c =
    let w = c.fields-w in
    let l = c.loop-i in
    let n = next c.args.depth c.args.k w.result l.end l.i w.ensures c.requires (omega arith) l.invariant in
    omega (arith, n, place-le c.args.depth (l.i + 1), message-end c.args.depth)

pub overflow_add-end : goal.overflow_add-end
overflow_add-end c =
    let w = c.fields-w in
    let l = c.loop-i in
    let n = next c.args.depth c.args.k w.result l.end l.i w.ensures c.requires (omega arith) l.invariant in
    omega (arith, n, place-le c.args.depth (l.i + 1), message-end c.args.depth)

pub loop-i-preserved : goal.loop-i-preserved
loop-i-preserved c =
    let w = c.fields-w in
    let l = c.loop-i in
    next c.args.depth c.args.k w.result l.end l.i w.ensures c.requires (omega arith) l.invariant

pub returns : goal.returns
returns c =
    let l = c.loop-i in
    let e : l.i ≡ c.args.k = omega arith in
    l.invariant ∙ ap (field_place c.args.depth) e
