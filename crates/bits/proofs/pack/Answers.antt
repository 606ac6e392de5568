use Prim.Native.Nat.{ℕ, ◌+◌, ◌-◌, ◌%◌, ◌≤◌, ◌<◌}
use native.Mathlib.Nat.{lt_of_lt_of_le}
use native.Mathlib.Omega.{arith}
use mathlib.Core.Path.{◌≡◌, refl, ap, ◌∙◌}
use lib.ListN.{get_or, set}
use lib.Pow.{pow_mono}
use Rattle.bits.proofs.Packing.{packing-few, packing-start, packing-room, packing-more, packing-full, packing-as, packing-all}
use Rattle.bits.proofs.Turns.{one_shl}
use Rattle.bits.proofs.pack.Goals as goal
use Rattle.bits.proofs.pack.Goals.{then-count-w-lt64, else-count-w-lt64}

pub loop-k-init : goal.loop-k-init
loop-k-init c = packing-start _ _ _ c.requires.3

pub joined-held-requires : goal.joined-held-requires
joined-held-requires c =
    let w = get_or c.args.widths.now c.loop-k.k 0 in
    let n : w ≤ 32 = omega (arith, c.requires.0 c.loop-k.k) in
    let f : c.loop-k.count ≤ 64 - w = omega (arith, c.if-count-w-lt64.true) in
    (n, lt_of_lt_of_le c.loop-k.invariant.small (pow_mono f))

pub offset_bounds-full-j : goal.offset_bounds-full-j
offset_bounds-full-j c =
    let r = packing-room c.loop-k.invariant c.requires.0 c.requires.1 c.requires.2 c.loop-k-test.true refl refl
    c.if-count-w-lt64.false in
    omega (arith, r)

pub bounds-full-j : goal.bounds-full-j
bounds-full-j c =
    let r = packing-room c.loop-k.invariant c.requires.0 c.requires.1 c.requires.2 c.loop-k-test.true refl refl
    c.if-count-w-lt64.false in
    omega (arith, r, c.loop-k.invariant.size)

pub overflow_add-j : goal.overflow_add-j
overflow_add-j c =
    let r = packing-room c.loop-k.invariant c.requires.0 c.requires.1 c.requires.2 c.loop-k-test.true refl refl
    c.if-count-w-lt64.false in
    omega (arith, r)

pub loop-k-preserved : goal.loop-k-preserved
loop-k-preserved c =
    let l = c.loop-k in
    let w = get_or c.args.widths.now l.k 0 in
    let v = get_or c.args.values.now l.k 0 in
    let more = c.loop-k-test.true in
    elim c.if-count-w-lt64.branch [
      | then-count-w-lt64 b ↦
          packing-as (packing-more l.invariant c.requires.0 c.requires.1 c.requires.2 more refl refl b.if-count-w-lt64.true)
          b.full-is (b.held-is ∙ b.joined-held.ensures) b.count-is b.j-is
      | else-count-w-lt64 b ↦
          let r : ℕ = l.count + w - 64 in
          let n : w ≤ 32 = omega (arith, c.requires.0 l.k) in
          let h : r < 64 = omega (arith, l.invariant.few) in
          let sum : l.count + w ≡ 64 + r = omega (arith, b.if-count-w-lt64.false) in
          let f : r ≤ w = omega (arith, l.invariant.few) in
          packing-as (packing-full l.invariant c.requires.0 c.requires.1 c.requires.2 more refl refl r sum f)
          (b.full-is ∙ ap (set l.full l.j) b.joined.ensures) (b.held-is ∙ ap (λ (x : ℕ). v % x) (one_shl r 64 h)) b.count-is b.j-is
    ]

pub returns : goal.returns
returns c =
    let all = packing-all c.loop-k.invariant c.requires.1 c.loop-k-test.false in
    (all.0, all.1, packing-few c.loop-k.invariant c.requires.0 c.requires.2, c.loop-k.invariant.few)
