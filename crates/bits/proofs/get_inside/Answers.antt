use native.Mathlib.Omega.{arith}
use mathlib.Core.Path.{refl}
use Rattle.bits.proofs.Fields.{total-take-le}
use Rattle.bits.proofs.Seeing.{seen_start, seen-near, seen_more, seen-again, seen_as}
use Rattle.bits.proofs.get_inside.Goals as goal
use Rattle.bits.proofs.get_inside.Goals.{then-used-w-lt64, else-used-w-lt64}

pub loop-k-init : goal.loop-k-init
loop-k-init c = seen_start _ _ _ _ _ c.load_at-seen.ensures (omega arith)

pub overflow_add-start : goal.overflow_add-start
overflow_add-start c =
    let l = c.loop-k in
    omega (arith, l.invariant.place, total-take-le c.args.widths.now l.k, c.requires.0.small)

pub load_at-seen-requires-else-used-w-lt64 : goal.load_at-seen-requires-else-used-w-lt64
load_at-seen-requires-else-used-w-lt64 c =
    seen-near c.loop-k.invariant c.requires.1 c.requires.0 c.requires.2 c.loop-k-test.true refl

pub loop-k-preserved : goal.loop-k-preserved
loop-k-preserved c =
    let l = c.loop-k in
    let more = c.loop-k-test.true in
    elim c.if-used-w-lt64.branch [
      | then-used-w-lt64 b ↦
          seen_as (seen_more l.invariant c.requires.1 c.requires.0 c.requires.2 more refl b.cut.result b.if-used-w-lt64.true b.cut.ensures)
          b.values-is b.start-is b.seen-is b.used-is
      | else-used-w-lt64 b ↦
          let x = b.load_at-seen-else-used-w-lt64 in
          let y = b.cut-else-used-w-lt64 in
          seen_as (seen-again l.invariant c.requires.1 c.requires.0 c.requires.2 more refl x.result y.result x.ensures y.ensures)
          b.values-is b.start-is b.seen-is b.used-is
    ]
