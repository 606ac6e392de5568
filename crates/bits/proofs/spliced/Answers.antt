-- `bits::spliced` meets its contract: nothing is shifted out of the sum of high part, new bits and low part.
use Prim.Native.Nat.{◌-◌}
use native.Mathlib.Nat.{lt_trans}
use native.Mathlib.Omega.{arith}
use mathlib.Core.Path.{ap, ◌∙◌}
use lib.Pow.{pow_pos}
use lib.Dec.{lit<}
use Rattle.bits.specs.Bits.{bits}
use Rattle.bits.proofs.Turns.{one_shl, splice, splice-fits, splice-byte, splice-sum}
use Rattle.bits.proofs.spliced.Goals as goal

pub nonzero_rem-low : goal.nonzero_rem-low
nonzero_rem-low c = rw (one_shl (8 - c.args.off - c.args.n) 32 (omega arith)) (pow_pos (8 - c.args.off - c.args.n))

pub overflow_add-result : goal.overflow_add-result
overflow_add-result c = record {
  fits = splice-fits c.args.off c.args.n (8 - c.args.off - c.args.n) c.args.b c.args.p (omega arith) c.requires.1 c.ranges.b.fits;
}

pub overflow_add-result-2 : goal.overflow_add-result-2
overflow_add-result-2 c = record {
  fits = lt_trans
      (splice-byte c.args.off c.args.n (8 - c.args.off - c.args.n) c.args.b c.args.p (omega arith) c.requires.1 c.ranges.b.fits)
      (lit< tt);
}

pub overflow_cast-result-3 : goal.overflow_cast-result-3
overflow_cast-result-3 c = record {
  fits = splice-byte c.args.off c.args.n (8 - c.args.off - c.args.n) c.args.b c.args.p (omega arith) c.requires.1 c.ranges.b.fits;
}

pub returns : goal.returns
returns c =
    ap (bits 8) (splice-sum c.args.off c.args.n (8 - c.args.off - c.args.n) c.args.b c.args.p (omega arith) c.requires.1 c.ranges.b.fits)
    ∙ splice c.args.off c.args.n (8 - c.args.off - c.args.n) c.args.b c.args.p (omega arith) c.requires.1 c.ranges.b.fits
