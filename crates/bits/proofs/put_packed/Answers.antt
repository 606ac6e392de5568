use Prim.Native.Nat.{ℕ, ◌+◌, ◌*◌}
use native.Mathlib.Omega.{arith}
use mathlib.Core.Path.{◌≡◌, refl, sym, ap, ◌∙◌}
use lib.ListN.{length}
use Rattle.bits.specs.Bits.{bits}
use Rattle.bits.specs.inner.Written.{written, word_bits}
use Rattle.bits.proofs.Bytes.{length-written, written_none}
use Rattle.bits.proofs.Packing.{put_word, put_rest}
use Rattle.bits.proofs.put_packed.Goals as goal

pub loop-j-init : goal.loop-j-init
unfolding word_bits
loop-j-init c =
    let a = c.args in
    (refl, sym (written_none a.buf.now a.at (λ i. (c.type_inv.buf i).fits) (omega arith)))

pub put_bytes-requires : goal.put_bytes-requires
put_bytes-requires c =
    let l = c.loop-j in
    let b = (c.type_inv.full l.j).fits in
    ((omega arith, omega arith), (omega (arith, l.invariant.0), b))

pub loop-j-preserved : goal.loop-j-preserved
loop-j-preserved c =
    let a = c.args in
    let l = c.loop-j in
    let e = c.put_bytes.ensures
    ∙ put_word a.buf.now l.buf a.at a.full.now l.j (omega (arith, c.loop-j-test.true)) l.invariant.1 in
    (ap length e ∙ length-written a.buf.now a.at (word_bits (l.j + 1) a.full.now), e)

pub shape_of-buf : goal.shape_of-buf
shape_of-buf c =
    let a = c.args in
    let l = c.loop-j in
    ap length c.put_long.ensures ∙ length-written l.buf (a.at + 64 * a.n) (bits a.count a.held) ∙ l.invariant.0

pub returns : goal.returns
returns c =
    let a = c.args in
    let l = c.loop-j in
    let j : l.j ≡ a.n = omega (arith, c.loop-j-test.false) in
    c.put_long.ensures
    ∙ put_rest a.buf.now l.buf a.at a.full.now a.n a.count a.held (omega arith)
    (l.invariant.1 ∙ ap (λ (m : ℕ). written a.buf.now a.at (word_bits m a.full.now)) j)
