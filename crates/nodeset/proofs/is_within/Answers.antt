-- `nodeset::is_within` meets its contract. Every u16 is below 2 to the power 16.
use Prim.Native.Nat.{◌*◌, ◌%◌, ◌^◌}
use native.Mathlib.Omega.{arith}
use mathlib.Core.Path.{◌≡◌, sym, ap, ◌∙◌}
use lib.Dec.{ltb, lit<}
use lib.Pow.{pow_mono, shl_exact}
use Rattle.nodeset.specs.NodeSet.{within}
use Rattle.nodeset.proofs.Members.{lt-within}
use Rattle.nodeset.proofs.is_within.Goals as goal

pub returns-then-n-ge16 : goal.returns-then-n-ge16
returns-then-n-ge16 c =
    let a = c.args in
    sym (lt-within a.n a.s (omega (arith, pow_mono {i = 16} {j = a.n} (omega arith))))

pub returns : goal.returns
unfolding within
returns c =
    let n = c.args.n in
    let e : (1 * 2 ^ n) % 2 ^ 32 ≡ 2 ^ n = shl_exact 1 n 32 (lit< tt) (omega arith) ∙ omega arith in
    ap (ltb c.args.s) e
