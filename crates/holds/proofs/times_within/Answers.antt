-- `holds::times_within` meets its contract: the election time of a word has no sign.
use Prim.Native.Nat.{◌+◌}
use native.Mathlib.Omega.{arith}
use Rattle.holds.proofs.HoldsLaws.{times-test}
use Rattle.holds.proofs.times_within.Goals as goal

pub returns : goal.returns
returns c =
    let a = c.args in
    times-test a.c a.words.now a.at (omega (arith, c.type_inv.words (a.at + 4)))
