-- `image_reading::examine` meets its contract: each return is one law of ExamineLaws.antt.
use native.Mathlib.Omega.{arith}
use mathlib.Core.Path.{sym, ◌∙◌}
use Rattle.std.proofs.lemmas.Result.{err_from_is_err_and}
use Rattle.bits.proofs.Bytes.{length-unpacked}
use Rattle.image_reading.proofs.ExamineLaws.{examined-stops, examined-bad-end, examined-contents, accepted-walk, accepted-end}
use Rattle.image_reading.proofs.examine.Goals as goal

pub returns-in_err-end : goal.returns-in_err-end
returns-in_err-end c =
    let p = err_from_is_err_and c.from_residual.result c.from_residual.ensures.1 in
    rw (p.1, p.2) (examined-stops 32 16 _ _ _ c.in_err-end.ensures)

pub ends_at-requires : goal.ends_at-requires
ends_at-requires c =
    let end = accepted-end 32 16 _ _ c.in_ok-end.ensures (omega arith) (omega arith) c.requires.1 in
    (omega arith, omega (arith, length-unpacked c.args.image.now))

pub returns-then-not-ends_at : goal.returns-then-not-ends_at
returns-then-not-ends_at c =
    examined-bad-end 32 16 _ _ c.in_ok-end.ensures (sym c.ends_at.ensures ∙ c.if-not-ends_at.true)

pub contents-requires : goal.contents-requires
contents-requires c =
    let few = c.requires.1 in
    let walk = accepted-walk 32 16 _ _ c.in_ok-end.ensures (omega arith) (omega arith) few in
    (record { low = omega arith; high = omega arith }, few, omega arith, walk)

pub returns : goal.returns
returns c =
    examined-contents 32 16 _ _ c.in_ok-end.ensures (sym c.ends_at.ensures ∙ c.if-not-ends_at.false) c.contents.ensures
