-- `groups::heads` meets its contract: refused with 1, 2 or 18 by the check, or answered on tables that pass.
use mathlib.Core.Path.{ap, ◌∙◌}
use Prim.Native.Nat.{ℕ}
use Rattle.refusal.specs.Outcome.{accepted}
use Rattle.groups.specs.Heads.{heads_on}
use Rattle.std.proofs.lemmas.Result.{err_from_is_err_and}
use Rattle.groups.proofs.AnswerLaws.{checked_refused, checked-sound}
use Rattle.groups.proofs.heads.Goals as goal

pub returns : goal.returns
unfolding heads_on
returns c = ap (λ (s : ℕ). accepted s) c.heads.ensures ∙ checked-sound _ _ c.check.ensures _ _ c.in_ok-check.was

pub returns-in_err-check : goal.returns-in_err-check
unfolding heads_on
returns-in_err-check c =
    let p = err_from_is_err_and c.from_residual.result c.from_residual.ensures.1 in
    rw (p.1, p.2) (checked_refused _ _ c.check.ensures _ _ c.in_err-check.was)
