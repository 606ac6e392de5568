-- `election::events::event` meets its contract: refused with 3, or as it is decided, refused or finished.
use mathlib.Core.Bool.{not}
use mathlib.Core.Path.{sym, ap, subst, ◌∙◌}
use Rattle.std.proofs.lemmas.Result.{err_from_is_err_and}
use Rattle.election.specs.inner.Deciding.{Decides}
use Rattle.election.proofs.EventLaws.{named-between, misnamed-is}
use Rattle.election.proofs.StepLaws.{step-misnamed}
use Rattle.election.proofs.events.event.Goals as goal

pub returns-then-not-are_named : goal.returns-then-not-are_named
returns-then-not-are_named c =
    step-misnamed _ _ c.requires _ (misnamed-is _ _ _ c.args.kind ∙ ap not (sym c.are_named.ensures ∙ c.if-not-are_named.true))

pub decide-requires : goal.decide-requires
decide-requires c =
    named-between _ _ _ _ c.requires (sym c.are_named.ensures ∙ c.if-not-are_named.false)

pub finish-requires : goal.finish-requires
finish-requires c =
    subst (Decides c.args.kind _ _ _ _) c.in_ok-d.was c.decide.ensures

pub returns-in_err-d : goal.returns-in_err-d
returns-in_err-d c =
    let p = err_from_is_err_and c.from_residual.result c.from_residual.ensures.1 in
    rw (p.1, p.2)
    (subst (Decides c.args.kind _ _ _ _) c.in_err-d.was c.decide.ensures)
