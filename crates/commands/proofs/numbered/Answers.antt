-- `commands::numbered` meets its contract: each return is one law of CommandLaws.antt.
use native.Mathlib.Omega.{arith}
use mathlib.Core.Path.{◌∙◌}
use Rattle.commands.proofs.CommandLaws.{named-up, named-down, named-receive, named_none, numbered-end, numbered_is, first-missing, second-missing}
use Rattle.commands.proofs.numbered.Goals as goal

pub returns-then-k-rest : goal.returns-then-k-rest
returns-then-k-rest c = numbered-end _ c.args.rest.now _ c.to_space-k.ensures.0 c.if-k-rest.true

pub returns-in_default : goal.returns-in_default
returns-in_default c = first-missing _ c.args.rest.now _ c.to_space-k.ensures.0 c.in_default.ensures.says

pub returns-in_default-number : goal.returns-in_default-number
returns-in_default-number c = second-missing _ c.args.rest.now _ c.to_space-k.ensures.0 c.in_default-number.ensures.says

pub returns-in-85 : goal.returns-in-85
returns-in-85 c =
    named-up _ _ _ (c.in-Some.ensures.small, c.in-Some-number.ensures.small) c.in-85.is
    ∙ numbered_is _ c.args.rest.now _ c.to_space-k.ensures.0 _ _ c.in-Some.ensures.says c.in-Some-number.ensures.says

pub returns-in-68 : goal.returns-in-68
returns-in-68 c =
    named-down _ _ _ (c.in-Some.ensures.small, c.in-Some-number.ensures.small) c.in-68.is
    ∙ numbered_is _ c.args.rest.now _ c.to_space-k.ensures.0 _ _ c.in-Some.ensures.says c.in-Some-number.ensures.says

pub returns-in-77 : goal.returns-in-77
returns-in-77 c =
    named-receive _ _ _ (c.in-Some.ensures.small, c.in-Some-number.ensures.small) c.in-77.is
    ∙ numbered_is _ c.args.rest.now _ c.to_space-k.ensures.0 _ _ c.in-Some.ensures.says c.in-Some-number.ensures.says

pub returns-in_default-kind : goal.returns-in_default-kind
returns-in_default-kind c =
    named_none _ _ _ (c.in-Some.ensures.small, c.in-Some-number.ensures.small)
    (λ e. absurd (omega (arith, e))) (λ e. absurd (omega (arith, e))) (λ e. absurd (omega (arith, e)))
    ∙ numbered_is _ c.args.rest.now _ c.to_space-k.ensures.0 _ _ c.in-Some.ensures.says c.in-Some-number.ensures.says
