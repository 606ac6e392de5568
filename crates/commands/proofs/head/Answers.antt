-- `commands::head` meets its contract: each return is one law of CommandLaws.antt.
use Rattle.std.specs.Prelude.{ℕ, Option, drop}
use mathlib.Core.Path.{◌≡◌, ap, ◌∙◌}
use Rattle.std.specs.Option.{unwrap_or}
use Rattle.std.proofs.lemmas.List.{take_rest}
use Rattle.commands.specs.Commands.{none, in_range, number_of}
use Rattle.commands.proofs.CommandLaws.{head-short, head-is, head-none}
use Rattle.commands.proofs.head.Goals as goal

pub returns-then-line-lt2-clause-says : goal.returns-then-line-lt2-clause-says
returns-then-line-lt2-clause-says c = head-short c.args.line.now c.if-line-lt2.true

pub returns-in_err-n-clause-says : goal.returns-in_err-n-clause-says
returns-in_err-n-clause-says c =
    let line = c.args.line.now in
    let missing : in_range none ≡ in_range (number_of (drop 2 line)) = ap in_range (c.in_err-n.ensures.says ∙ ap number_of (take_rest line 2)) in
    ap (λ (r : Option ℕ). unwrap_or r 0) c.from_residual.ensures ∙ missing ∙ head-is line c.if-line.true

pub returns-then-line-clause-says : goal.returns-then-line-clause-says
returns-then-line-clause-says c =
    let line = c.args.line.now in
    c.in_range.ensures.says ∙ ap in_range (c.in_ok-n.ensures.says ∙ ap number_of (take_rest line 2)) ∙ head-is line c.if-line.true

pub returns-clause-says : goal.returns-clause-says
returns-clause-says c = head-none c.args.line.now c.if-line.false
