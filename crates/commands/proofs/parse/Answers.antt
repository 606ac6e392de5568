-- `commands::parse` meets its contract: each return is one law of CommandLaws.antt.
use mathlib.Core.Path.{ap, ◌∙◌}
use Rattle.std.proofs.lemmas.List.{take_rest}
use Rattle.commands.proofs.CommandLaws.{numbered_of, command-short, command-is, command-none}
use Rattle.commands.proofs.parse.Goals as goal

pub returns-then-line-lt2 : goal.returns-then-line-lt2
returns-then-line-lt2 c = command-short c.args.line.now c.if-line-lt2.true

pub returns-then-line-eq32 : goal.returns-then-line-eq32
returns-then-line-eq32 c =
    let line = c.args.line.now in
    c.numbered.ensures ∙ ap (numbered_of _) (take_rest line 2) ∙ command-is line c.if-line-eq32.true

pub returns : goal.returns
returns c = command-none c.args.line.now c.if-line-eq32.false
