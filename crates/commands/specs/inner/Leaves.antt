-- What the functions that take a line apart answer; the meaning of a line is `command_of`.
use Rattle.std.specs.Prelude.{ℕ, suc, cond, List, [], ◌∷◌, eqb, Result, Ok, Err}
use Rattle.refusal.specs.declared.Refusal.{Refusal}
use Rattle.refusal.specs.Refusal.{why_of}
use Rattle.commands.specs.Commands.{SaidCommand, said_event, malformed_with}
use Rattle.commands.specs.declared.Command.{Command}
use Rattle.commands.specs.declared.Command.TheVariants.{Up, Down, Receive}

-- how many bytes stand before the first newline
unfoldable pub to_newline : List ℕ → ℕ
to_newline [] = 0
to_newline (b ∷ bs) = cond (eqb b 10) 0 (suc (to_newline bs))

-- a command in the numbers of a line
abbrev pub said_command : Result Command Refusal → SaidCommand
said_command (Ok (Up u v)) = said_event 85 u v
said_command (Ok (Down u v)) = said_event 68 u v
said_command (Ok (Receive u v)) = said_event 77 u v
said_command (Err r) = malformed_with (why_of r)
