-- `said_command` is injective: every letter and number of a command is in what it says. And what an event line says, some command says.
use Prim.Native.Nat.{ℕ}
use mathlib.Core.Bool.{Bool, true, false, cond, ◌&&◌}
use mathlib.Core.List.{List}
use mathlib.Core.Path.{◌≡◌, refl, sym, ap, ◌∙◌}
use lib.Dec.{eqb, ltb}
use lib.ListN.{get_or}
use Rattle.std.proofs.Common.{Result, Ok, Err}
use Rattle.refusal.specs.declared.Refusal.{Refusal}
use Rattle.refusal.proofs.RefusalLaws.{reason_from, reason-back}
use Rattle.commands.specs.Commands.{SaidCommand, said_event, said_malformed, none, named, command_of}
use Rattle.commands.specs.inner.Leaves.{said_command}
use Rattle.commands.specs.declared.Command.TheVariants.{Up, Down, Receive}
use Rattle.commands.specs.declared.Command.{Command}

-- ---- the command from what it says

command_from : SaidCommand → Result Command Refusal
command_from s =
    cond (eqb s.value.letter 85) (Ok (Up s.value.first s.value.second)) (cond (eqb s.value.letter 68) (Ok (Down s.value.first s.value.second))
    (cond (eqb s.value.letter 77) (Ok (Receive s.value.first s.value.second)) (Err (reason_from s.why))))

command-back : (c : Result Command Refusal) → command_from (said_command c) ≡ c
unfolding command_from
command-back (Ok (Up u v)) = refl
command-back (Ok (Down u v)) = refl
command-back (Ok (Receive u v)) = refl
command-back (Err r) = ap Err (reason-back r)

pub said-command-injective : (c d : Result Command Refusal) → said_command c ≡ said_command d → c ≡ d
said-command-injective c d e = sym (command-back c) ∙ (ap command_from e ∙ command-back d)

-- ---- what an event line says: 0 with U, D or M and two numbers, or 15

pub data Says : SaidCommand → Type 0 where
  says-up : (u v : ℕ) → Says (said_event 85 u v)
  says-down : (u v : ℕ) → Says (said_event 68 u v)
  says-receive : (u v : ℕ) → Says (said_event 77 u v)
  says-malformed : Says said_malformed

either : (t : Bool) {s r : SaidCommand} → Says s → Says r → Says (cond t s r)
either true x y = x
either false x y = y

named-says : (kind u v : ℕ) → Says (named kind u v)
unfolding named
named-says kind u v =
    either (ltb u none && ltb v none)
    (either (eqb kind 85) (says-up u v) (either (eqb kind 68) (says-down u v) (either (eqb kind 77) (says-receive u v) says-malformed))) says-malformed

pub line-says : (l : List ℕ) → Says (command_of l)
unfolding command_of
line-says l = either (eqb (get_or l 1 0) 32) (named-says _ _ _) says-malformed
