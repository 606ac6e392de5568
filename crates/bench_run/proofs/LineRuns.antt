-- One event line: the command that it names, carried out on the tables and printed.
use Prim.Native.Nat.{ℕ, ◌+◌, ◌≤◌}
use mathlib.Core.Bool.{Bool, true, false, cond}
use mathlib.Core.List.{List}
use mathlib.Core.Path.{◌≡◌, refl, sym, ap, ◌∙◌}
use lib.Dec.{eqb}
use lib.ListN.{length}
use Rattle.std.proofs.Common.{Result, Ok, Err}
use Rattle.commands.specs.Commands.{SaidCommand, command_of}
use Rattle.commands.specs.inner.Leaves.{said_command}
use Rattle.commands.specs.declared.Command.TheVariants.{Up, Down, Receive}
use Rattle.commands.specs.declared.Command.{Command}
use Rattle.election.specs.StepOn.{step_on}
use Rattle.protocol.specs.Answer.{Said, said_refused}
use Rattle.protocol.specs.Step.{up, down, receive}
use Rattle.refusal.specs.Outcome.{Outcome, outcome}
use Rattle.refusal.specs.Refusal.{why_of}
use Rattle.refusal.specs.declared.Refusal.{Refusal}
use Rattle.refusal.proofs.RefusalLaws.{never-0}
use Rattle.tables.specs.Tables.{Tables}
use Rattle.text.specs.inner.Poured.{poured}
use Rattle.bench_run.specs.Listing.{said_line, by_event, event_named}
use Rattle.bench_run.specs.inner.OnTables.{command_line_on, after_command_on}
use Rattle.text.proofs.PourLaws.{Poured}

-- ---- what a command answers and leaves

abbrev pub carried : ℕ → Tables → SaidCommand → Outcome Said Tables
carried n t c = by_event (λ e. step_on n e t) (outcome (said_refused c.why) t) c

module _ (n : ℕ) (t : Tables) (l : List ℕ) {c : Result Command Refusal} (parsed : said_command c ≡ command_of l) where
  of-command : {d : Result Command Refusal} {o : Outcome Said Tables} → c ≡ d → o ≡ carried n t (said_command d) → o ≡ carried n t (command_of l)
  of-command e x = x ∙ ap (carried n t) (ap said_command (sym e) ∙ parsed)

  pub line-up : {u v : ℕ} {o : Outcome Said Tables} → c ≡ Ok (Up u v) → o ≡ step_on n (up u v) t → o ≡ carried n t (command_of l)
  unfolding by_event
  line-up e q = of-command e q

  pub line-down : {u v : ℕ} {o : Outcome Said Tables} → c ≡ Ok (Down u v) → o ≡ step_on n (down u v) t → o ≡ carried n t (command_of l)
  unfolding by_event
  line-down e q = of-command e q

  pub line-receive : {u v : ℕ} {o : Outcome Said Tables} → c ≡ Ok (Receive u v) → o ≡ step_on n (receive u v) t → o ≡ carried n t (command_of l)
  unfolding by_event
  line-receive e q = of-command e q

  pub line_refused : {r : Refusal} → c ≡ Err r → outcome (said_refused (why_of r)) t ≡ carried n t (command_of l)
  unfolding by_event
  line_refused {r} e = of-command e (rw (never-0 r))

-- ---- the line

-- f of what a command answers and leaves
by-either : {A : Type 0} (f : Outcome Said Tables → A) (b : Bool) (x y : Outcome Said Tables) → f (cond b x y) ≡ cond b (f x) (f y)
by-either f true x y = refl
by-either f false x y = refl

-- the line has been poured
pub line-done : (n : ℕ) (t : Tables) (k : ℕ) (l : List ℕ) {s : Said} {after : Tables} → outcome s after ≡ carried n t (command_of l)
    → {out left : List ℕ} {at behind : ℕ} → Poured out at (said_line k s) left behind → behind ≤ at + 35
    → (left ≡ poured out at (command_line_on n t k (command_of l))) × (behind ≡ at + length (command_line_on n t k (command_of l))) × (behind ≤ at + 35)
    × (after ≡ after_command_on n t (command_of l))
unfolding by_event command_line_on after_command_on
line-done n t k l {s} {after} q {out} {left} {at} x near =
    let c = command_of l in
    let step = step_on n (event_named c) t in
    let not = outcome (said_refused c.why) t in
    let line : said_line k s ≡ command_line_on n t k c =
    ap (λ (o : Outcome Said Tables). said_line k o.said) q ∙ by-either (λ o. said_line k o.said) (eqb c.why.number 0) step not in
    let tabs : after ≡ after_command_on n t c =
    ap (λ (o : Outcome Said Tables). o.after) q ∙ by-either (λ o. o.after) (eqb c.why.number 0) step not in
    (x.bytes ∙ ap (poured out at) line, x.offset ∙ ap (λ (y : List ℕ). at + length y) line, near, tabs)
