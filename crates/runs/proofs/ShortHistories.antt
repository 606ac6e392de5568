-- Each history of the lists of document 02, [6] on the bench: its events are read back from its lines, and its text is listed with the code 0 on every event line.
use Prim.Native.Nat.{ℕ, suc, ◌≤◌}
use native.Mathlib.Omega.{arith}
use mathlib.Core.Bool.{true}
use mathlib.Core.List.{List, ◌∷◌, ◌++◌, map, Memᴰ}
use mathlib.Core.Path.{◌≡◌, refl, ap, ap₂, ◌∙◌}
use borrow.Author.Tests.{eqb-true, ne_eqb, le-leb}
use lib.Count.{ones}
use lib.ListN.{length}
use Rattle.basics.specs.Functions.{after_all, say_all}
use Rattle.basics.proofs.AllOf.{AllOf, none, more}
use Rattle.basics.proofs.Tests.{and_left, and_right}
use Rattle.bench_run.specs.Listing.{event_line, said_line, event_named, by_event, command_line, after_command, event_lines, after_lines}
use Rattle.bench_run.specs.Listing.{plot_listing, headed, listing}
use Rattle.calls.proofs.Good.{answer-number}
use Rattle.commands.specs.Commands.{command_of}
use Rattle.enumeration.specs.Histories.{all_accepted, histories}
use Rattle.enumeration.specs.Order.{line_of}
use Rattle.enumeration.specs.Texts.{event_text, input_text}
use Rattle.enumeration.proofs.Inputs.{all-low, input-lines}
use Rattle.enumeration.proofs.LineTexts.{Low, command-back, head-back}
use Rattle.enumeration.proofs.Members.{no_other}
use Rattle.enumeration.proofs.Sizes.{input-size}
use Rattle.protocol.specs.Network.{Network, fresh}
use Rattle.protocol.specs.Refusal.{returned, accepts, answer, next}
use Rattle.protocol.specs.Step.{Event, up, down, receive}
use Rattle.refusal.specs.Outcome.{accepted}
use Rattle.runs.specs.Benched.{zero_lines, Benched}

line-for : (n : ℕ) (p : Network) (k : ℕ) (e : Event) → command_line n p k (accepted (line_of e)) ≡ said_line k (answer n p e)
unfolding command_line by_event
line-for n p k (up u v) = refl
line-for n p k (down u v) = refl
line-for n p k (receive v u) = refl

after-for : (n : ℕ) (p : Network) (e : Event) → after_command n p (accepted (line_of e)) ≡ next n p e
unfolding after_command by_event
after-for n p (up u v) = refl
after-for n p (down u v) = refl
after-for n p (receive v u) = refl

zero-line : (n : ℕ) (p : Network) (k : ℕ) (e : Event) → accepts n p e ≡ true
    → said_line k (answer n p e) ≡ event_line k 0 (answer n p e).value.rule (ones (answer n p e).value.sent_to)
unfolding said_line accepts
zero-line n p k e i =
    ap (λ (c : ℕ). event_line k c (answer n p e).value.rule (ones (answer n p e).value.sent_to)) (answer-number n p e ∙ eqb-true (returned n p e) 0 i)

after_line : (n : ℕ) (p : Network) (e : Event) → Low e → after_command n p (command_of (event_text e)) ≡ next n p e
after_line n p e h = ap (after_command n p) (command-back e h) ∙ after-for n p e

event-lines : (n : ℕ) (p : Network) (k : ℕ) (es : List Event) → AllOf Low es → all_accepted n p es ≡ true
    → event_lines n p k (map event_text es) ≡ zero_lines k (say_all (next n) (answer n) p es)
unfolding event_lines zero_lines all_accepted
event-lines n p k es none a = refl
event-lines n p k es (more {x = e} {xs = l} h s) a =
    let i = and_left (accepts n p e) (all_accepted n (next n p e) l) a in
    let j = and_right (accepts n p e) (all_accepted n (next n p e) l) a in
    ap₂ (λ (x y : List ℕ). x ++ y) (ap (command_line n p k) (command-back e h) ∙ line-for n p k e ∙ zero-line n p k e i)
    (ap (λ (r : Network). event_lines n r (suc k) (map event_text l)) (after_line n p e h) ∙ event-lines n (next n p e) (suc k) l s j)

after-lines : (n : ℕ) (p : Network) (es : List Event) → AllOf Low es → after_lines n p (map event_text es) ≡ after_all (next n) p es
after-lines n p es none = refl
after-lines n p es (more {x = e} {xs = l} h s) =
    ap (λ (r : Network). after_lines n r (map event_text l)) (after_line n p e h) ∙ after-lines n (next n p e) l s

-- ---- what the bench reads, and what it lists

named_back : (e : Event) → event_named (accepted (line_of e)) ≡ e
named_back (up u v) = refl
named_back (down u v) = refl
named_back (receive v u) = refl

all_back : (es : List Event) → AllOf Low es → map (λ (l : List ℕ). event_named (command_of l)) (map event_text es) ≡ es
all_back es none = refl
all_back es (more {x = e} {xs = l} h s) =
    ap₂ (λ (x : Event) (r : List Event). x ∷ r) (ap event_named (command-back e h) ∙ named_back e) (all_back l s)

-- the events that the lines behind the first name are those of the history
pub reads-back : (n k : ℕ) → n ≤ 16 → (es : List Event) → Memᴰ es (histories n k fresh)
    → map (λ (l : List ℕ). event_named (command_of l)) (map event_text es) ≡ es
reads-back n k few es m = all_back es (all-low n fresh es few (no_other n k fresh es m).1)

-- any n, and any length whose text the bench takes
pub benched : (n k : ℕ) → 1 ≤ n → n ≤ 16 → (es : List Event) → Memᴰ es (histories n k fresh) → length (input_text n es) ≤ 65536 → Benched n es
unfolding listing headed plot_listing
benched n k low few es m size =
    let a = (no_other n k fresh es m).1 in
    let s = all-low n fresh es few a in
    rw (
      le-leb (length (input_text n es)) 65536 size,
      input-lines n es,
      head-back n low few,
      ne_eqb n 0 (λ e. omega (arith, e, low)),
      event-lines n fresh 1 es s a,
      after-lines n fresh es s,
    )

-- every history of a list that is not refused
pub short-benched : (n k : ℕ) → 1 ≤ n → n ≤ 3 → k ≤ 5 → (es : List Event) → Memᴰ es (histories n k fresh) → Benched n es
short-benched n k low few short es m =
    let t = no_other n k fresh es m in
    benched n k low (omega (arith, few)) es m (omega (arith, input-size n fresh es few t.1, t.0, short))
