-- Each history of at most 16 nodes prints as one bench input: its lines, and what they say, are read back; so different histories print different texts.
use Prim.Native.Nat.{ℕ, ◌≤◌}
use native.Mathlib.Omega.{arith}
use mathlib.Core.Bool.{true, cond}
use mathlib.Core.List.{List, [], ◌∷◌, map, append-nil}
use mathlib.Core.Path.{◌≡◌, refl, sym, ap, ap₂, ◌∙◌}
use lib.Dec.{eqb}
use Rattle.basics.proofs.AllOf.{AllOf, none, more}
use Rattle.basics.proofs.Tests.{and_left, and_right}
use Rattle.commands.specs.Commands.{Line, SaidCommand, lines_of, command_of}
use Rattle.protocol.specs.Network.{Network}
use Rattle.protocol.specs.Refusal.{accepts, next}
use Rattle.protocol.specs.Step.{Event, up, down, receive}
use Rattle.protocol.proofs.Accepted.{Accepted, accepts-accepted}
use Rattle.refusal.specs.Outcome.{accepted}
use Rattle.enumeration.specs.Histories.{all_accepted}
use Rattle.enumeration.specs.Order.{line_of}
use Rattle.enumeration.specs.Texts.{event_text, head_text, lines_text, input_text}
use Rattle.enumeration.proofs.LineTexts.{Low, lines_then, input-is-lines, command-back}

-- both numbers of an accepted event's line are nodes
pub numbers-few : (n : ℕ) (p : Network) (e : Event) → Accepted n p e → ((line_of e).first ≤ n) × ((line_of e).second ≤ n)
numbers-few n p (up u v) ok = (ok.high_u, ok.high_v)
numbers-few n p (down u v) ok = (ok.high_u, ok.high_v)
numbers-few n p (receive v u) ok = (ok.high_v, ok.high_u)

low_of : (n : ℕ) (p : Network) (e : Event) → n ≤ 16 → Accepted n p e → Low e
low_of n p e few ok = let h = numbers-few n p e ok in record { first = omega (arith, h.0, few); second = omega (arith, h.1, few) }

pub all-low : (n : ℕ) (p : Network) (es : List Event) → n ≤ 16 → all_accepted n p es ≡ true → AllOf Low es
unfolding all_accepted
all-low n p [] few a = none
all-low n p (e ∷ es) few a =
    more (low_of n p e few (accepts-accepted n p e (and_left (accepts n p e) (all_accepted n (next n p e) es) a)))
    (all-low n (next n p e) es few (and_right (accepts n p e) (all_accepted n (next n p e) es) a))

-- ---- read back, line by line

pub input-lines : (n : ℕ) (es : List Event) → lines_of (input_text n es) ≡ head_text n ∷ map event_text es
unfolding input_text lines_of
input-lines n es =
    let ls = head_text n ∷ map event_text es in
    ap lines_of (sym (append-nil (lines_text ls))) ∙ lines_then ls [] (input-is-lines n es) ∙ append-nil ls

pub commands-back : (es : List Event) → AllOf Low es → map command_of (map event_text es) ≡ map (λ e. accepted (line_of e)) es
commands-back es none = refl
commands-back es (more {x = e} {xs = l} h s) =
    ap₂ (λ (c : SaidCommand) (cs : List SaidCommand). c ∷ cs) (command-back e h) (commands-back l s)

-- ---- different histories print different texts

-- the event that a line names
event_of : Line → Event
event_of l = cond (eqb l.letter 85) (up l.first l.second) (cond (eqb l.letter 68) (down l.first l.second) (receive l.first l.second))

event-back : (e : Event) → event_of (line_of e) ≡ e
unfolding event_of
event-back (up u v) = refl
event-back (down u v) = refl
event-back (receive v u) = refl

events-back : (es : List Event) → map (λ (c : SaidCommand). event_of c.value) (map (λ e. accepted (line_of e)) es) ≡ es
events-back [] = refl
events-back (e ∷ es) = ap₂ (λ (x : Event) (l : List Event). x ∷ l) (event-back e) (events-back es)

tail_of : List (List ℕ) → List (List ℕ)
tail_of [] = []
tail_of (l ∷ ls) = ls

pub texts-differ : (n : ℕ) (g h : List Event) → AllOf Low g → AllOf Low h → input_text n g ≡ input_text n h → g ≡ h
unfolding tail_of
texts-differ n g h a b e =
    let ls : map event_text g ≡ map event_text h = ap tail_of (sym (input-lines n g) ∙ ap lines_of e ∙ input-lines n h) in
    sym (events-back g) ∙ ap (map (λ (c : SaidCommand). event_of c.value)) (sym (commands-back g a) ∙ ap (map command_of) ls ∙ commands-back h b)
    ∙ events-back h
