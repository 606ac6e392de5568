-- What document 02, [6] asks of the list, for every n, length and start, over all events, of any numbers: none left out, no other, in order, none
-- twice; so no other list has all this. From fresh these are the histories of document 01. Each text is one bench input.
use Prim.Native.Nat.{ℕ, ◌≤◌}
use mathlib.Core.Bool.{Bool, true, cond}
use mathlib.Core.List.Memᴰ
use mathlib.Core.List.{List, [], ◌∷◌, ◌++◌, map, append_assoc, append-nil, Memᴰ}
use mathlib.Core.Path.{◌≡◌, refl, sym, ap, subst, ◌∙◌}
use lib.Dec.{eqb}
use lib.ListN.{length}
use Rattle.basics.specs.Functions.{after_all}
use Rattle.basics.proofs.Tests.{clash, Choice, yes!, no!, choice, and_left, and_right, and_both}
use Rattle.calls.specs.History.{State, started, advance, grown}
use Rattle.calls.proofs.Good.{answer-number}
use Rattle.commands.specs.Commands.{lines_of, command_of, head_of}
use Rattle.height.proofs.OrderLaws.{before-irrefl, before-asym}
use Rattle.protocol.specs.Network.{Network, fresh}
use Rattle.protocol.specs.Refusal.{returned, accepts, answer, next}
use Rattle.protocol.specs.Step.{Event, step}
use Rattle.refusal.specs.Outcome.{accepted}
use Rattle.enumeration.specs.Histories.{all_accepted, happened, histories}
use Rattle.enumeration.specs.Order.{line_of, history_key, earlier}
use Rattle.enumeration.specs.Texts.{event_text, head_text, input_text, list_text}
use Rattle.enumeration.proofs.Inputs.{all-low, input-lines, commands-back, texts-differ}
use Rattle.enumeration.proofs.LineTexts.{head-back, lines_then, input-is-lines}
use Rattle.enumeration.proofs.Members.{none-left-out, no_other}
use Rattle.enumeration.proofs.Ordered.{Earlier, sorted-histories}
use Rattle.enumeration.proofs.SortedLaws.{Sorted, empty, leads, sorted-behind, members-tell}

-- ---- which lists stand in it, once and in order

-- es is a history of k accepted events from p on
pub record IsHistory (n k : ℕ) (p : Network) (es : List Event) : Type 0 where
  pub long : length es ≡ k
  pub accepted : all_accepted n p es ≡ true

pub record Exactly (n k : ℕ) (p : Network) (hs : List (List Event)) : Type 0 where
  pub none-left-out : (es : List Event) → IsHistory n k p es → Memᴰ es hs
  pub no_other : (es : List Event) → Memᴰ es hs → IsHistory n k p es
  -- of two that stand in it, the one in front is the earlier
  pub in_order : (a b c : List (List Event)) (g h : List Event) → hs ≡ a ++ (g ∷ (b ++ (h ∷ c))) → earlier g h ≡ true
  pub none-twice : (a b c : List (List Event)) (g : List Event) → hs ≡ a ++ (g ∷ (b ++ (g ∷ c))) → ⊥

never-itself : (g : List Event) → earlier g g ≡ true → ⊥
unfolding earlier
never-itself g i = clash i (before-irrefl (history_key g))

pub exactly : (n k : ℕ) (p : Network) → Exactly n k p (histories n k p)
exactly n k p = record {
  none-left-out = λ es h. none-left-out n k p es h.long h.accepted;
  no_other = λ es m. let t = no_other n k p es m in record { long = t.0; accepted = t.1 };
  in_order = ordered;
  none-twice = λ a b c g e. never-itself g (ordered a b c g g e);
}
  where
    ordered : (a b c : List (List Event)) (g h : List Event) → histories n k p ≡ a ++ (g ∷ (b ++ (h ∷ c))) → earlier g h ≡ true
    ordered a b c g h e =
        sorted-behind a g (b ++ (h ∷ c)) (subst (Sorted Earlier) e (sorted-histories n k p)) h (Memᴰ.append_right b (Memᴰ.head refl))

-- ---- no other list has all this

one_way : (g h : List Event) → Earlier g h → Earlier h g → ⊥
unfolding earlier
one_way g h i j = clash j (before-asym (history_key g) (history_key h) i)

record Parted {A : Type 0} (y : A) (l : List A) : Type 0 where
  front : List A
  back : List A
  is : l ≡ front ++ (y ∷ back)

parted : {A : Type 0} (y : A) (l : List A) → Memᴰ y l → Parted y l
parted y [] m = elim m [ ]
parted y (x ∷ l) (Memᴰ.head e) = record { front = []; back = l; is = ap (λ (z : _). z ∷ l) (sym e) }
parted y (x ∷ l) (Memᴰ.tail m) = let t = parted y l m in record { front = x ∷ t.front; back = t.back; is = ap (λ (z : _). x ∷ z) t.is }

module _ (n k : ℕ) (p : Network) (hs : List (List Event)) (all : Exactly n k p hs) where
  sorted-from : (a l : List (List Event)) → hs ≡ a ++ l → Sorted Earlier l
  sorted-from a [] e = empty
  sorted-from a (x ∷ l) e =
      leads (λ y m. let t = parted y l m in
      all.in_order a t.front t.back x y (e ∙ ap (λ (r : List (List Event)). a ++ (x ∷ r)) t.is))
      (sorted-from (a ++ (x ∷ [])) l (e ∙ sym (append_assoc a (x ∷ []) l)))

  pub only-list : hs ≡ histories n k p
  only-list =
      members-tell one_way hs (histories n k p) (sorted-from [] hs refl) (sorted-histories n k p)
      (λ es m. (exactly n k p).none-left-out es (all.no_other es m))
      (λ es m. all.none-left-out es ((exactly n k p).no_other es m))

-- ---- histories, as document 01 has them: the accepted events from fresh on

enters : (n : ℕ) (s : State) (e : Event)
    → happened (advance n s e).history ≡ cond (accepts n s.network e) (happened s.history ++ (e ∷ [])) (happened s.history)
unfolding advance happened accepts
enters n s e = go (choice (eqb (answer n p e).why.number 0))
  where
    p : Network
    p = s.network

    same : eqb (answer n p e).why.number 0 ≡ eqb (returned n p e) 0
    same = ap (λ (k : ℕ). eqb k 0) (answer-number n p e)

    go : Choice (eqb (answer n p e).why.number 0)
        → happened (advance n s e).history ≡ cond (eqb (returned n p e) 0) (happened s.history ++ (e ∷ [])) (happened s.history)
    go (yes! i) = rw (i, sym same ∙ i)
    go (no! i) = rw (i, sym same ∙ i)

-- what a run of accepted events adds
adds : (n : ℕ) (s : State) (es : List Event) → all_accepted n s.network es ≡ true
    → happened (after_all (advance n) s es).history ≡ happened s.history ++ es
unfolding all_accepted advance
adds n s [] a = sym (append-nil (happened s.history))
adds n s (e ∷ es) a =
    let i = and_left (accepts n s.network e) (all_accepted n (next n s.network e) es) a in
    let j = and_right (accepts n s.network e) (all_accepted n (next n s.network e) es) a in
    let one : happened (advance n s e).history ≡ happened s.history ++ (e ∷ []) =
    enters n s e ∙ ap (λ (b : Bool). cond b (happened s.history ++ (e ∷ [])) (happened s.history)) i in
    adds n (advance n s e) es j ∙ ap (λ (h : List Event). h ++ es) one ∙ append_assoc (happened s.history) (e ∷ []) es

-- a listed history is the history of its own run
pub own-history : (n k : ℕ) (es : List Event) → Memᴰ es (histories n k fresh) → happened (grown n es).history ≡ es
unfolding happened
own-history n k es m = adds n started es (no_other n k fresh es m).1

-- one event more, accepted where the others lead
accepted-last : (n : ℕ) (p : Network) (es : List Event) (e : Event) → all_accepted n p es ≡ true → accepts n (after_all (next n) p es) e ≡ true
    → all_accepted n p (es ++ (e ∷ [])) ≡ true
unfolding all_accepted
accepted-last n p [] e a i = and_both i refl
accepted-last n p (f ∷ es) e a i =
    and_both (and_left (accepts n p f) (all_accepted n (next n p f) es) a)
    (accepted-last n (next n p f) es e (and_right (accepts n p f) (all_accepted n (next n p f) es) a) i)

after_last : (n : ℕ) (p : Network) (es : List Event) (e : Event) → after_all (next n) p (es ++ (e ∷ [])) ≡ next n (after_all (next n) p es) e
after_last n p [] e = refl
after_last n p (f ∷ es) e = after_last n (next n p f) es e

-- the events of a state's history are accepted one after the other from fresh, and lead to its network
record Led (n : ℕ) (p : Network) (es : List Event) : Type 0 where
  accepted : all_accepted n fresh es ≡ true
  leads-to : after_all (next n) fresh es ≡ p

led-advance : (n : ℕ) (s : State) (e : Event) → Led n s.network (happened s.history)
    → Led n (advance n s e).network (happened (advance n s e).history)
unfolding advance next
led-advance n s e l = subst (Led n (next n p e)) (sym (enters n s e)) (go (choice (accepts n p e)))
  where
    p : Network
    p = s.network

    h : List Event
    h = happened s.history

    go : Choice (accepts n p e) → Led n (cond (accepts n p e) (step n p e) p) (cond (accepts n p e) (h ++ (e ∷ [])) h)
    go (yes! i) =
        let j : accepts n (after_all (next n) fresh h) e ≡ true = rw l.leads-to i in
        let k : next n p e ≡ step n p e = rw i in
        rw i (record {
          accepted = accepted-last n fresh h e l.accepted j;
          leads-to = after_last n fresh h e ∙ ap (λ (q : Network). next n q e) l.leads-to ∙ k;
        })
    go (no! i) = rw i l

led-grown : (n : ℕ) (s : State) (es : List Event) → Led n s.network (happened s.history)
    → Led n (after_all (advance n) s es).network (happened (after_all (advance n) s es).history)
led-grown n s [] l = l
led-grown n s (e ∷ es) l = led-grown n (advance n s e) es (led-advance n s e l)

led-started : (n : ℕ) → Led n fresh (happened [])
unfolding happened all_accepted
led-started n = record { accepted = refl; leads-to = refl }

-- the history of any run, refused events among its calls, stands in the list of its length
pub every-history : (n : ℕ) (es : List Event)
    → Memᴰ (happened (grown n es).history) (histories n (length (happened (grown n es).history)) fresh)
every-history n es =
    none-left-out n (length (happened (grown n es).history)) fresh (happened (grown n es).history) refl (led-grown n started es (led-started n)).accepted

-- ---- each text is one bench input

pub record Input (n : ℕ) (es : List Event) : Type 0 where
  pub lines : lines_of (input_text n es) ≡ head_text n ∷ map event_text es
  pub head : head_of (head_text n) ≡ n
  pub commands : map command_of (map event_text es) ≡ map (λ e. accepted (line_of e)) es

pub is-input : (n k : ℕ) → 1 ≤ n → n ≤ 16 → (es : List Event) → Memᴰ es (histories n k fresh) → Input n es
is-input n k low few es m = record {
  lines = input-lines n es;
  head = head-back n low few;
  commands = commands-back es (all-low n fresh es few (no_other n k fresh es m).1);
}

-- the lines of a list's text are those of its inputs, one behind the other: nothing stands before, between or behind them
unfoldable pub all_lines : ℕ → List (List Event) → List (List ℕ)
all_lines n [] = []
all_lines n (h ∷ hs) = (head_text n ∷ map event_text h) ++ all_lines n hs

pub list-lines : (n : ℕ) (hs : List (List Event)) → lines_of (list_text n hs) ≡ all_lines n hs
unfolding list_text input_text all_lines lines_of
list-lines n [] = refl
list-lines n (h ∷ hs) =
    lines_then (head_text n ∷ map event_text h) (list_text n hs) (input-is-lines n h)
    ∙ ap (λ (r : List (List ℕ)). (head_text n ∷ map event_text h) ++ r) (list-lines n hs)

-- a text is no other history's
pub own-text : (n k j : ℕ) → n ≤ 16 → (g h : List Event) → Memᴰ g (histories n k fresh) → Memᴰ h (histories n j fresh)
    → input_text n g ≡ input_text n h → g ≡ h
own-text n k j few g h a b e =
    texts-differ n g h (all-low n fresh g few (no_other n k fresh g a).1) (all-low n fresh h few (no_other n j fresh h b).1) e
