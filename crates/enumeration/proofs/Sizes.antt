-- How long the texts are: 4 + 6 k bytes for each history of k events in a plot of at most three nodes, and at most 27 ^ k histories.
use Prim.Native.Nat.{ℕ, zero, suc, ◌+◌, ◌*◌, ◌/◌, ◌^◌, ◌≤◌, ◌<◌}
use native.Mathlib.Nat.{mul-le-mul, mul-div_cancel}
use native.Mathlib.Omega.{arith}
use mathlib.Core.Bool.{true}
use mathlib.Core.List.{List, [], ◌∷◌, map, Memᴰ}
use mathlib.Core.Path.{◌≡◌, refl, ap, ◌∙◌}
use lib.ListN.{length, length-append, length-map}
use Rattle.basics.proofs.Tests.{Choice, yes!, no!, choice, and_left, and_right}
use Rattle.protocol.specs.Network.{Network, fresh}
use Rattle.protocol.specs.Refusal.{accepts, next}
use Rattle.protocol.specs.Step.{Event}
use Rattle.protocol.proofs.Accepted.{Accepted, accepts-accepted}
use Rattle.text.specs.Text.{in_turn, decimal}
use Rattle.text.proofs.TextLaws.{digits-one}
use Rattle.enumeration.specs.Histories.{all_accepted, pairs_of, candidates, begun, histories}
use Rattle.enumeration.specs.Order.{line_of}
use Rattle.enumeration.specs.Texts.{event_text, head_text, lines_text, input_text, list_text}
use Rattle.enumeration.proofs.Inputs.{numbers-few}
use Rattle.enumeration.proofs.Members.{begun_by, no_other}

-- ---- one history

one : (x : ℕ) → x < 10 → length (decimal x) ≡ 1
one x h = ap length (digits-one 9 x h)

event-size : (n : ℕ) (p : Network) (e : Event) → n ≤ 3 → Accepted n p e → length (event_text e) ≡ 5
unfolding event_text
event-size n p e few ok =
    let h = numbers-few n p e ok in
    omega (
      arith,
      length-append (decimal (line_of e).first) (32 ∷ decimal (line_of e).second),
      one (line_of e).first (omega (arith, h.0, few)),
      one (line_of e).second (omega (arith, h.1, few)),
    )

events-size : (n : ℕ) (p : Network) (es : List Event) → n ≤ 3 → all_accepted n p es ≡ true → length (lines_text (map event_text es)) ≡ 6 * length es
unfolding lines_text all_accepted
events-size n p [] few a = refl
events-size n p (e ∷ es) few a =
    let i = and_left (accepts n p e) (all_accepted n (next n p e) es) a in
    let j = and_right (accepts n p e) (all_accepted n (next n p e) es) a in
    omega (
      arith,
      length-append (event_text e) (10 ∷ lines_text (map event_text es)),
      event-size n p e few (accepts-accepted n p e i),
      events-size n (next n p e) es few j,
    )

pub input-size : (n : ℕ) (p : Network) (es : List Event) → n ≤ 3 → all_accepted n p es ≡ true → length (input_text n es) ≡ 4 + 6 * length es
unfolding input_text lines_text head_text
input-size n p es few a =
    omega (arith, length-append (decimal n) (10 ∷ lines_text (map event_text es)), one n (omega (arith, few)), events-size n p es few a)

-- ---- the whole list

list-size : (n m : ℕ) (hs : List (List Event)) → ((h : List Event) → Memᴰ h hs → length (input_text n h) ≡ m) → length (list_text n hs) ≡ length hs * m
unfolding list_text
list-size n m [] f = omega arith
list-size n m (h ∷ hs) f =
    omega (arith, length-append (input_text n h) (list_text n hs), f h (Memᴰ.head refl), list-size n m hs (λ g i. f g (Memᴰ.tail i)))

pub whole-size : (n k : ℕ) → n ≤ 3 → length (list_text n (histories n k fresh)) ≡ length (histories n k fresh) * (4 + 6 * k)
whole-size n k few =
    list-size n (4 + 6 * k) (histories n k fresh)
    (λ h m. let t = no_other n k fresh h m in input-size n fresh h few t.1 ∙ ap (λ (j : ℕ). 4 + 6 * j) t.0)

pub count-is : (n k : ℕ) → n ≤ 3 → length (list_text n (histories n k fresh)) / (4 + 6 * k) ≡ length (histories n k fresh)
count-is n k few =
    let pos : 0 < 4 + 6 * k = omega arith in
    ap (λ (x : ℕ). x / (4 + 6 * k)) (whole-size n k few) ∙ mul-div_cancel (length (histories n k fresh)) pos

-- ---- how many

with-count : (rest : Network → List (List Event)) (n : ℕ) (p : Network) (e : Event) (b : ℕ) → ((q : Network) → length (rest q) ≤ b)
    → length (begun_by rest n p e (accepts n p e)) ≤ b
with-count rest n p e b h = go (choice (accepts n p e))
  where
    go : Choice (accepts n p e) → length (begun_by rest n p e (accepts n p e)) ≤ b
    go (yes! i) = rw (i, length-map (rest (next n p e)) (λ h. e ∷ h)) (h (next n p e))
    go (no! i) = rw i (omega arith)

begun-count : (rest : Network → List (List Event)) (n : ℕ) (p : Network) (cs : List Event) (b : ℕ) → ((q : Network) → length (rest q) ≤ b)
    → length (begun rest n p cs) ≤ length cs * b
unfolding begun
begun-count rest n p [] b h = omega arith
begun-count rest n p (e ∷ cs) b h =
    omega (arith, length-append (begun_by rest n p e (accepts n p e)) (begun rest n p cs), with-count rest n p e b h, begun-count rest n p cs b h)

few-candidates : (n : ℕ) → n ≤ 3 → length (candidates n) ≤ 27
unfolding candidates pairs_of in_turn
few-candidates zero h = omega arith
few-candidates (suc zero) h = omega arith
few-candidates (suc (suc zero)) h = omega arith
few-candidates (suc (suc (suc zero))) h = omega arith
few-candidates (suc (suc (suc (suc n)))) h = absurd (omega arith)

count_small : (n k : ℕ) (p : Network) → n ≤ 3 → length (histories n k p) ≤ 27 ^ k
unfolding histories
count_small n zero p few = omega arith
count_small n (suc k) p few =
    let b = begun-count (histories n k) n p (candidates n) (27 ^ k) (λ q. count_small n k q few) in
    let c : length (candidates n) * 27 ^ k ≤ 27 * 27 ^ k = mul-le-mul (few-candidates n few) (let i : 27 ^ k ≤ 27 ^ k = omega arith in i) in
    omega (arith, b, c)

power : (k : ℕ) → k ≤ 5 → 27 ^ k ≤ 14348907
power zero h = omega arith
power (suc zero) h = omega arith
power (suc (suc zero)) h = omega arith
power (suc (suc (suc zero))) h = omega arith
power (suc (suc (suc (suc zero)))) h = omega arith
power (suc (suc (suc (suc (suc zero))))) h = omega arith
power (suc (suc (suc (suc (suc (suc k)))))) h = absurd (omega arith)

pub whole-small : (n k : ℕ) → n ≤ 3 → k ≤ 5 → length (list_text n (histories n k fresh)) < 2 ^ 30
whole-small n k few short =
    let a : length (histories n k fresh) ≤ 14348907 = omega (arith, count_small n k fresh few, power k short) in
    let b : 4 + 6 * k ≤ 34 = omega (arith, short) in
    let c : length (histories n k fresh) * (4 + 6 * k) ≤ 14348907 * 34 = mul-le-mul a b in
    omega (arith, whole-size n k few, c)
