-- Lines written as text are read back as lines, and a line of an event or of the head as what it says.
-- Assumes numbers of at most two digits, where it says so.
use Prim.Native.Nat.{ℕ, zero, suc, ◌+◌, ◌-◌, ◌*◌, ◌/◌, ◌%◌, ◌≤◌, ◌<◌}
use native.Mathlib.Omega.{arith}
use mathlib.Core.Bool.{cond}
use mathlib.Core.List.{List, [], ◌∷◌, ◌++◌, map, append_assoc}
use mathlib.Core.Path.{◌≡◌, refl, ap, ap₂, ◌∙◌}
use borrow.Author.Tests.{ne_eqb, lt-ltb, le-leb, ltb-true, ltb-false}
use lib.Dec.{ltb}
use lib.ListN.{length, take, drop}
use lib.Seq.{take-append_seam}
use Rattle.basics.proofs.AllOf.{AllOf, none, more, all_weaker}
use Rattle.basics.proofs.Tests.{Choice, yes!, no!, choice}
use Rattle.commands.specs.Commands.{on_first, lines_of, number_of, to_space, named, command_of, head_of}
use Rattle.protocol.specs.Step.{Event, up, down, receive}
use Rattle.refusal.specs.Outcome.{accepted}
use Rattle.text.specs.Text.{digits, decimal}
use Rattle.text.proofs.TextLaws.{digits-one, digits_more}
use Rattle.enumeration.specs.Order.{line_of}
use Rattle.enumeration.specs.Texts.{event_text, head_text, lines_text}

-- ---- bytes from m on

abbrev pub From : ℕ → List ℕ → Type 0
From m l = AllOf (λ b. m ≤ b) l

-- the byte named
byte : {m : ℕ} (b : ℕ) {l : List ℕ} → m ≤ b → From m l → From m (b ∷ l)
byte b h s = more h s

all_append : {A : Type 0} (P : A → Type 0) (a b : List A) → AllOf P a → AllOf P b → AllOf P (a ++ b)
all_append P a b none t = t
all_append P a b (more {x = x} {xs = l} h s) t = more h (all_append P l b s t)

digits_from : (k x : ℕ) → From 48 (digits k x)
unfolding digits
digits_from zero x = none
digits_from (suc k) x = go (digits_from k (x / 10)) (choice (ltb x 10))
  where
    go : From 48 (digits k (x / 10)) → Choice (ltb x 10) → From 48 (cond (ltb x 10) ((48 + x) ∷ []) (digits k (x / 10) ++ ((48 + x % 10) ∷ [])))
    go r (yes! e) = rw e (byte (48 + x) (omega arith) none)
    go r (no! e) = rw e (all_append (λ b. 48 ≤ b) (digits k (x / 10)) ((48 + x % 10) ∷ []) r (byte (48 + x % 10) (omega arith) none))

decimal-from : (m x : ℕ) → m ≤ 48 → From m (decimal x)
decimal-from m x h = all_weaker (λ b. 48 ≤ b) (λ b. m ≤ b) (λ b i. omega (arith, i, h)) (decimal x) (digits_from 10 x)

-- ---- lines: no byte of one is a newline

abbrev pub Lines : List (List ℕ) → Type 0
Lines ls = AllOf (From 32) ls

pub line_first : (l rest : List ℕ) → From 32 l → lines_of (l ++ (10 ∷ rest)) ≡ l ∷ lines_of rest
unfolding lines_of
line_first l rest none = refl
line_first l rest (more {x = b} {xs = l'} h s) = rw (ne_eqb b 10 (λ e. omega (arith, h, e))) (ap (on_first b) (line_first l' rest s))

-- lines as text, with more behind them
pub lines_then : (ls : List (List ℕ)) (rest : List ℕ) → Lines ls → lines_of (lines_text ls ++ rest) ≡ ls ++ lines_of rest
unfolding lines_text
lines_then ls rest none = refl
lines_then ls rest (more {x = l} {xs = m} a s) =
    ap lines_of (append_assoc l (10 ∷ lines_text m) rest) ∙ line_first l (lines_text m ++ rest) a ∙ ap (λ (r : List (List ℕ)). l ∷ r) (lines_then m rest s)

letter-high : (e : Event) → 32 ≤ (line_of e).letter
letter-high (up u v) = omega arith
letter-high (down u v) = omega arith
letter-high (receive v u) = omega arith

event-line : (e : Event) → From 32 (event_text e)
unfolding event_text
event-line e =
    byte (line_of e).letter (letter-high e) (byte 32 (omega arith) (all_append (λ b. 32 ≤ b) (decimal (line_of e).first) (32 ∷ decimal (line_of e).second)
    (decimal-from 32 (line_of e).first (omega arith)) (byte 32 (omega arith) (decimal-from 32 (line_of e).second (omega arith)))))

head-line : (n : ℕ) → From 32 (head_text n)
unfolding head_text
head-line n = byte 78 (omega arith) (byte 32 (omega arith) (decimal-from 32 n (omega arith)))

event-lines : (es : List Event) → Lines (map event_text es)
event-lines [] = none
event-lines (e ∷ es) = more (event-line e) (event-lines es)

pub input-is-lines : (n : ℕ) (es : List Event) → Lines (head_text n ∷ map event_text es)
input-is-lines n es = more (head-line n) (event-lines es)

-- ---- numbers

one-back : (x : ℕ) → x < 10 → number_of ((48 + x) ∷ []) ≡ x
unfolding number_of
one-back x h = rw (le-leb 48 (48 + x) (omega arith), le-leb (48 + x) 57 (omega arith)) (omega arith)

two_back : (y z : ℕ) → 1 ≤ y → y < 10 → z < 10 → number_of ((48 + y) ∷ (48 + z) ∷ []) ≡ 10 * y + z
unfolding number_of
two_back y z l h k =
    rw (
      le-leb 48 (48 + y) (omega arith),
      le-leb (48 + y) 57 (omega arith),
      le-leb 48 (48 + z) (omega arith),
      le-leb (48 + z) 57 (omega arith),
      ne_eqb (48 + y) 48 (λ e. omega (arith, e, l)),
    ) (omega arith)

number-back : (x : ℕ) → x < 100 → number_of (decimal x) ≡ x
number-back x h = go (choice (ltb x 10))
  where
    go : Choice (ltb x 10) → number_of (decimal x) ≡ x
    go (yes! e) = let i : x < 10 = ltb-true x 10 e in ap number_of (digits-one 9 x i) ∙ one-back x i
    go (no! e) =
        let i : 10 ≤ x = ltb-false x 10 e in
        let l : 1 ≤ x / 10 = omega arith in
        let q : x / 10 < 10 = omega arith in
        let r : x % 10 < 10 = omega arith in
        let d : 10 * (x / 10) + x % 10 ≡ x = omega arith in
        ap number_of (digits_more 9 x i ∙ ap (λ (a : List ℕ). a ++ ((48 + x % 10) ∷ [])) (digits-one 8 (x / 10) q)) ∙ two_back (x / 10) (x % 10) l q r ∙ d

-- ---- an event's line

to_space-decimal : (a b : List ℕ) → From 33 a → to_space (a ++ (32 ∷ b)) ≡ length a
unfolding to_space
to_space-decimal a b none = refl
to_space-decimal a b (more {x = x} {xs = l} h s) = rw (ne_eqb x 32 (λ e. omega (arith, h, e))) (ap suc (to_space-decimal l b s))

drop-front : (a : List ℕ) (x : ℕ) (b : List ℕ) → drop (suc (length a)) (a ++ (x ∷ b)) ≡ b
drop-front [] x b = refl
drop-front (y ∷ a) x b = drop-front a x b

line-back : (k a b : ℕ) → a < 100 → b < 100 → command_of (k ∷ 32 ∷ (decimal a ++ (32 ∷ decimal b))) ≡ named k a b
unfolding command_of
line-back k a b h i =
    let m = decimal a ++ (32 ∷ decimal b) in
    let s : to_space m ≡ length (decimal a) = to_space-decimal (decimal a) (decimal b) (decimal-from 33 a (omega arith)) in
    let first : number_of (take (to_space m) m) ≡ a =
    ap (λ (j : ℕ). number_of (take j m)) s ∙ ap number_of (take-append_seam (decimal a) (32 ∷ decimal b)) ∙ number-back a h in
    let second : number_of (drop (suc (to_space m)) m) ≡ b =
    ap (λ (j : ℕ). number_of (drop (suc j) m)) s ∙ ap number_of (drop-front (decimal a) 32 (decimal b)) ∙ number-back b i in
    ap₂ (named k) first second

-- numbers of at most two digits
pub record Low (e : Event) : Type 0 where
  pub first : (line_of e).first < 100
  pub second : (line_of e).second < 100

pub command-back : (e : Event) → Low e → command_of (event_text e) ≡ accepted (line_of e)
unfolding event_text named
command-back (up u v) l = line-back 85 u v l.first l.second ∙ rw (lt-ltb u 100 l.first, lt-ltb v 100 l.second)
command-back (down u v) l = line-back 68 u v l.first l.second ∙ rw (lt-ltb u 100 l.first, lt-ltb v 100 l.second)
command-back (receive v u) l = line-back 77 v u l.first l.second ∙ rw (lt-ltb v 100 l.first, lt-ltb u 100 l.second)

-- ---- the head

pub head-back : (n : ℕ) → 1 ≤ n → n ≤ 16 → head_of (head_text n) ≡ n
unfolding head_of head_text
head-back n l h = rw (number-back n (omega arith), le-leb 1 n l, le-leb n 16 h)
