-- Channels: an empty one, one after a message is posted, and what an event leaves of one before it sends.
use Prim.Native.Nat.{ℕ, ◌+◌, ◌≤◌}
use native.Mathlib.Omega.{arith}
use mathlib.Core.Bool.{Bool, true, false}
use mathlib.Core.List.{List, [], ◌∷◌, tail}
use mathlib.Core.Path.{◌≡◌, refl, ◌∙◌}
use lib.ListN.{length}
use borrow.Author.Tests.{ne_eqb}
use Rattle.basics.proofs.AllOf.{AllOf, none, all_snoc, all_tail}
use Rattle.basics.proofs.FunctionsLaws.{cell_at, cell-off}
use Rattle.basics.proofs.Tests.{clash, Choice, yes!, no!, choice, both_equal}
use Rattle.nodeset.specs.NodeSet.{digit}
use Rattle.protocol.specs.Holds.{is_empty}
use Rattle.protocol.specs.Network.{Message, Network}
use Rattle.protocol.specs.Step.{is_down, is_receipt, Event, up, down, receive, home, cleared, post}

-- ---- empty: by its length, and by the test

pub no_length : (ms : List Message) → length ms ≡ 0 → ms ≡ []
no_length [] e = refl
no_length (m ∷ ms) e = absurd (omega arith)

pub is-empty : (ms : List Message) → is_empty ms ≡ true → ms ≡ []
is-empty [] e = refl
is-empty (m ∷ ms) e = clash e refl

pub empty-is : (ms : List Message) → ms ≡ [] → is_empty ms ≡ true
empty-is ms e = rw e

-- ---- a message is posted

pub length-post : (b : Bool) (m : Message) (ms : List Message) → length (post b m ms) ≡ digit b + length ms
unfolding post
length-post false m ms = omega arith
length-post true m [] = refl
length-post true m (x ∷ ms) = omega (arith, length-post true m ms)

pub post-all : (P : Message → Type 0) (b : Bool) (m : Message) (ms : List Message) → P m → AllOf P ms → AllOf P (post b m ms)
unfolding post
post-all P false m ms h k = k
post-all P true m ms h k = all_snoc P ms m k h

-- ---- what an event clears

-- a cleared channel is the channel, its tail, or empty
pub data Cleared (old new : List Message) : Type 0 where
  is_whole : new ≡ old → Cleared old new
  is_tail : new ≡ tail old → Cleared old new
  is_gone : new ≡ [] → Cleared old new

pub cleared-down : (p : Network) (e : Event) (a b : ℕ) → is_down e a b ≡ true → cleared p e a b ≡ []
cleared-down p (up u v) a b i = clash i refl
cleared-down p (down u v) a b i = cell_at p.channel u v [] a b i
cleared-down p (receive v u) a b i = clash i refl

pub cleared-receipt : (p : Network) (e : Event) (a b : ℕ) → is_receipt e a b ≡ true → cleared p e a b ≡ tail (p.channel a b)
cleared-receipt p (up u v) a b i = clash i refl
cleared-receipt p (down u v) a b i = clash i refl
cleared-receipt p (receive v u) a b i =
    let q = both_equal a v b u i in
    cell_at p.channel v u (tail (p.channel v u)) a b i ∙ rw (q.0, q.1)

-- only the event's own node takes a channel down
pub not-down : (e : Event) (a b : ℕ) → (a ≡ home e → ⊥) → is_down e a b ≡ false
not-down (up u v) a b d = refl
not-down (down u v) a b d = rw (ne_eqb a u d)
not-down (receive v u) a b d = refl

-- a channel that neither goes down nor is received from
pub cleared-off : (p : Network) (e : Event) (a b : ℕ) → is_down e a b ≡ false → is_receipt e a b ≡ false → cleared p e a b ≡ p.channel a b
cleared-off p (up u v) a b d r = refl
cleared-off p (down u v) a b d r = cell-off p.channel u v [] a b d
cleared-off p (receive v u) a b d r = cell-off p.channel v u (tail (p.channel v u)) a b r

pub cleared-is : (p : Network) (e : Event) (a b : ℕ) → Cleared (p.channel a b) (cleared p e a b)
cleared-is p e a b = go (choice (is_down e a b)) (choice (is_receipt e a b))
  where
    go : Choice (is_down e a b) → Choice (is_receipt e a b) → Cleared (p.channel a b) (cleared p e a b)
    go (yes! d) r = is_gone (cleared-down p e a b d)
    go (no! d) (yes! r) = is_tail (cleared-receipt p e a b r)
    go (no! d) (no! r) = is_whole (cleared-off p e a b d r)

tail-short : (ms : List Message) (k : ℕ) → length ms ≤ k → length (tail ms) ≤ k
tail-short [] k h = h
tail-short (m ∷ ms) k h = omega arith

pub cleared-short : (old new : List Message) (k : ℕ) → Cleared old new → length old ≤ k → length new ≤ k
cleared-short old new k (is_whole e) h = rw e h
cleared-short old new k (is_tail e) h = rw e (tail-short old k h)
cleared-short old new k (is_gone e) h = rw e (omega arith)

pub cleared-nil : (old new : List Message) → Cleared old new → old ≡ [] → new ≡ []
cleared-nil old new (is_whole e) h = e ∙ h
cleared-nil old new (is_tail e) h = rw (e, h)
cleared-nil old new (is_gone e) h = e

pub cleared-all : (P : Message → Type 0) (old new : List Message) → Cleared old new → AllOf P old → AllOf P new
cleared-all P old new (is_whole e) h = rw e h
cleared-all P old new (is_tail e) h = rw e (all_tail P old h)
cleared-all P old new (is_gone e) h = rw e none
