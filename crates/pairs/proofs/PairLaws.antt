-- What the code finds of a pair: a node in a word, the own height, a view, the messages of a cell one by one, the zero words after them.
use Prim.Native.Nat.{ℕ, zero, suc, ◌+◌, ◌-◌, ◌*◌, ◌/◌, ◌%◌, ◌^◌, ◌≤◌, ◌<◌}
use native.Mathlib.Omega.{arith}
use mathlib.Core.Bool.{Bool, true, false, ◌&&◌, ◌||◌, and-true, and-false, or-true, or-false}
use mathlib.Core.List.{List, [], ◌∷◌}
use mathlib.Core.Path.{◌≡◌, refl, sym, ap, ◌∙◌}
use lib.Dec.{eqb}
use lib.IntN.{pos, neg_ℤ}
use lib.ListN.{get_or, take, drop}
use lib.Seq.{get_or-take, get_or-drop}
use lib.Signed.{le_z}
use borrow.Author.Tests.{le-leb, lt-leb, eq-eqb, ne_eqb}
use Rattle.basics.specs.Functions.{all}
use Rattle.basics.proofs.Tests.{clash, Choice, yes!, no!, choice, and_left, and_right}
use Rattle.height.specs.Clock.{last_time}
use Rattle.height.specs.Height.{zero_height}
use Rattle.height.specs.Words.{height_at, delta_of}
use Rattle.nodeset.specs.NodeSet.{member, within}
use Rattle.protocol.specs.Holds.{height_holds, message_holds, sets_hold}
use Rattle.protocol.specs.Network.{Message}
use Rattle.protocol.specs.Times.{times_within, message_timely}
use Rattle.tables.specs.Cell.{count, message_at, messages_at, queue, all_zero}
use Rattle.tables.specs.Row.{clock_in, neighbors_in, forming_in, height_in}
use Rattle.tables.specs.Rows.{part}
use Rattle.tables.proofs.WordRuns.{zero-at}
use Rattle.pairs.specs.Pair.{own_sound, view_sound, channel_sound, pair_sound, timely_in}
use Rattle.pairs.specs.inner.Findings.{finding, passes, joined}
use Rattle.pairs.specs.inner.ReadCell.{ReadCell}
use Rattle.pairs.specs.declared.Finding.TheVariants.{Good, Untimely, Faulty}
use Rattle.pairs.specs.declared.Finding.{Finding}

-- ---- a node in a word

-- the code's (word >> (v - 1)) % 2
pub bit-member : (word v : ℕ) → 1 ≤ v → eqb (word / 2 ^ (v - 1) % 2) 1 ≡ member word v
unfolding member
bit-member word zero l = absurd (omega arith)
bit-member word (suc k) l = let e : suc k - 1 ≡ k = omega arith in rw e

-- ---- zero words

-- seven zero words are the zero height
pub zero-view : (row : List ℕ) (v : ℕ) → 1 ≤ v → all_zero (part (3 + (v - 1) * 7) 7 row) ≡ true → height_in row v ≡ zero_height
unfolding height_in height_at delta_of
zero-view row zero l e = absurd (omega arith)
zero-view row (suc k) l e =
    let same! : suc k - 1 ≡ k = omega arith in
    let at : (j : ℕ) → j < 7 → get_or row (3 + k * 7 + j) 0 ≡ 0 =
    λ j h. sym (get_or-drop (3 + k * 7) row j 0) ∙ sym (get_or-take 7 (drop (3 + k * 7) row) j 0 h) ∙ zero-at (part (3 + k * 7) 7 row) (rw same! at e) j in
    let first : get_or row (3 + k * 7) 0 ≡ 0 = ap (λ (i : ℕ). get_or row i 0) (omega arith) ∙ at 0 (omega arith) in
    rw (first, at 1 (omega arith), at 2 (omega arith), at 3 (omega arith), at 4 (omega arith), at 5 (omega arith), at 6 (omega arith))

-- it has no times
none-elected : (c : ℕ) → le_z (neg_ℤ (pos c)) (pos 0) ≡ true
none-elected zero = refl
none-elected (suc c) = refl

pub no-messages : (cell : List ℕ) → all_zero cell ≡ true → queue cell ≡ []
unfolding queue messages_at
no-messages cell z = rw (zero-at cell z 0)

-- ---- what is found

-- a rule is broken, whatever the times are
pub faulty : {sound : Bool} (timely : Bool) → sound ≡ false → Faulty ≡ finding sound timely
faulty timely e = rw e

pub good : {sound timely : Bool} → sound ≡ true → timely ≡ true → Good ≡ finding sound timely
good e t = rw (e, t)

pub untimely : {sound timely : Bool} → sound ≡ true → timely ≡ false → Untimely ≡ finding sound timely
untimely e t = rw (e, t)

-- both findings of a pair
pub both_found : (s t x y : Bool) → joined (finding s t) (finding x y) ≡ finding (s && x) (t && y)
both_found true true x y = refl
both_found true false true true = refl
both_found true false true false = refl
both_found true false false y = refl
both_found false t x y = refl

-- what is found tells both tests
pub found-faulty : {f : Finding} (s t : Bool) → f ≡ finding s t → f ≡ Faulty → s ≡ false
found-faulty true true e h = cc
found-faulty true false e h = cc
found-faulty false t e h = refl

pub found-good : {f : Finding} (s t : Bool) → f ≡ finding s t → f ≡ Good → (s ≡ true) × (t ≡ true)
found-good true true e h = (refl, refl)
found-good true false e h = cc
found-good false t e h = cc

pub found-untimely : {f : Finding} (s t : Bool) → f ≡ finding s t → f ≡ Untimely → (s ≡ true) × (t ≡ false)
found-untimely true true e h = cc
found-untimely true false e h = (refl, refl)
found-untimely false t e h = cc

-- ---- the own height

module _ (n u : ℕ) (row cell : List ℕ) where
  abbrev pub sets_test : Bool
  sets_test = within n (neighbors_in row) && within n (forming_in row) && sets_hold n u (member (neighbors_in row)) (member (forming_in row))

  pub own-faulty : (sets_test && all_zero cell) ≡ false → Faulty ≡ finding (own_sound n u row cell) (timely_in u row cell)
  unfolding own_sound
  own-faulty e = go sets_test (all_zero cell) (height_holds n u (height_in row u)) e
    where
      go : (s z h : Bool) → (s && z) ≡ false → Faulty ≡ finding (s && h && z) (timely_in u row cell)
      go true true h e = clash refl e
      go true false h e = faulty (timely_in u row cell) (and-false h)
      go false z h e = refl

  pub own-found : (sets_test && all_zero cell) ≡ true
      → finding (height_holds n u (height_in row u)) (times_within (clock_in row) (height_in row u)) ≡ finding (own_sound n u row cell) (timely_in u row cell)
  unfolding own_sound timely_in all
  own-found e =
      let z : all_zero cell ≡ true = and_right sets_test (all_zero cell) e in
      rw (
        and_left sets_test (all_zero cell) e,
        z,
        no-messages cell z,
        and-true (height_holds n u (height_in row u)),
        and-true (times_within (clock_in row) (height_in row u)),
      )

-- ---- a view

module _ (n v : ℕ) (row : List ℕ) where
  pub view-linked : member (neighbors_in row) v ≡ true
      → finding (height_holds n v (height_in row v)) (times_within (clock_in row) (height_in row v))
      ≡ finding (view_sound n v row) (times_within (clock_in row) (height_in row v))
  unfolding view_sound
  view-linked m = rw m

  pub view-absent : member (neighbors_in row) v ≡ false → 1 ≤ v
      → finding (all_zero (part (3 + (v - 1) * 7) 7 row)) true ≡ finding (view_sound n v row) (times_within (clock_in row) (height_in row v))
  unfolding view_sound times_within
  view-absent m low = rw m (go (choice (all_zero (part (3 + (v - 1) * 7) 7 row))))
    where
      go : Choice (all_zero (part (3 + (v - 1) * 7) 7 row))
          → finding (all_zero (part (3 + (v - 1) * 7) 7 row)) true
          ≡ finding (all_zero (part (3 + (v - 1) * 7) 7 row)) (times_within (clock_in row) (height_in row v))
      go (yes! z) = rw (zero-view row v low z, le-leb 0 (clock_in row) (omega arith), none-elected (clock_in row))
      go (no! z) = rw z

-- ---- the messages of a cell

-- every word is a time, so a stamp needs no test
pub holds-by-height : (n u : ℕ) (cell : List ℕ) (i : ℕ) → get_or cell (i + 7) 0 ≤ last_time → message_holds n u (message_at cell i) ≡ height_holds n u (height_at cell i)
unfolding message_holds message_at
holds-by-height n u cell i stamped = rw (le-leb (get_or cell (i + 7) 0) last_time stamped) (and-true (height_holds n u (height_at cell i)))

-- both tests of a message: the stamp beside the clock, then the height and its times beside the stamp
module _ (n u c : ℕ) (cell : List ℕ) (i : ℕ) where
  pub stamp-above : c < get_or cell (i + 7) 0 → false ≡ passes n u c (message_at cell i)
  unfolding passes message_timely message_at
  stamp-above l = rw (lt-leb (get_or cell (i + 7) 0) c l) (sym (and-false (message_holds n u (message_at cell i))))

  pub passes-by-height : get_or cell (i + 7) 0 ≤ c → get_or cell (i + 7) 0 ≤ last_time
      → (height_holds n u (height_at cell i) && times_within (get_or cell (i + 7) 0) (height_at cell i)) ≡ passes n u c (message_at cell i)
  unfolding passes message_timely message_at
  passes-by-height l stamped = rw (le-leb (get_or cell (i + 7) 0) c l, holds-by-height n u cell i stamped)

-- both tests of a list of messages
pub all-passes : (n u c : ℕ) (ms : List Message) → all (passes n u c) ms ≡ (all (message_holds n u) ms && all (message_timely c) ms)
unfolding all passes
all-passes n u c [] = refl
all-passes n u c (m ∷ ms) = rw (all-passes n u c ms) (go (message_holds n u m) (message_timely c m) (all (message_holds n u) ms) (all (message_timely c) ms))
  where
    go : (a b x y : Bool) → (a && b && (x && y)) ≡ (a && x && (b && y))
    go true true x y = refl
    go true false x y = sym (and-false x)
    go false b x y = refl

-- what they show of the rules and of the times
module _ (n u c : ℕ) (ms : List Message) where
  pub messages-good : all (passes n u c) ms ≡ true → Good ≡ finding (all (message_holds n u) ms) (all (message_timely c) ms)
  messages-good e =
      let q = sym (all-passes n u c ms) ∙ e in
      good (and_left (all (message_holds n u) ms) (all (message_timely c) ms) q) (and_right (all (message_holds n u) ms) (all (message_timely c) ms) q)

  pub messages-untimely : all (passes n u c) ms ≡ false → all (message_holds n u) ms ≡ true → Untimely ≡ finding (all (message_holds n u) ms) (all (message_timely c) ms)
  messages-untimely e h = untimely h (rw h at (sym (all-passes n u c ms) ∙ e))

-- with message k next: what is to be answered is what the messages from k on are
pub record MessagesFrom (test : Message → Bool) (cell : List ℕ) (size k : ℕ) : Type 0 where
  pub inside : k ≤ size
  pub same : all test (messages_at size cell 1) ≡ all test (messages_at (size - k) cell (1 + k * 8))

module _ (test : Message → Bool) (cell : List ℕ) (size : ℕ) where
  abbrev All : Bool
  All = all test (messages_at size cell 1)

  pub messages-start : MessagesFrom test cell size 0
  messages-start = let e : size - 0 ≡ size = omega arith in record { inside = omega arith; same = rw e }

  module _ (k : ℕ) (r : MessagesFrom test cell size k) where
    module _ (l : k < size) where
      next-is : all test (messages_at (size - k) cell (1 + k * 8)) ≡ (test (message_at cell (1 + k * 8)) && all test (messages_at (size - (k + 1)) cell (1 + (k + 1) * 8)))
      unfolding all messages_at
      next-is =
          let e : size - k ≡ suc (size - (k + 1)) = omega arith in
          let g : 1 + k * 8 + 8 ≡ 1 + (k + 1) * 8 = omega arith in
          rw (e, g)

      pub messages-next : test (message_at cell (1 + k * 8)) ≡ true → MessagesFrom test cell size (k + 1)
      messages-next h = record { inside = omega arith; same = r.same ∙ next-is ∙ rw h }

      pub messages-fail : test (message_at cell (1 + k * 8)) ≡ false → All ≡ false
      messages-fail h = r.same ∙ next-is ∙ rw h

    pub messages-end : size ≤ k → All ≡ true
    unfolding all messages_at
    messages-end l = let past : size - k ≡ 0 = omega arith in r.same ∙ rw past

-- ---- a channel

-- the words after the messages of a cell that was read
pub rest_of : (cell : List ℕ) → ReadCell cell → (k : ℕ) → k ≡ count cell → all_zero (drop (1 + k * 8) cell) ≡ true
rest_of cell read k e = rw e read.rest

-- the words after a count of 0
zero-first : (cell : List ℕ) → count cell ≡ 0 → all_zero cell ≡ all_zero (drop 1 cell)
unfolding all_zero
zero-first [] e = refl
zero-first (w ∷ ws) e = rw e

module _ (n u v : ℕ) (row cell : List ℕ) (k : ℕ) (counted : k ≡ count cell) where
  abbrev Up : Bool
  Up = member (neighbors_in row) v || member (forming_in row) v

  abbrev ChannelFinding : Finding
  ChannelFinding = finding (channel_sound n u v row cell) (all (message_timely (clock_in row)) (queue cell))

  -- nothing waits
  pub channel-empty : k ≡ 0 → finding (all_zero cell) true ≡ ChannelFinding
  unfolding channel_sound queue messages_at all
  channel-empty e = rw (zero-first cell (sym counted ∙ e), ← counted, e, or-true Up)

  pub channel-read-empty : ReadCell cell → k ≡ 0 → Good ≡ ChannelFinding
  channel-read-empty read e =
      good {timely = true} (zero-first cell (sym counted ∙ e) ∙ (rw e at (rest_of cell read k counted))) refl ∙ channel-empty e

  pub channel-over : 8 < k → Faulty ≡ ChannelFinding
  unfolding channel_sound
  channel-over l = rw (← counted, lt-leb k 8 l)

  -- something waits
  module _ (some : k ≡ 0 → ⊥) (few : k ≤ 8) where
    pub channel-faulty : (Up && all_zero (drop (1 + k * 8) cell)) ≡ false → Faulty ≡ ChannelFinding
    unfolding channel_sound
    channel-faulty e =
        rw (← counted, le-leb k 8 few, ne_eqb k 0 some, or-false Up)
        (faulty (all (message_timely (clock_in row)) (queue cell)) (go Up (all_zero (drop (1 + k * 8) cell)) (all (message_holds n u) (queue cell)) e))
      where
        go : (a z m : Bool) → (a && z) ≡ false → (a && m && z) ≡ false
        go true true m e = clash refl e
        go true false m e = and-false m
        go false z m e = refl

    pub channel-found : (Up && all_zero (drop (1 + k * 8) cell)) ≡ true
        → finding (all (message_holds n u) (messages_at k cell 1)) (all (message_timely (clock_in row)) (messages_at k cell 1)) ≡ ChannelFinding
    unfolding channel_sound queue
    channel-found e =
        let up = and_left Up (all_zero (drop (1 + k * 8) cell)) e in
        let rest = and_right Up (all_zero (drop (1 + k * 8) cell)) e in
        rw (← counted, le-leb k 8 few, up, rest, and-true (all (message_holds n u) (messages_at k cell 1)))

-- ---- the pair

module _ (n u v : ℕ) (row cell : List ℕ) where
  abbrev pub PairFinding : Finding
  PairFinding = finding (pair_sound n u v row cell) (timely_in v row cell)

  pub pair-own : {f : Finding} → u ≡ v → f ≡ finding (own_sound n u row cell) (timely_in u row cell) → f ≡ PairFinding
  unfolding pair_sound
  pair-own e q = q ∙ rw (eq-eqb u v e, e)

  pub pair-other : {f g h : Finding} → (u ≡ v → ⊥) → f ≡ finding (view_sound n v row) (times_within (clock_in row) (height_in row v))
      → g ≡ finding (channel_sound n u v row cell) (all (message_timely (clock_in row)) (queue cell)) → h ≡ joined f g → h ≡ PairFinding
  unfolding pair_sound timely_in
  pair-other d p q e =
      rw (ne_eqb u v d)
      (e ∙ rw (p, q)
      (both_found (view_sound n v row) (times_within (clock_in row) (height_in row v)) (channel_sound n u v row cell)
      (all (message_timely (clock_in row)) (queue cell))))

-- ---- a part of a slice

-- `&xs[s..s + k]`, which starts at a
pub slice-part : (s a k : ℕ) (xs : List ℕ) → s ≡ a → take (s + k - s) (drop s xs) ≡ part a k xs
slice-part s a k xs start = let e : a + k - a ≡ k = omega arith in rw (start, e)
