-- A network whose numbers fit in words is what its tables load to: `load n (tables_of n p) ≡ p`.
-- Assumes that p holds nothing beyond node n and that its heights and channels fit (`Storable`); every good network does.
use Prim.Native.Nat.{ℕ, zero, suc, ◌+◌, ◌*◌, ◌<◌, ◌≤◌}
use native.Mathlib.Nat.{zero-add}
use native.Mathlib.Omega.{arith}
use mathlib.Core.Bool.{Bool, false, cond}
use mathlib.Core.List.{List, [], ◌∷◌, ◌++◌, map}
use mathlib.Core.Logic.{◌⊎◌, inl, inr}
use mathlib.Core.Path.{◌≡◌, refl, sym, ap, ◌∙◌, fun_ext}
use lib.Dec.{eqb, leb}
use lib.ListN.{get_or, length, take, drop, length-map}
use lib.Seq.{get_or-take, get_or-drop, get_or-append-add}
use borrow.Author.Tests.{ne_eqb, leb-false, le-leb}
use Rattle.basics.proofs.AllOf.{AllOf, none, more, all_weaker}
use Rattle.basics.proofs.Tests.{clash, Choice, yes!, no!, choice, equal?}
use Rattle.height.specs.Words.{height_at, height_words}
use Rattle.height.proofs.WordsLaws.{same-words, words-height}
use Rattle.nodeset.specs.NodeSet.{member, set_of}
use Rattle.nodeset.proofs.Members.{member-set_of, set_of-lt, none_above, member-zero}
use Rattle.protocol.specs.Network.{Node, Message, Network, is_node, fresh, at_nodes, at_pairs, restrict}
use Rattle.protocol.proofs.NodeLaws.{is-node}
use Rattle.protocol.proofs.Restrict.{restrict-is, same_nodes, same-pairs}
use Rattle.protocol.proofs.Soundness.{Fits, MessageFits}
use Rattle.tables.specs.Cell.{message_at, messages_at, queue, message_words}
use Rattle.tables.specs.Load.{load, tables_of, clock_at, neighbors_at, forming_at, heights_at, messages_on}
use Rattle.tables.specs.Records.{records_of, row_words, slot_words, cell_words}
use Rattle.tables.specs.Row.{clock_in, neighbors_in, forming_in, height_in}
use Rattle.tables.specs.Rows.{row_at, rows}
use Rattle.tables.specs.Tables.{width, node_of, channel_of}
use Rattle.tables.specs.inner.Fit.{Sized}
use Rattle.tables.proofs.CellLaws.{messages-moved}
use Rattle.tables.proofs.RecordsLaws.{words-length, message-length, network-shaped, length-row, made-sized, node-from, channel-from}
use Rattle.tables.proofs.RowLaws.{height-past}
use Rattle.tables.proofs.RowsMore.{rows_at}
use Rattle.tables.proofs.Wordy.{Wordy, fits-wordy, zero-wordy}

-- its height's words give the height back
abbrev pub WordyMessage : Message → Type 0
WordyMessage m = Wordy m.height

pub record Storable (n : ℕ) (p : Network) : Type 0 where
  pub inside : restrict n p ≡ p
  pub heights : (u v : ℕ) → Node n u → Node n v → Wordy (p.height u v)
  pub messages : (u v : ℕ) → Node n u → Node n v → AllOf WordyMessage (p.channel u v)
  pub short : (u v : ℕ) → Node n u → Node n v → length (p.channel u v) ≤ 8

-- ---- a node's words

-- a height read in a row of words
height-row : (ws : List ℕ) (i : ℕ) → height_at ws (i * 7) ≡ height_at (row_at 7 i ws) 0
unfolding row_at
height-row ws i =
    same-words ws (take 7 (drop (i * 7) ws)) (i * 7) 0
    (λ k l. sym (ap (λ (x : ℕ). get_or (take 7 (drop (i * 7) ws)) x 0) (zero-add k)
    ∙ get_or-take 7 (drop (i * 7) ws) k 0 l ∙ get_or-drop (i * 7) ws k 0))

past_three : (a b c : ℕ) (ws : List ℕ) (i : ℕ) → height_at (a ∷ b ∷ c ∷ ws) (3 + i) ≡ height_at ws i
past_three a b c ws i =
    same-words (a ∷ b ∷ c ∷ ws) ws (3 + i) i
    (λ k l. let e : 3 + i + k ≡ 3 + (i + k) = omega arith in rw e (get_or-append-add (a ∷ b ∷ c ∷ []) ws (i + k) 0))

pub node-height : (n : ℕ) (p : Network) (u k : ℕ) → k < n → Wordy (p.height u (suc k)) → height_in (row_words n (records_of n p) u) (suc k) ≡ p.height u (suc k)
unfolding row_words records_of height_in
node-height n p u k l w =
    let f : ℕ → List ℕ = λ v. height_words (p.height u v) in
    past_three (p.clock u) (set_of n (p.neighbors u)) (set_of n (p.forming u)) (rows n f) (k * 7)
    ∙ height-row (rows n f) k
    ∙ ap (λ (xs : List ℕ). height_at xs 0) (rows_at 7 n f (λ i _. words-length (p.height u (suc i))) k l)
    ∙ words-height (p.height u (suc k)) w.delta w.nlts

-- ---- a channel's words

message-back : (m : Message) (rest : List ℕ) → Wordy m.height → message_at (message_words m ++ rest) 0 ≡ m
unfolding message_at message_words height_words
message-back m rest w =
    let e : height_at ((height_words m.height ++ (m.timestamp ∷ [])) ++ rest) 0 ≡ m.height =
    unfold height_at height_words in words-height m.height w.delta w.nlts in
    rw e

slots-back : (k : ℕ) (ms : List Message) → AllOf WordyMessage ms → length ms ≤ k → messages_at (length ms) (slot_words k (map message_words ms)) 0 ≡ ms
unfolding messages_at slot_words
slots-back k ms none l = refl
slots-back zero ms (more w ws) l = absurd (omega arith)
slots-back (suc k) ms (more {x = m} {xs = rest} w ws) l =
    let xs : List ℕ = slot_words k (map message_words rest) in
    let ih = slots-back k rest ws (omega arith) in
    let shifted : messages_at (length rest) (message_words m ++ xs) (0 + 8) ≡ messages_at (length rest) xs 0 =
    messages-moved (length rest) (message_words m ++ xs) xs (0 + 8) 0
    (λ j q. let e : 0 + 8 + j ≡ length (message_words m) + j = omega (arith, message-length m) in
    let f : 0 + j ≡ j = omega arith in rw (e, f) (get_or-append-add (message_words m) xs j 0)) in
    rw (message-back m xs w, shifted, ih)

pub queue-back : (ms : List Message) → AllOf WordyMessage ms → length ms ≤ 8 → queue (cell_words (map message_words ms)) ≡ ms
unfolding queue cell_words
queue-back ms w l =
    let xs : List ℕ = slot_words 8 (map message_words ms) in
    ap (λ (k : ℕ). messages_at k (length (map message_words ms) ∷ xs) 1) (length-map ms message_words)
    ∙ messages-moved (length ms) (length (map message_words ms) ∷ xs) xs 1 0
    (λ j q. let e : 0 + j ≡ j = omega arith in rw e (get_or-append-add (length (map message_words ms) ∷ []) xs j 0))
    ∙ slots-back 8 ms w l

-- ---- a set's members, at any number

outside : (n k : ℕ) → is_node n (suc k) ≡ false → n ≤ k
outside n k e = go (choice (leb (suc k) n))
  where
    go : Choice (leb (suc k) n) → n ≤ k
    go (yes! f) = clash (rw (le-leb 1 (suc k) (omega arith), f)) e
    go (no! f) = omega (arith, leb-false (suc k) n f)

pub set_back : (n : ℕ) (f : ℕ → Bool) (k : ℕ) → member (set_of n f) k ≡ cond (is_node n k) (f k) false
set_back n f zero = member-zero (set_of n f)
set_back n f (suc k) = go (choice (is_node n (suc k)))
  where
    go : Choice (is_node n (suc k)) → member (set_of n f) (suc k) ≡ cond (is_node n (suc k)) (f (suc k)) false
    go (yes! e) = let s = is-node n (suc k) e in rw e (member-set_of n f (suc k) s.low s.high)
    go (no! e) = rw e (none_above n (set_of n f) (suc k) (set_of-lt n f) (omega (arith, outside n k e)))

-- ---- the network

module _ (n : ℕ) (p : Network) where
  pub node-of : (u : ℕ) → Node n u → node_of n u (tables_of n p).nodes ≡ row_words n (records_of n p) u
  unfolding tables_of
  node-of u a = node-from n (records_of n p) (network-shaped n p) u a

  pub cell-of : (u v : ℕ) → Node n u → Node n v → channel_of n u v (tables_of n p).channels ≡ cell_words (map message_words (p.channel u v))
  unfolding tables_of records_of
  cell-of u v a b = channel-from n (records_of n p) (network-shaped n p) u v a b

  pub tables-sized : 1 ≤ n → n ≤ 16 → Sized n (tables_of n p)
  unfolding tables_of
  tables-sized l h = made-sized n (records_of n p) (network-shaped n p) l h

module _ (n : ℕ) (p : Network) (ok : Storable n p) where
  wide : (u : ℕ) → Node n u → length (row_words n (records_of n p) u) ≡ width n
  wide zero a = absurd (omega (arith, a.low))
  wide (suc i) a = length-row n (records_of n p) (network-shaped n p) i a.high

  heights-of : (u : ℕ) → Node n u → (v : ℕ) → height_in (row_words n (records_of n p) u) v ≡ cond (is_node n v) (p.height u v) (fresh.height u v)
  heights-of u a zero =
      let d : eqb u 0 ≡ false = ne_eqb u 0 (λ e. omega (arith, a.low)) in
      rw d (unfold height_in in refl)
  heights-of u a (suc k) = go (choice (is_node n (suc k)))
    where
      go : Choice (is_node n (suc k)) → height_in (row_words n (records_of n p) u) (suc k) ≡ cond (is_node n (suc k)) (p.height u (suc k)) (fresh.height u (suc k))
      go (yes! e) = let s = is-node n (suc k) e in rw e (node-height n p u k (omega (arith, s.high)) (ok.heights u (suc k) a s))
      go (no! e) =
          let l = outside n k e in
          rw (e, ne_eqb u (suc k) (λ q. omega (arith, a.high)))
          (height-past n (row_words n (records_of n p) u) (wide u a) k l)

  -- a function of nodes into functions, and a function of pairs
  nodes-pairs : {A : Type 0} (f g d : ℕ → ℕ → A) → ((u : ℕ) → Node n u → (v : ℕ) → f u v ≡ cond (is_node n v) (g u v) (d u v))
      → at_nodes n f d ≡ at_pairs n g d
  nodes-pairs f g d h = fun_ext λ u. go u (choice (is_node n u))
    where
      go : (u : ℕ) → Choice (is_node n u) → at_nodes n f d u ≡ at_pairs n g d u
      go u (no! e) = fun_ext λ v. rw e
      go u (yes! e) = fun_ext λ v. rw e (h u (is-node n u e) v)

  loaded : load n (tables_of n p) ≡ restrict n p
  unfolding load restrict row_words records_of
  loaded = λ i. record {
    clock = same_nodes n (clock_at n (tables_of n p)) p.clock fresh.clock (λ u a. ap clock_in (node-of n p u a)) i;
    neighbors = nodes-pairs (neighbors_at n (tables_of n p)) p.neighbors fresh.neighbors
        (λ u a v. ap (λ (r : List ℕ). member (neighbors_in r) v) (node-of n p u a) ∙ set_back n (p.neighbors u) v) i;
    forming = nodes-pairs (forming_at n (tables_of n p)) p.forming fresh.forming
        (λ u a v. ap (λ (r : List ℕ). member (forming_in r) v) (node-of n p u a) ∙ set_back n (p.forming u) v) i;
    height = nodes-pairs (heights_at n (tables_of n p)) p.height fresh.height
        (λ u a v. ap (λ (r : List ℕ). height_in r v) (node-of n p u a) ∙ heights-of u a v) i;
    channel = same-pairs n (messages_on n (tables_of n p)) p.channel fresh.channel
        (λ u v a b. ap queue (cell-of n p u v a b) ∙ queue-back (p.channel u v) (ok.messages u v a b) (ok.short u v a b)) i;
  }

  pub load-back : load n (tables_of n p) ≡ p
  load-back = loaded ∙ ok.inside

-- ---- a good network is storable

pub storable : (n : ℕ) (p : Network) → Fits n p → Storable n p
storable n p fits = record {
  inside = restrict-is n p fits;
  heights = λ u v a b. view u v a (equal? v u) (choice (p.neighbors u v));
  messages = λ u v a b.
      all_weaker (MessageFits n u) WordyMessage (λ m f. fits-wordy n u m.height f.height) (p.channel u v) (fits.messages u v);
  short = λ u v a b. fits.lengths u v;
}
  where
    view : (u v : ℕ) → Node n u → (v ≡ u) ⊎ (v ≡ u → ⊥) → Choice (p.neighbors u v) → Wordy (p.height u v)
    view u v a (inl e) i = rw e (fits-wordy n u (p.height u u) ((fits.nodes u).own a))
    view u v a (inr d) (yes! i) = fits-wordy n v (p.height u v) ((fits.nodes u).views v i)
    view u v a (inr d) (no! i) = rw ((fits.nodes u).blank v d i) zero-wordy
