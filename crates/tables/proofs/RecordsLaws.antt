-- The tables that records make: their sizes, rows and cells; records are told by the tables that they make, and a network's have the shape.
-- Assumes that heights have seven words and messages eight (`Shaped`).
use Prim.Native.Nat.{ℕ, zero, suc, ◌+◌, ◌-◌, ◌*◌, ◌≤◌, ◌<◌}
use native.Mathlib.Nat.{mul_assoc}
use native.Mathlib.Omega.{arith}
use mathlib.Core.Bool.{true}
use mathlib.Core.List.{List, [], ◌∷◌, ◌++◌, map}
use mathlib.Core.Logic.{inl, inr}
use mathlib.Core.Path.{◌≡◌, refl, sym, ap, ap₂, ◌∙◌}
use lib.Dec.{eqb}
use lib.ListN.{length, take, drop, get_or, replicate, length-append, length-replicate}
use lib.Seq.{take_at, drop_at, drop-append-add}
use Rattle.basics.proofs.AllOf.{AllOf, none, more}
use Rattle.basics.proofs.Tests.{SameOrNot, equal?, and_left, and_right, and_both}
use Rattle.height.specs.Words.{height_words}
use Rattle.height.specs.declared.Height.{Height}
use Rattle.nodeset.specs.NodeSet.{set_of}
use Rattle.protocol.specs.Network.{Node, Message, Network}
use Rattle.tables.specs.Cell.{count, message_words, all_zero}
use Rattle.tables.specs.Records.{Records, records_of, row_words, slot_words, cell_words, tables_from}
use Rattle.tables.specs.Rows.{rows, row_at}
use Rattle.tables.specs.Tables.{Tables, tables, width, cell_width, node_of, channel_of}
use Rattle.tables.specs.inner.Fit.{Sized}
use Rattle.tables.proofs.RowsMore.{rows_same, length-rows, rows_at}
use Rattle.tables.proofs.WordRuns.{row_in}

-- each message has eight words
abbrev pub Eights : List (List ℕ) → Type 0
Eights ms = AllOf (λ (m : List ℕ). length m ≡ 8) ms

-- the shape of records: seven words a height, eight a message
pub record Shaped (n : ℕ) (r : Records) : Type 0 where
  pub heights : (i j : ℕ) → i < n → j < n → length (r.height (suc i) (suc j)) ≡ 7
  pub messages : (i j : ℕ) → i < n → j < n → Eights (r.channel (suc i) (suc j))

-- ---- a network's

pub words-length : (h : Height) → length (height_words h) ≡ 7
unfolding height_words
words-length h = refl

pub message-length : (m : Message) → length (message_words m) ≡ 8
unfolding message_words height_words
message-length m = refl

pub message-words : (ms : List Message) → Eights (map message_words ms)
message-words [] = none
message-words (m ∷ ms) = more (message-length m) (message-words ms)

pub network-shaped : (n : ℕ) (p : Network) → Shaped n (records_of n p)
unfolding records_of
network-shaped n p = record {
  heights = λ i j l m. words-length (p.height (suc i) (suc j));
  messages = λ i j l m. message-words (p.channel (suc i) (suc j));
}

-- networks that are the same at a node have the same row
pub network-row : (n : ℕ) (p q : Network) (u : ℕ) → p.clock u ≡ q.clock u → p.neighbors u ≡ q.neighbors u → p.forming u ≡ q.forming u
    → p.height u ≡ q.height u → row_words n (records_of n p) u ≡ row_words n (records_of n q) u
unfolding row_words records_of
network-row n p q u c N F h =
    rw (c, N, F)
    (ap (λ (f : ℕ → Height). q.clock u ∷ set_of n (q.neighbors u) ∷ set_of n (q.forming u) ∷ rows n (λ v. height_words (f v))) h)

-- ---- a cell

length-slots : (k : ℕ) (ms : List (List ℕ)) → Eights ms → length (slot_words k ms) ≡ k * 8
unfolding slot_words
length-slots zero ms em = omega arith
length-slots (suc k) [] em =
    length-append (replicate 8 0) (slot_words k []) ∙ omega (arith, length-replicate {A = ℕ} 8 0, length-slots k [] none)
length-slots (suc k) (m ∷ ms) (more a em) = length-append m (slot_words k ms) ∙ omega (arith, a, length-slots k ms em)

pub length-cell : (ms : List (List ℕ)) → Eights ms → length (cell_words ms) ≡ cell_width
unfolding cell_words
length-cell ms em = ap suc (length-slots 8 ms em)

slots-tell : (k : ℕ) (ms xs : List (List ℕ)) → Eights ms → Eights xs → length ms ≡ length xs → length ms ≤ k
    → slot_words k ms ≡ slot_words k xs → ms ≡ xs
unfolding slot_words
slots-tell k [] [] em ex same l e = refl
slots-tell k [] (x ∷ xs) em ex same l e = absurd (omega arith)
slots-tell k (m ∷ ms) [] em ex same l e = absurd (omega arith)
slots-tell zero (m ∷ ms) (x ∷ xs) em ex same l e = absurd (omega arith)
slots-tell (suc k) (m ∷ ms) (x ∷ xs) (more a em) (more b ex) same l e =
    let first : m ≡ x = sym (take_at m (slot_words k ms) 8 a) ∙ (ap (take 8) e ∙ take_at x (slot_words k xs) 8 b) in
    let rest : slot_words k ms ≡ slot_words k xs = sym (drop_at m (slot_words k ms) 8 a) ∙ (ap (drop 8) e ∙ drop_at x (slot_words k xs) 8 b) in
    ap₂ (λ (y : List ℕ) (ys : List (List ℕ)). y ∷ ys) first (slots-tell k ms xs em ex (omega arith) (omega arith) rest)

pub cell-tells : (ms xs : List (List ℕ)) → Eights ms → Eights xs → length ms ≤ 8 → cell_words ms ≡ cell_words xs → ms ≡ xs
unfolding cell_words
cell-tells ms xs em ex l e = slots-tell 8 ms xs em ex (ap (λ (ys : List ℕ). get_or ys 0 0) e) l (ap (drop 1) e)

-- ---- rows and cells of the tables that records make

module _ (n : ℕ) (r : Records) (shape : Shaped n r) where
  pub length-row : (i : ℕ) → i < n → length (row_words n r (suc i)) ≡ width n
  unfolding row_words
  length-row i l =
      ap (λ (k : ℕ). suc (suc (suc k))) (length-rows n 7 (r.height (suc i)) (λ j m. shape.heights i j l m)) ∙ omega arith

  pub length-cells : (i : ℕ) → i < n → length (rows n (λ v. cell_words (r.channel (suc i) v))) ≡ n * cell_width
  length-cells i l =
      length-rows n cell_width (λ v. cell_words (r.channel (suc i) v)) (λ j m. length-cell (r.channel (suc i) (suc j)) (shape.messages i j l m))

  pub made-sized : 1 ≤ n → n ≤ 16 → Sized n (tables_from n r)
  unfolding tables_from
  made-sized l h = record {
    low = l;
    few = h;
    nodes = length-rows n (width n) (row_words n r) length-row;
    channels = length-rows n (n * cell_width) (λ u. rows n (λ v. cell_words (r.channel u v))) length-cells ∙ sym (mul_assoc n n cell_width);
  }

  pub row_from-is : (i : ℕ) → i < n → node_of n (suc i) (tables_from n r).nodes ≡ row_words n r (suc i)
  unfolding tables_from
  row_from-is i l =
      let z : suc i - 1 ≡ i = omega arith in
      ap (λ (k : ℕ). row_at (width n) k (rows n (row_words n r))) z ∙ rows_at (width n) n (row_words n r) length-row i l

  pub cell-from : (i j : ℕ) → i < n → j < n → channel_of n (suc i) (suc j) (tables_from n r).channels ≡ cell_words (r.channel (suc i) (suc j))
  unfolding tables_from
  cell-from i j l m =
      let f : ℕ → ℕ → List ℕ = λ u v. cell_words (r.channel u v) in
      let cs : List ℕ = rows n (λ u. rows n (f u)) in
      let y : suc i - 1 ≡ i = omega arith in
      let z : suc j - 1 ≡ j = omega arith in
      let whole : length cs ≡ n * (n * cell_width) = length-rows n (n * cell_width) (λ u. rows n (f u)) length-cells in
      ap₂ (λ (a b : ℕ). row_at cell_width (a * n + b) cs) y z
      ∙ sym (row_in cell_width n i j cs whole l m)
      ∙ ap (row_at cell_width j) (rows_at (n * cell_width) n (λ u. rows n (f u)) length-cells i l)
      ∙ rows_at cell_width n (f (suc i)) (λ k b. length-cell (r.channel (suc i) (suc k)) (shape.messages i k l b)) j m

-- at a node's number
pub node-from : (n : ℕ) (r : Records) → Shaped n r → (u : ℕ) → Node n u → node_of n u (tables_from n r).nodes ≡ row_words n r u
node-from n r shape zero a = absurd (omega (arith, a.low))
node-from n r shape (suc i) a = row_from-is n r shape i a.high

pub channel-from : (n : ℕ) (r : Records) → Shaped n r → (u v : ℕ) → Node n u → Node n v
    → channel_of n u v (tables_from n r).channels ≡ cell_words (r.channel u v)
channel-from n r shape zero v a b = absurd (omega (arith, a.low))
channel-from n r shape (suc i) zero a b = absurd (omega (arith, b.low))
channel-from n r shape (suc i) (suc j) a b = cell-from n r shape i j a.high b.high

-- ---- the tables tell the records

-- two records are the same at nodes 1 to n and their channels
pub record Agree (n : ℕ) (r s : Records) : Type 0 where
  pub clocks : (i : ℕ) → i < n → r.clock (suc i) ≡ s.clock (suc i)
  pub neighbors-same : (i : ℕ) → i < n → r.neighbors (suc i) ≡ s.neighbors (suc i)
  pub forming-same : (i : ℕ) → i < n → r.forming (suc i) ≡ s.forming (suc i)
  pub heights : (i j : ℕ) → i < n → j < n → r.height (suc i) (suc j) ≡ s.height (suc i) (suc j)
  pub channels : (i j : ℕ) → i < n → j < n → (suc i ≡ suc j → ⊥) → r.channel (suc i) (suc j) ≡ s.channel (suc i) (suc j)

-- no channel of r holds more than 8 messages
pub tables-tell : (n : ℕ) (r s : Records) → Shaped n r → Shaped n s → ((i j : ℕ) → i < n → j < n → length (r.channel (suc i) (suc j)) ≤ 8)
    → tables_from n r ≡ tables_from n s → Agree n r s
tables-tell n r s a b few same = record {
  clocks = λ i l. ap (λ (ws : List ℕ). get_or ws 0 0) (row i l);
  neighbors-same = λ i l. ap (λ (ws : List ℕ). get_or ws 1 0) (row i l);
  forming-same = λ i l. ap (λ (ws : List ℕ). get_or ws 2 0) (row i l);
  heights = λ i j l m.
      sym (rows_at 7 n (r.height (suc i)) (λ k c. a.heights i k l c) j m)
      ∙ (ap (λ (ws : List ℕ). row_at 7 j (drop 3 ws)) (row i l) ∙ rows_at 7 n (s.height (suc i)) (λ k c. b.heights i k l c) j m);
  channels = λ i j l m _.
      cell-tells (r.channel (suc i) (suc j)) (s.channel (suc i) (suc j)) (a.messages i j l m) (b.messages i j l m) (few i j l m)
      (sym (cell-from n r a i j l m) ∙ (ap (λ (t : Tables). channel_of n (suc i) (suc j) t.channels) same ∙ cell-from n s b i j l m));
}
  where
    row : (i : ℕ) → i < n → r.clock (suc i) ∷ r.neighbors (suc i) ∷ r.forming (suc i) ∷ rows n (r.height (suc i))
        ≡ s.clock (suc i) ∷ s.neighbors (suc i) ∷ s.forming (suc i) ∷ rows n (s.height (suc i))
    row i l =
        unfold row_words in
        sym (row_from-is n r a i l) ∙ (ap (λ (t : Tables). node_of n (suc i) t.nodes) same ∙ row_from-is n s b i l)

-- records that agree, also on the unused channels from a node to itself, make the same tables
pub agree-tables : (n : ℕ) (r s : Records) → Agree n r s → ((i : ℕ) → i < n → r.channel (suc i) (suc i) ≡ s.channel (suc i) (suc i))
    → tables_from n r ≡ tables_from n s
unfolding tables_from row_words
agree-tables n r s same own =
    ap₂ tables
    (rows_same n _ _ (λ i l. row i l (rows_same n _ _ (λ j m. same.heights i j l m))))
    (rows_same n _ _ (λ i l. rows_same n _ _ (λ j m. ap cell_words (channel i j l m (equal? (suc i) (suc j))))))
  where
    row : (i : ℕ) → i < n → rows n (r.height (suc i)) ≡ rows n (s.height (suc i)) → row_words n r (suc i) ≡ row_words n s (suc i)
    row i l e = rw (same.clocks i l, same.neighbors-same i l, same.forming-same i l, e)

    channel : (i j : ℕ) → i < n → j < n → SameOrNot (suc i) (suc j) → r.channel (suc i) (suc j) ≡ s.channel (suc i) (suc j)
    channel i j l m (inl e) = rw (← e) (own i l)
    channel i j l m (inr d) = same.channels i j l m d

-- ---- the zero words of a cell

zeros : (k : ℕ) → all_zero (replicate k 0) ≡ true
unfolding all_zero
zeros zero = refl
zeros (suc k) = zeros k

zeros-append : (xs ys : List ℕ) → all_zero xs ≡ true → all_zero ys ≡ true → all_zero (xs ++ ys) ≡ true
unfolding all_zero
zeros-append [] ys h k = k
zeros-append (x ∷ xs) ys h k = and_both (and_left (eqb x 0) (all_zero xs) h) (zeros-append xs ys (and_right (eqb x 0) (all_zero xs) h) k)

slots-zero : (k : ℕ) → all_zero (slot_words k []) ≡ true
unfolding slot_words
slots-zero zero = unfold all_zero in refl
slots-zero (suc k) = zeros-append (replicate 8 0) (slot_words k []) (zeros 8) (slots-zero k)

-- the words after the messages
rest-zero : (k : ℕ) (ms : List (List ℕ)) → Eights ms → length ms ≤ k → all_zero (drop (length ms * 8) (slot_words k ms)) ≡ true
unfolding slot_words
rest-zero k [] em l = slots-zero k
rest-zero zero (m ∷ ms) em l = absurd (omega arith)
rest-zero (suc k) (m ∷ ms) (more a em) l =
    let e : suc (length ms) * 8 ≡ length m + length ms * 8 = omega (arith, a) in
    rw (e, drop-append-add m (slot_words k ms) (length ms * 8)) (rest-zero k ms em (omega arith))

pub unused-zero : (ms : List (List ℕ)) → Eights ms → length ms ≤ 8 → all_zero (drop (1 + count (cell_words ms) * 8) (cell_words ms)) ≡ true
unfolding cell_words
unused-zero ms em l =
    ap all_zero (drop-append-add (length ms ∷ []) (slot_words 8 ms) (length ms * 8)) ∙ rest-zero 8 ms em l
