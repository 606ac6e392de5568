-- How many bits the nodes and the channels of both tables' words take, exactly and at most, and that all are bits.
-- Assumes tables of the lengths for n and at most 8 messages in a channel.
use Prim.Native.Nat.{ℕ, zero, suc, ◌+◌, ◌*◌, ◌≤◌, ◌<◌}
use native.Mathlib.Nat.{mul-le-mul, suc-mul}
use native.Mathlib.Omega.{arith}
use mathlib.Core.Bool.{cond}
use mathlib.Core.List.{List, []}
use mathlib.Core.Logic.{◌⊎◌, inl, inr}
use mathlib.Core.Path.{◌≡◌, refl, sym, ap, ◌∙◌}
use borrow.Author.Tests.{eq-eqb, ne_eqb}
use lib.Dec.{eqb}
use lib.ListN.{length, length-append}
use Rattle.basics.proofs.Tests.{Choice, yes!, no!, choice, equal?}
use Rattle.bits.proofs.Numbers.{Below, below-nil}
use Rattle.image.specs.Widths.{message_width, node_width}
use Rattle.image.specs.inner.Parts.{Inside, Depth, row_bits, cell_bits}
use Rattle.image.proofs.Bounds.{messages-small}
use Rattle.image.proofs.PartLaws.{length-row-bits, below-row-bits, length-cell-bits, below-cell-bits}
use Rattle.image.proofs.RowsMore.{below_rows}
use Rattle.protocol.specs.Network.{Node}
use Rattle.tables.specs.Cell.{count}
use Rattle.tables.specs.Rows.{rows}
use Rattle.tables.specs.Tables.{width, cell_width, node_of, channel_of}
use Rattle.tables.proofs.RowsLaws.{node-length, channel-length}
use Rattle.tables.proofs.RowsMore.{length-rows}
use Rattle.image_writing.specs.inner.Words.{nodes_bits, cell_bits_at, cells_from_bits, cells_bits, Counts}

-- ---- the nodes

-- node u's record
unfoldable pub node_bits_at : ℕ → ℕ → List ℕ → ℕ → List ℕ
node_bits_at d n ns u = row_bits d n (node_of n u ns)

pub below-node : (d n : ℕ) (ns : List ℕ) (u : ℕ) → Below 2 (node_bits_at d n ns u)
unfolding node_bits_at
below-node d n ns u = below-row-bits d n (node_of n u ns)

pub below-nodes : (d n : ℕ) (ns : List ℕ) → Below 2 (nodes_bits d n ns)
unfolding nodes_bits node_bits_at
below-nodes d n ns = below_rows 2 n (node_bits_at d n ns) (omega arith) (below-node d n ns)

module _ (d n : ℕ) (ns : List ℕ) (size : length ns ≡ n * width n) where
  pub length-node : (u : ℕ) → Node n u → length (node_bits_at d n ns u) ≡ node_width d n
  unfolding node_bits_at
  length-node u a = length-row-bits d n (node_of n u ns) (node-length n u a ns size)

  pub length-nodes : length (nodes_bits d n ns) ≡ n * node_width d n
  unfolding nodes_bits node_bits_at
  length-nodes = length-rows n (node_width d n) (node_bits_at d n ns) (λ i l. length-node (suc i) (record { low = omega arith; high = l }))

  -- room for n records is room for these
  pub nodes-inside : {xs : List ℕ} {at : ℕ} → Inside xs at (n * node_width d n) → Inside xs at (length (rows n (node_bits_at d n ns)))
  unfolding nodes_bits node_bits_at
  nodes-inside room = rw length-nodes room

-- ---- the channels

-- none leads from a node to itself
pub own-none : (d n : ℕ) (cs : List ℕ) (u v : ℕ) → u ≡ v → cell_bits_at d n cs u v ≡ []
unfolding cell_bits_at
own-none d n cs u v e = rw (eq-eqb u v e)

pub other-cell : (d n : ℕ) (cs : List ℕ) (u v : ℕ) → (u ≡ v → ⊥) → cell_bits_at d n cs u v ≡ cell_bits d (channel_of n u v cs)
unfolding cell_bits_at
other-cell d n cs u v e = rw (ne_eqb u v e)

-- the channel from u to v, which holds c messages
module _ (d n : ℕ) (cs : List ℕ) (u v c : ℕ) (w : Depth d) (a : Node n u) (b : Node n v)
    (size : length cs ≡ n * n * cell_width) (counts : Counts n cs) (is : c ≡ count (channel_of n u v cs)) where
  pub waiting_few : c ≤ 8
  waiting_few = rw is (counts.few u v a b)

  pub waiting-le : c * message_width d ≤ 1152
  waiting-le = messages-small c d waiting_few w.high

  pub length-cell : (u ≡ v → ⊥) → length (cell_bits_at d n cs u v) ≡ 4 + c * message_width d
  length-cell e =
      ap length (other-cell d n cs u v e)
      ∙ length-cell-bits d (channel_of n u v cs) (channel-length n u v a b cs size) (counts.few u v a b)
      ∙ ap (λ (k : ℕ). 4 + k * message_width d) (sym is)

pub below-cell-at : (d n : ℕ) (cs : List ℕ) (u v : ℕ) → Below 2 (cell_bits_at d n cs u v)
unfolding cell_bits_at
below-cell-at d n cs u v = go (choice (eqb u v))
  where
    go : Choice (eqb u v) → Below 2 (cond (eqb u v) [] (cell_bits d (channel_of n u v cs)))
    go (yes! e) = rw e (below-nil 2 (omega arith))
    go (no! e) = rw e (below-cell-bits d (channel_of n u v cs))

pub below-cells-from : (d n : ℕ) (cs : List ℕ) (u : ℕ) → Below 2 (cells_from_bits d n cs u)
unfolding cells_from_bits
below-cells-from d n cs u = below_rows 2 n (cell_bits_at d n cs u) (omega arith) (below-cell-at d n cs u)

pub below-cells : (d n : ℕ) (cs : List ℕ) → Below 2 (cells_bits d n cs)
unfolding cells_bits
below-cells d n cs = below_rows 2 n (cells_from_bits d n cs) (omega arith) (below-cells-from d n cs)

-- ---- how far the channels reach

pub rows-le : (w k : ℕ) (f : ℕ → List ℕ) → ((i : ℕ) → i < k → length (f (suc i)) ≤ w) → length (rows k f) ≤ k * w
unfolding rows
rows-le w zero f h = omega arith
rows-le w (suc k) f h =
    omega (
      arith,
      length-append (f 1) (rows k (λ i. f (suc i))),
      h 0 (omega arith),
      rows-le w k (λ i. f (suc i)) (λ i l. h (suc i) (omega arith)),
      suc-mul k w,
    )

module _ (d n : ℕ) (cs : List ℕ) (w : Depth d) (size : length cs ≡ n * n * cell_width) (counts : Counts n cs) where
  cell-le : (u v : ℕ) → Node n u → Node n v → length (cell_bits_at d n cs u v) ≤ 1156
  cell-le u v a b = go (equal? u v)
    where
      go : (u ≡ v) ⊎ (u ≡ v → ⊥) → length (cell_bits_at d n cs u v) ≤ 1156
      go (inl e) = rw (own-none d n cs u v e) (omega arith)
      go (inr e) =
          let c : ℕ = count (channel_of n u v cs) in
          omega (arith, length-cell d n cs u v c w a b size counts refl e, messages-small c d (counts.few u v a b) w.high)

  -- the channels from u to k nodes, and those from k nodes
  pub cells-from-le : (u k : ℕ) → Node n u → k ≤ n → length (rows k (cell_bits_at d n cs u)) ≤ k * 1156
  cells-from-le u k a h = rows-le 1156 k (cell_bits_at d n cs u) (λ i l. cell-le u (suc i) a (record { low = omega arith; high = omega arith }))

  pub cells-le : (k : ℕ) → k ≤ n → length (rows k (cells_from_bits d n cs)) ≤ k * (n * 1156)
  unfolding cells_from_bits
  cells-le k h =
      rows-le (n * 1156) k (λ u. rows n (cell_bits_at d n cs u))
      (λ i l. cells-from-le (suc i) n (record { low = omega arith; high = omega arith }) (omega arith))

-- from k of n nodes, to n
pub cells-most : (k n : ℕ) → k ≤ 16 → n ≤ 16 → k * (n * 1156) ≤ 295936
cells-most k n h l =
    let a : n * 1156 ≤ 18496 = omega arith in
    let q : k * (n * 1156) ≤ 16 * 18496 = mul-le-mul h a in
    omega arith
