-- One node at a saved place: where its record starts, what is read there, and the call by what header and checks answer.
-- Assumes at most 16 nodes.
use Prim.Native.Nat.{ℕ, suc, ◌+◌, ◌-◌, ◌*◌, ◌^◌, ◌≤◌}
use native.Mathlib.Omega.{arith}
use mathlib.Core.Bool.{true, false, ◌||◌}
use mathlib.Core.List.{List}
use mathlib.Core.Path.{◌≡◌, refl, ap, ◌∙◌}
use borrow.Author.Tests.{eq-eqb, ne_eqb, leb-true, ltb-false, le-ltb, lt-ltb, le-leb}
use lib.Dec.{leb, ltb}
use Rattle.basics.proofs.Tests.{clash}
use lib.ListN.{length}
use Rattle.basics.proofs.Tests.{clash, Choice, yes!, no!, choice, and_left, and_right}
use Rattle.bits.specs.Bits.{unpacked}
use Rattle.bits.proofs.Bytes.{length-unpacked}
use Rattle.image.specs.Places.{node_place, channels_place}
use Rattle.image.specs.Widths.{node_width, header_length, depth_width}
use Rattle.image.specs.inner.Parts.{Inside}
use Rattle.image.proofs.Bounds.{node-small}
use Rattle.image.proofs.PlaceLaws.{node_in, start-in}
use Rattle.image_reader.specs.Fields.{stands_in}
use Rattle.image_reader.specs.Record.{record_in, node_inside, node_on, unread}
use Rattle.image_reading.specs.Examine.{examined}
use Rattle.image_reading.specs.inner.Cells.{Walkable}
use Rattle.image_reading.specs.Header.{header_of}
use Rattle.image_reading.specs.declared.Fields.{Fields}
use Rattle.protocol.specs.Network.{Node, is_node}
use Rattle.protocol.proofs.NodeLaws.{node-passes}
use Rattle.refusal.specs.Refusal.{why, why_of}
use Rattle.refusal.specs.declared.Refusal.{Refusal}
use Rattle.refusal.specs.Outcome.{Answered, accepted}
use Rattle.refusal.specs.declared.Why.{Why}
use Rattle.refusal.proofs.RefusalLaws.{never-0}
use Rattle.tables.proofs.RowsLaws.{product_le}
use Rattle.height.specs.Words.{height_size}
use Rattle.image_snapshot.specs.ReadNode.{node_placed, node_examined, node_sized, node_headed, read_node_on}

-- the records before one of 16 nodes take few bits
pub before_small : (n k : ℕ) → n ≤ 16 → 1 ≤ k → k ≤ n → (k - 1) * node_width 16 n ≤ 27840
before_small n k few low high =
    let i : k - 1 ≤ 15 = omega arith in
    product_le (k - 1) (node_width 16 n) i (node-small 16 n (omega arith) few)

pub node-is : (n k : ℕ) → (ltb k 1 || ltb n k) ≡ false → Node n k
node-is n k e = go (choice (ltb k 1)) (choice (ltb n k))
  where
    go : Choice (ltb k 1) → Choice (ltb n k) → Node n k
    go (yes! a) b = clash refl (rw a at e)
    go (no! a) (yes! b) = clash refl (rw (a, b) at e)
    go (no! a) (no! b) = record { low = ltb-false k 1 a; high = ltb-false n k b }

-- ---- by what the header and the checks answer

pub node-refused : (xs : List ℕ) (k place : ℕ) (row : List ℕ) {s : Answered Fields} → s ≡ header_of xs → (s.why.number ≡ 0 → ⊥) → {w : Why} → w ≡ s.why
    → unread w row ≡ read_node_on xs k place row
unfolding read_node_on node_headed
node-refused xs k place row {s} e d q = rw (← e, ne_eqb s.why.number 0 d, q)

pub node-headed : (xs : List ℕ) (k place : ℕ) (row : List ℕ) {f : Fields} → accepted f ≡ header_of xs
    → node_sized f.length f.n (unpacked xs) k place row ≡ read_node_on xs k place row
unfolding read_node_on node_headed
node-headed xs k place row e = ap (node_headed (unpacked xs) k place row) e

module _ (h n : ℕ) (l : List ℕ) (k place : ℕ) (row : List ℕ) where
  pub node-sizes : (length row ≡ n * height_size → ⊥) → unread (why 1 0 0) row ≡ node_sized h n l k place row
  unfolding node_sized
  node-sizes d = rw (ne_eqb (length row) (n * height_size) d)

  module _ (wide : length row ≡ n * height_size) where
    by : {w : Why} → w ≡ examined header_length depth_width n l → node_examined h n l k place row w ≡ node_sized h n l k place row
    unfolding node_sized
    by e = rw (eq-eqb (length row) (n * height_size) wide, ← e)

    pub node-faulty : (r : Refusal) → why_of r ≡ examined header_length depth_width n l → unread (why_of r) row ≡ node_sized h n l k place row
    unfolding node_examined
    node-faulty r e = rw (never-0 r) at (by e)

    pub node-sound : why 0 0 0 ≡ examined header_length depth_width n l → node_placed h n l k place row ≡ node_sized h n l k place row
    unfolding node_examined
    node-sound e = by e

  -- ---- then 3 and 13

  pub not-node : (ltb k 1 || ltb n k) ≡ true → unread (why 3 0 0) row ≡ node_placed h n l k place row
  unfolding node_placed
  not-node e = go (choice (is_node n k))
    where
      go : Choice (is_node n k) → unread (why 3 0 0) row ≡ node_placed h n l k place row
      go (no! q) = rw q
      go (yes! q) =
          let a = leb-true 1 k (and_left (leb 1 k) (leb k n) q) in
          let b = leb-true k n (and_right (leb 1 k) (leb k n) q) in
          clash (rw (le-ltb k 1 a, le-ltb n k b) at e) refl

  module _ (node : Node n k) where
    pub not-place : (place ≡ node_place h 16 n k → ⊥) → unread (why 13 0 0) row ≡ node_placed h n l k place row
    unfolding node_placed
    not-place d = rw (node-passes n k node, ne_eqb place (node_place h 16 n k) d)

    pub at_place : (at : ℕ) → at ≡ node_place h 16 n k → place ≡ at → record_in n l at ≡ node_placed h n l k place row
    unfolding node_placed
    at_place at e q = rw (node-passes n k node, eq-eqb place (node_place h 16 n k) (q ∙ e), q)

-- the record of node k stands inside an image that was walked
pub record-inside : (xs : List ℕ) (n k at : ℕ) → Walkable header_length depth_width n (unpacked xs) → Node n k
    → at ≡ node_place header_length depth_width n k → Inside xs at (node_width 16 n)
record-inside xs n k at w node e =
    let z : suc (k - 1) ≡ k = omega (arith, node.low) in
    let a : node_place header_length depth_width n k + node_width 16 n ≤ channels_place header_length depth_width n =
    rw z at (node_in header_length depth_width n (k - 1) (omega (arith, node.low, node.high))) in
    let b = start-in header_length depth_width n (unpacked xs) in
    record {
      small = omega (arith, a, b, w.small, e);
      inside = omega (arith, a, b, w.inside, e, length-unpacked xs);
    }

-- a reader refuses no record that stands inside
module _ (n : ℕ) (xs : List ℕ) (at : ℕ) (row : List ℕ) (low : 1 ≤ n) (high : n ≤ 16) (wide : length row ≡ n * height_size) (i : Inside xs at (node_width 16 n)) where
  pub reader-reads : node_on n xs at row ≡ record_in n (unpacked xs) at
  unfolding node_on node_inside stands_in
  reader-reads =
      let w = node_width 16 n in
      rw (
        le-ltb n 1 low,
        le-ltb 16 n high,
        eq-eqb (length row) (n * height_size) wide,
        lt-ltb (at + w) (2 ^ 64) (omega (arith, i.small)),
        le-leb (at + w) (8 * length xs) i.inside,
      )
