-- One node at a saved place: accepted exactly where that node's record starts, so for at most one node; what is then read.
use Prim.Native.Nat.{ℕ, suc, ◌+◌, ◌-◌, ◌*◌, ◌≤◌, ◌<◌}
use native.Mathlib.Nat.{mul-le-mul_right, suc-mul}
use native.Mathlib.Decide.{dec_lt}
use native.Mathlib.Omega.{arith}
use mathlib.Core.List.{List}
use mathlib.Core.Path.{◌≡◌, refl, sym, ◌∙◌}
use borrow.Author.Tests.{eqb-true, eqb-false, eq-eqb, ne_eqb, leb-true}
use lib.Dec.{eqb, leb}
use lib.ListN.{length}
use Rattle.basics.proofs.Tests.{Choice, yes!, no!, choice, and_left, and_right}
use Rattle.bits.specs.Bits.{field, unpacked}
use Rattle.image.specs.Places.{node_place}
use Rattle.image.specs.Widths.{height_width, node_width, header_length, depth_width}
use Rattle.image_reader.specs.Record.{record_in, unread}
use Rattle.image_reading.specs.Examine.{examined}
use Rattle.image_reading.specs.Header.{header_of}
use Rattle.protocol.specs.Network.{Node, is_node}
use Rattle.protocol.proofs.NodeLaws.{node-passes}
use Rattle.refusal.specs.Refusal.{why}
use Rattle.image_snapshot.specs.ReadNode.{node_placed, node_examined, node_sized, node_headed, read_node_on}
use Rattle.height.specs.Words.{height_size}
use Rattle.image_snapshot.proofs.AcceptedLaws.{HeaderGood, header-good}

-- ---- where node k of n starts

-- two nodes never start at one place
pub place-one : (h n j k : ℕ) → Node n j → Node n k → node_place h 16 n j ≡ node_place h 16 n k → j ≡ k
unfolding node_place node_width
place-one h n j k a b e = go (dec_lt j k) (dec_lt k j)
  where
    w : ℕ
    w = 64 + height_width 16 * n

    later : (x y : ℕ) → x < y → x * w < y * w
    later x y l =
        let q : suc x * w ≤ y * w = mul-le-mul_right w l in
        omega (arith, suc-mul x w)

    go : Dec (j < k) → Dec (k < j) → j ≡ k
    go (yes l) q = absurd (omega (arith, later (j - 1) (k - 1) (omega (arith, a.low)), e))
    go (no l) (yes m) = absurd (omega (arith, later (k - 1) (j - 1) (omega (arith, b.low)), e))
    go (no l) (no m) = omega arith

-- ---- an image that the checks accept, and a row of its n heights

pub record Readable (xs row : List ℕ) : Type 0 where
  pub header : HeaderGood xs
  pub wide : length row ≡ field xs 16 5 * height_size
  pub contents : (examined header_length depth_width (field xs 16 5) (unpacked xs)).number ≡ 0

module _ (xs row : List ℕ) (ok : Readable xs row) (k : ℕ) where
  -- then 3 and 13 decide
  pub placed : (place : ℕ) → read_node_on xs k place row ≡ node_placed 32 (field xs 16 5) (unpacked xs) k place row
  unfolding read_node_on node_headed node_sized node_examined
  placed place = rw (ok.header.is, eq-eqb (length row) (field xs 16 5 * height_size) ok.wide, ok.contents, ok.header.header)

  module _ (node : Node (field xs 16 5) k) where
    -- accepted where the record starts: header length + (k − 1)(64 + 96 n)
    pub own-place : read_node_on xs k (node_place header_length depth_width (field xs 16 5) k) row
        ≡ record_in (field xs 16 5) (unpacked xs) (node_place header_length depth_width (field xs 16 5) k)
    unfolding node_placed
    own-place =
        placed (node_place header_length depth_width (field xs 16 5) k)
        ∙ rw (node-passes (field xs 16 5) k node, eq-eqb (node_place header_length depth_width (field xs 16 5) k) (node_place header_length depth_width (field xs 16 5) k) refl)

    -- refused with 13 everywhere else
    pub no_place : (place : ℕ) → (place ≡ node_place header_length depth_width (field xs 16 5) k → ⊥) → read_node_on xs k place row ≡ unread (why 13 0 0) row
    unfolding node_placed
    no_place place d =
        placed place ∙ rw (node-passes (field xs 16 5) k node, ne_eqb place (node_place header_length depth_width (field xs 16 5) k) d)

    -- the place at which another node's record starts
    pub other_place : (j : ℕ) → Node (field xs 16 5) j → (j ≡ k → ⊥)
        → read_node_on xs k (node_place header_length depth_width (field xs 16 5) j) row ≡ unread (why 13 0 0) row
    other_place j a d = no_place (node_place header_length depth_width (field xs 16 5) j) (λ e. d (place-one 32 (field xs 16 5) j k a node e))

-- ---- what an accepted call shows

pub record NodeGood (xs : List ℕ) (k place : ℕ) (row : List ℕ) : Type 0 where
  pub readable : Readable xs row
  pub node : Node (field xs 16 5) k
  pub place_is : place ≡ node_place header_length depth_width (field xs 16 5) k

pub node-good : (xs : List ℕ) (k place : ℕ) (row : List ℕ) → (read_node_on xs k place row).said.why.number ≡ 0 → NodeGood xs k place row
unfolding read_node_on node_headed node_sized node_examined node_placed
node-good xs k place row zero = go (choice (eqb (header_of xs).why.number 0)) zero
  where
    n : ℕ
    n = field xs 16 5

    l : List ℕ
    l = unpacked xs

    at : HeaderGood xs → length row ≡ n * height_size → (examined header_length depth_width n l).number ≡ 0
        → Choice (is_node n k) → Choice (eqb place (node_place header_length depth_width n k))
        → (node_placed 32 n l k place row).said.why.number ≡ 0 → NodeGood xs k place row
    at h w c (no! e) q z = let y : ◌≡◌ {A = ℕ} 3 0 = rw e at z in absurd (omega arith)
    at h w c (yes! e) (no! q) z = let y : ◌≡◌ {A = ℕ} 13 0 = rw (e, q) at z in absurd (omega arith)
    at h w c (yes! e) (yes! q) z = record {
      readable = record { header = h; wide = w; contents = c };
      node = record { low = leb-true 1 k (and_left (leb 1 k) (leb k n) e); high = leb-true k n (and_right (leb 1 k) (leb k n) e) };
      place_is = eqb-true place (node_place header_length depth_width n k) q;
    }

    exam : HeaderGood xs → length row ≡ n * height_size → Choice (eqb (examined header_length depth_width n l).number 0)
        → (node_examined 32 n l k place row (examined header_length depth_width n l)).said.why.number ≡ 0 → NodeGood xs k place row
    exam h w (no! e) z =
        let y : (examined header_length depth_width n l).number ≡ 0 = rw e at z in
        absurd (eqb-false (examined header_length depth_width n l).number 0 e y)
    exam h w (yes! e) z =
        at h w (eqb-true (examined header_length depth_width n l).number 0 e) (choice (is_node n k)) (choice (eqb place (node_place header_length depth_width n k))) (rw e at z)

    wide : HeaderGood xs → Choice (eqb (length row) (n * height_size)) → (node_sized 32 n l k place row).said.why.number ≡ 0 → NodeGood xs k place row
    wide h (no! e) z = let y : ◌≡◌ {A = ℕ} 1 0 = rw e at z in absurd (omega arith)
    wide h (yes! e) z = exam h (eqb-true (length row) (n * height_size) e) (choice (eqb (examined header_length depth_width n l).number 0)) (rw e at z)

    go : Choice (eqb (header_of xs).why.number 0) → (node_headed l k place row (header_of xs)).said.why.number ≡ 0 → NodeGood xs k place row
    go (no! e) z = absurd (eqb-false (header_of xs).why.number 0 e (rw e at z))
    go (yes! e) z =
        let h = header-good xs (eqb-true (header_of xs).why.number 0 e) in
        wide h (choice (eqb (length row) (n * height_size))) (rw (h.is, h.header) at z)

-- a place is accepted for at most one node of an image
pub at_most_one : (xs : List ℕ) (j k place : ℕ) (row rows : List ℕ) → (read_node_on xs j place row).said.why.number ≡ 0
    → (read_node_on xs k place rows).said.why.number ≡ 0 → j ≡ k
at_most_one xs j k place row rows a b =
    let g = node-good xs j place row a in
    let h = node-good xs k place rows b in
    place-one 32 (field xs 16 5) j k g.node h.node (sym g.place_is ∙ h.place_is)
