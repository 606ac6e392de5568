-- A look at node k of a saved image, where k's record starts, gives k's own data word for word: clock, both sets, n heights.
-- Assumes 1 to 16 nodes, and a network that breaks no rule, holds nothing beyond node n and whose times make sense; or tables that pass the check, of words of 32 bits.
use Prim.Native.Nat.{ℕ, ◌*◌, ◌≤◌}
use mathlib.Core.Bool.{true}
use mathlib.Core.List.{List}
use mathlib.Core.Path.{◌≡◌, sym, ap, ◌∙◌}
use lib.ListN.{length, drop}
use Rattle.bits.specs.Bits.{field, unpacked}
use Rattle.height.specs.Words.{height_words, height_size}
use Rattle.image.specs.Image.{image}
use Rattle.image.specs.Places.{node_place, records_in, tables_in}
use Rattle.image.specs.inner.Parts.{row_from}
use Rattle.image.proofs.PartLaws.{row_read, records-shaped}
use Rattle.image_reader.specs.Record.{record_in}
use Rattle.image_reading.specs.declared.Fields.{Fields}
use Rattle.lent.specs.Check.{check_on}
use Rattle.lent.proofs.CheckLaws.{sound-sized}
use Rattle.lent.proofs.SoundLoads.{sound-loads, timely-loads, load_inside}
use Rattle.lent.proofs.SoundTables.{Words, sound-fits}
use Rattle.nodeset.specs.NodeSet.{set_of}
use Rattle.protocol.specs.Holds.{sound}
use Rattle.protocol.specs.Network.{Node, Network, restrict}
use Rattle.protocol.specs.Times.{timely}
use Rattle.refusal.specs.Outcome.{accepted, Answered, outcome}
use Rattle.refusal.specs.declared.Why.{Why}
use Rattle.tables.specs.Load.{load, tables_of}
use Rattle.tables.specs.Records.{records_of, row_words}
use Rattle.tables.specs.Row.{clock_in, neighbors_in, forming_in}
use Rattle.tables.specs.Rows.{rows}
use Rattle.tables.specs.Tables.{Tables, node_of, row_head}
use Rattle.tables.proofs.Back.{node-of}
use Rattle.tables.proofs.RecordsLaws.{node-from}
use Rattle.tables.proofs.TablesLaws.{tables-back}
use Rattle.image_snapshot.specs.ReadNode.{Looked, read_node_on}
use Rattle.image_snapshot.proofs.AcceptedLaws.{header-good}
use Rattle.image_snapshot.proofs.ImageLaws.{image-header, image-fields, image-tables, image-examined}
use Rattle.image.specs.Widths.{header_length, depth_width}
use Rattle.image_snapshot.proofs.NodePlaces.{own-place}

-- accepted, with the words of a row of the tables
abbrev pub row_looked : List ℕ → Looked
row_looked row =
    outcome (accepted (record { clock = record { 0 = clock_in row }; neighbors = neighbors_in row; forming = forming_in row })) (drop row_head row)

-- the record at a node's place is that node's row of the image's tables
row-looked : (n : ℕ) (l : List ℕ) (k : ℕ) → Node n k
    → record_in n l (node_place header_length depth_width n k) ≡ row_looked (node_of n k (tables_in header_length depth_width n l).nodes)
unfolding record_in row_from tables_in
row-looked n l k node =
    ap row_looked (row_read header_length depth_width n l k
    ∙ sym (node-from n (records_in header_length depth_width n l) (records-shaped header_length depth_width n l) k node))

module _ (n : ℕ) (low : 1 ≤ n) (few : n ≤ 16) (p : Network) (holds : sound n p ≡ true) (inside : restrict n p ≡ p)
    (times : timely n p ≡ true) (k : ℕ) (node : Node n k) (row : List ℕ) (wide : length row ≡ n * height_size) where
  look-tables : read_node_on (image n p) k (node_place header_length depth_width n k) row ≡ row_looked (node_of n k (tables_of n p).nodes)
  look-tables =
      let xs = image n p in
      let count : field xs 16 5 ≡ n = ap (λ (f : Fields). f.n) (image-fields n low few p holds inside) in
      let header = header-good xs (ap (λ (s : Answered Fields). s.why.number) (image-header n low few p holds inside)) in
      let passes = ap (λ (c : Why). c.number) (image-examined n low few p holds inside times) in
      rw count at (own-place xs row (record { header = header; wide = rw count wide; contents = rw count passes }) k (rw count node))
      ∙ row-looked n (unpacked xs) k node
      ∙ ap (λ (t : Tables). row_looked (node_of n k t.nodes)) (image-tables n low few p holds inside)

  pub look-image : read_node_on (image n p) k (node_place header_length depth_width n k) row
      ≡ outcome (accepted (record { clock = record { 0 = p.clock k }; neighbors = set_of n (p.neighbors k); forming = set_of n (p.forming k) }))
      (rows n (λ v. height_words (p.height k v)))
  unfolding row_words records_of
  look-image = look-tables ∙ ap row_looked (node-of n p k node)

pub look-saved : (n : ℕ) (t : Tables) → Words t → (check_on n t).number ≡ 0 → (k : ℕ) → Node n k → (row : List ℕ) → length row ≡ n * height_size
    → read_node_on (image n (load n t)) k (node_place header_length depth_width n k) row ≡ row_looked (node_of n k t.nodes)
look-saved n t words passes k node row wide =
    let size = sound-sized n t passes in
    let whole = sound-fits n t words passes in
    look-tables n size.low size.few (load n t) (sound-loads n t words passes) (load_inside n t whole) (timely-loads n t words passes) k node row wide
    ∙ ap (λ (u : Tables). row_looked (node_of n k u.nodes)) (tables-back n t whole)
