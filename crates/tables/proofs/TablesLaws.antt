-- Tables whose words their network gives back: `tables_of n (load n t) ≡ t`. What a loaded network holds at a node.
use Prim.Native.Nat.{ℕ, suc, ◌+◌, ◌-◌, ◌*◌, ◌^◌, ◌<◌}
use native.Mathlib.Omega.{arith}
use mathlib.Core.Bool.{true}
use mathlib.Core.List.{List, ◌∷◌, map}
use mathlib.Core.Path.{◌≡◌, sym, ap, ◌∙◌}
use lib.ListN.{length}
use Rattle.height.specs.Words.{height_words}
use Rattle.height.specs.declared.Height.{Height}
use Rattle.nodeset.specs.NodeSet.{member, set_of}
use Rattle.nodeset.proofs.Members.{member-range}
use Rattle.protocol.specs.Network.{Node, Message}
use Rattle.protocol.proofs.NodeLaws.{node-passes}
use Rattle.tables.specs.Cell.{queue, message_words}
use Rattle.tables.specs.Load.{load, tables_of}
use Rattle.tables.specs.Records.{records_of, row_words, cell_words, tables_from}
use Rattle.tables.specs.Row.{clock_in, neighbors_in, forming_in, height_in}
use Rattle.tables.specs.Rows.{row_at, rows}
use Rattle.tables.specs.Tables.{Tables, width, cell_width, node_of, channel_of, pair_of}
use Rattle.tables.specs.inner.Fit.{TablesFit}
use Rattle.tables.proofs.CellLaws.{cell-back}
use Rattle.tables.proofs.RowLaws.{row_back}
use Rattle.tables.proofs.RowsLaws.{row-length}
use Rattle.tables.proofs.WordRuns.{rows_are, row_in}

-- the members of a set within n are nodes
pub member-node : (n s : ℕ) → s < 2 ^ n → (k : ℕ) → member s k ≡ true → Node n k
member-node n s h k e = let r = member-range n s k h e in record { low = r.0; high = r.1 }

-- ---- a loaded network at a node

module _ (n : ℕ) (t : Tables) (u : ℕ) (a : Node n u) where
  pub load-clock : (load n t).clock u ≡ clock_in (node_of n u t.nodes)
  unfolding load
  load-clock = rw (node-passes n u a)

  pub load-neighbors : (load n t).neighbors u ≡ member (neighbors_in (node_of n u t.nodes))
  unfolding load
  load-neighbors = rw (node-passes n u a)

  pub load-forming : (load n t).forming u ≡ member (forming_in (node_of n u t.nodes))
  unfolding load
  load-forming = rw (node-passes n u a)

  pub load-height : (load n t).height u ≡ height_in (node_of n u t.nodes)
  unfolding load
  load-height = rw (node-passes n u a)

  pub load-channel : (v : ℕ) → Node n v → (load n t).channel u v ≡ queue (channel_of n u v t.channels)
  unfolding load
  load-channel v b = rw (node-passes n u a, node-passes n v b)

-- ---- the tables back

module _ (n : ℕ) (t : Tables) (fit : TablesFit n t) where
  node-back : (u : ℕ) → Node n u → node_of n u t.nodes ≡ row_words n (records_of n (load n t)) u
  unfolding row_words records_of
  node-back u a =
      row_back n (node_of n u t.nodes) (fit.rows u a)
      ∙ sym (rw (load-clock n t u a, load-neighbors n t u a, load-forming n t u a) (ap head (load-height n t u a)))
    where
      head : (ℕ → Height) → List ℕ
      head h = clock_in row ∷ set_of n (member (neighbors_in row)) ∷ set_of n (member (forming_in row)) ∷ rows n (λ v. height_words (h v))
        where
          row : List ℕ
          row = node_of n u t.nodes

  nodes-back : t.nodes ≡ rows n (row_words n (records_of n (load n t)))
  nodes-back =
      rows_are (width n) n t.nodes (row_words n (records_of n (load n t))) fit.size.nodes
      (λ i l. let e : suc i - 1 ≡ i = omega arith in
      ap (λ (j : ℕ). row_at (width n) j t.nodes) (sym e) ∙ node-back (suc i) (record { low = omega arith; high = l }))

  pair-suc : (i j : ℕ) → i * n + j ≡ pair_of n (suc i) (suc j)
  pair-suc i j = let e : suc i - 1 ≡ i = omega arith in let f : suc j - 1 ≡ j = omega arith in rw (e, f)

  cells-back : t.channels ≡ rows n (λ u. rows n (λ v. cell_words (map message_words ((load n t).channel u v))))
  cells-back =
      let size : length t.channels ≡ n * (n * cell_width) = omega (arith, fit.size.channels) in
      rows_are (n * cell_width) n t.channels (λ u. rows n (λ v. cell_words (map message_words ((load n t).channel u v)))) size
      (λ i l. rows_are cell_width n (row_at (n * cell_width) i t.channels) (λ v. cell_words (map message_words ((load n t).channel (suc i) v)))
      (row-length (n * cell_width) n t.channels size i l)
      (λ j m.
      let a : Node n (suc i) = record { low = omega arith; high = l } in
      let b : Node n (suc j) = record { low = omega arith; high = m } in
      row_in cell_width n i j t.channels size l m ∙ ap (λ (k : ℕ). row_at cell_width k t.channels) (pair-suc i j)
      ∙ cell-back (channel_of n (suc i) (suc j) t.channels) (fit.cells (suc i) (suc j) a b)
      ∙ ap (λ (ms : List Message). cell_words (map message_words ms)) (sym (load-channel n t (suc i) a (suc j) b))))

  pub tables-back : tables_of n (load n t) ≡ t
  unfolding tables_of tables_from records_of
  tables-back = λ i. record { nodes = sym nodes-back i; channels = sym cells-back i }
