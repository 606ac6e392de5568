-- What an event writes is the tables of the network committed: one law for the three kinds of event.
-- Assumes sound tables, two different nodes, and what the event found (`Between`, `Takes`).
use Prim.Native.Nat.{ℕ, ◌^◌, ◌<◌, ◌≤◌}
use native.Mathlib.Omega.{arith}
use mathlib.Core.Bool.{Bool, true}
use mathlib.Core.List.{List}
use mathlib.Core.Logic.{◌⊎◌, inl, inr}
use mathlib.Core.Path.{◌≡◌, sym, ap, ◌∙◌}
use lib.ListN.{length}
use Rattle.basics.specs.Functions.{update}
use Rattle.basics.proofs.FunctionsLaws.{update-at}
use Rattle.basics.proofs.Tests.{equal?}
use Rattle.decision.specs.inner.After.{seen, sends_to}
use Rattle.decision.specs.declared.Decision.{Decision}
use Rattle.height.specs.declared.Height.{Height}
use Rattle.nodeset.specs.NodeSet.{member, set_of}
use Rattle.protocol.specs.Network.{Node, fresh}
use Rattle.protocol.specs.Step.{carried, height_after, cleared, commit, post}
use Rattle.tables.specs.Cell.{count}
use Rattle.tables.specs.Load.{load, tables_of, clock_at, neighbors_at, forming_at, heights_at}
use Rattle.tables.specs.Row.{clock_in, neighbors_in, forming_in, height_in}
use Rattle.tables.specs.inner.Written.{put_height, put_node}
use Rattle.tables.specs.Tables.{Tables, node_of}
use Rattle.tables.specs.inner.Fit.{RowFits, TablesFit}
use Rattle.tables.proofs.ChangeLaws.{changed-nodes}
use Rattle.tables.proofs.RowLaws.{put-fits, put-heights, headed-fits, headed-heights, headed-clock, headed-neighbors, headed-forming}
use Rattle.tables.proofs.RowsLaws.{node-put, node-other, node-put-length}
use Rattle.tables.proofs.TablesLaws.{tables-back}
use Rattle.tables.proofs.Wordy.{Wordy}
use Rattle.election.specs.declared.Kind.{Kind}
use Rattle.election.specs.inner.Cells.{CellsAre, Takes, cleared_cells, sent_cells}
use Rattle.election.specs.inner.Deciding.{Between, event_of, local_of, row_after}
use Rattle.election.proofs.CellChanges.{stamped, sent-fits, sent-loads}
use Rattle.election.proofs.SetChanges.{sends-node, sent-members}

module _ (kind : Kind) (n : ℕ) (t : Tables) (u v : ℕ) (b : Between n t u v) (takes : Takes kind n u v t.channels)
    (d : Decision) (h_n : d.neighbors < 2 ^ n) (h_f : d.forming < 2 ^ n) (own : Height) (wv : Wordy d.view) (wo : Wordy own)
    (own_is : own ≡ height_after n (member d.neighbors) (seen (node_of n u t.nodes) v d.view) u v d.clock.0 d.rule)
    (space : (y : ℕ) → Node n y → member (set_of 16 (sends_to v d.rule d.neighbors d.forming)) y ≡ true
    → count (cleared_cells kind n u v t.channels u y) < 8)
    (t' : Tables) (row_is : t'.nodes ≡ put_node n u (row_after (node_of n u t.nodes) u v d own) t.nodes)
    (cells_are : CellsAre n t'.channels
    (sent_cells u (set_of 16 (sends_to v d.rule d.neighbors d.forming)) own d.clock.0 (cleared_cells kind n u v t.channels))) where
  few : n ≤ 16
  few = b.fit.size.few

  abbrev old : List ℕ
  old = node_of n u t.nodes

  abbrev new : List ℕ
  new = row_after (node_of n u t.nodes) u v d own

  abbrev to : ℕ
  to = set_of 16 (sends_to v d.rule d.neighbors d.forming)

  only : (k : ℕ) → member to k ≡ true → Node n k
  only k e = sends-node n few _ _ h_n h_f v b.other d.rule k
      (sym (ap (λ (f : ℕ → Bool). f k) (sent-members n few d.neighbors d.forming h_n h_f v b.other d.rule)) ∙ e)

  -- ---- u's row

  once-fits : RowFits n (put_height old v d.view)
  once-fits = put-fits n old (b.fit.rows u b.node) v b.other d.view wv

  twice-fits : RowFits n (put_height (put_height old v d.view) u own)
  twice-fits = put-fits n (put_height old v d.view) once-fits u b.node own wo

  long : 3 ≤ length (put_height (put_height old v d.view) u own)
  long = omega (arith, twice-fits.wide)

  new-fits : RowFits n new
  new-fits = headed-fits n (put_height (put_height old v d.view) u own) twice-fits d.clock.0 d.neighbors d.forming h_n h_f

  new-heights : height_in new ≡ update (seen old v d.view) u own
  new-heights =
      headed-heights (put_height (put_height old v d.view) u own) d.clock.0 d.neighbors d.forming long
      ∙ put-heights n (put_height old v d.view) once-fits.wide u b.node own wo
      ∙ ap (λ (f : ℕ → Height). update f u own) (put-heights n old (b.fit.rows u b.node).wide v b.other d.view wv)

  -- ---- rows

  here : node_of n u t'.nodes ≡ new
  here = ap (node_of n u) row_is ∙ node-put n u b.node t.nodes b.fit.size.nodes new new-fits.wide

  elsewhere : (x : ℕ) → Node n x → (x ≡ u → ⊥) → node_of n x t'.nodes ≡ node_of n x t.nodes
  elsewhere x c e = ap (node_of n x) row_is ∙ node-other n u b.node t.nodes b.fit.size.nodes new new-fits.wide x c e

  pub written-fits : TablesFit n t'
  written-fits = record {
    size = record {
      low = b.fit.size.low;
      few = few;
      nodes = ap length row_is ∙ node-put-length n u b.node t.nodes b.fit.size.nodes new new-fits.wide;
      channels = cells_are.size;
    };
    rows = λ x c. row_at x c (equal? x u);
    cells = sent-fits n t u v b kind takes to only own wo d.clock.0 space t'.nodes t'.channels cells_are;
  }
    where
      row_at : (x : ℕ) → Node n x → (x ≡ u) ⊎ (x ≡ u → ⊥) → RowFits n (node_of n x t'.nodes)
      row_at x c (inl e) = rw (e, here) new-fits
      row_at x c (inr e) = rw (elsewhere x c e) (b.fit.rows x c)

  -- ---- the loaded network

  head-clock : clock_in new ≡ d.clock.0
  head-clock = headed-clock (put_height (put_height old v d.view) u own) d.clock.0 d.neighbors d.forming long

  head-neighbors : neighbors_in new ≡ d.neighbors
  head-neighbors = headed-neighbors (put_height (put_height old v d.view) u own) d.clock.0 d.neighbors d.forming long

  head-forming : forming_in new ≡ d.forming
  head-forming = headed-forming (put_height (put_height old v d.view) u own) d.clock.0 d.neighbors d.forming long

  clocks : (load n t').clock ≡ update (load n t).clock u d.clock.0
  unfolding load
  clocks =
      changed-nodes n u b.node (clock_at n t) (clock_at n t') fresh.clock d.clock.0
      (λ y c e. ap clock_in (elsewhere y c e)) (ap clock_in here ∙ head-clock)

  links : (load n t').neighbors ≡ update (load n t).neighbors u (member d.neighbors)
  unfolding load
  links =
      changed-nodes n u b.node (neighbors_at n t) (neighbors_at n t') fresh.neighbors (member d.neighbors)
      (λ y c e. ap (λ (r : List ℕ). member (neighbors_in r)) (elsewhere y c e))
      (ap (λ (r : List ℕ). member (neighbors_in r)) here ∙ ap member head-neighbors)

  forms : (load n t').forming ≡ update (load n t).forming u (member d.forming)
  unfolding load
  forms =
      changed-nodes n u b.node (forming_at n t) (forming_at n t') fresh.forming (member d.forming)
      (λ y c e. ap (λ (r : List ℕ). member (forming_in r)) (elsewhere y c e))
      (ap (λ (r : List ℕ). member (forming_in r)) here ∙ ap member head-forming)

  heights : (load n t').height ≡ update (load n t).height u (update (seen old v d.view) u own)
  unfolding load
  heights =
      changed-nodes n u b.node (heights_at n t) (heights_at n t') fresh.height (update (seen old v d.view) u own)
      (λ y c e. ap height_in (elsewhere y c e)) (ap height_in here ∙ new-heights)

  channels : (load n t').channel
      ≡ update (cleared (load n t) (event_of kind u v)) u
      (λ y. post (member to y) (stamped own d.clock.0) (cleared (load n t) (event_of kind u v) u y))
  channels = sent-loads n t u v b kind takes to only own wo d.clock.0 space t'.nodes t'.channels cells_are

  pub written-loads : load n t' ≡ commit (load n t) u (local_of n t u v d) (cleared (load n t) (event_of kind u v))
  unfolding commit carried sends_to
  written-loads =
      (λ i. record { clock = clocks i; neighbors = links i; forming = forms i; height = heights i; channel = channels i })
      ∙ rw (own_is, sent-members n few d.neighbors d.forming h_n h_f v b.other d.rule, update-at)

  pub written-tables : t' ≡ tables_of n (commit (load n t) u (local_of n t u v d) (cleared (load n t) (event_of kind u v)))
  written-tables = sym (tables-back n t' written-fits) ∙ ap (tables_of n) written-loads
