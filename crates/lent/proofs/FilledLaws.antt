-- Tables in which every row is a fresh node's and every cell is empty hold the fresh network; the rows are written one by one.
use Prim.Native.Nat.{ℕ, zero, suc, ◌+◌, ◌-◌, ◌*◌, ◌≤◌, ◌<◌}
use native.Mathlib.Omega.{arith}
use mathlib.Core.Bool.{true, false, cond}
use mathlib.Core.List.{List, ◌++◌}
use mathlib.Core.Logic.{◌⊎◌, inl, inr}
use mathlib.Core.Path.{◌≡◌, refl, sym, ap, ◌∙◌, fun_ext}
use lib.Dec.{eqb}
use lib.ListN.{get_or, length, take, drop, replicate, length-replicate}
use lib.Pow.{pow_pos}
use borrow.Author.Tests.{eq-eqb, ne_eqb}
use Rattle.basics.specs.Functions.{update}
use Rattle.basics.proofs.FunctionsLaws.{update-at, update-off}
use Rattle.basics.proofs.Tests.{equal?}
use Rattle.height.specs.Height.{zero_height}
use Rattle.height.specs.Words.{height_at, delta_of}
use Rattle.height.specs.declared.Height.{Height}
use Rattle.nodeset.specs.NodeSet.{member}
use Rattle.nodeset.proofs.Members.{none-in-zero}
use Rattle.protocol.specs.Network.{Node, at_nodes, at_pairs, fresh_height, fresh}
use Rattle.protocol.proofs.Restrict.{nodes-is, pairs_is, same_nodes, same-pairs}
use Rattle.refusal.specs.Outcome.{Outcome, outcome}
use Rattle.refusal.specs.Refusal.{why}
use Rattle.refusal.specs.declared.Why.{Why}
use Rattle.tables.specs.Cell.{queue}
use Rattle.tables.specs.inner.Written.{emptied, put_height, put_node}
use Rattle.tables.specs.Load.{load, tables_of, clock_at, neighbors_at, forming_at, heights_at, messages_on}
use Rattle.tables.specs.Row.{clock_in, neighbors_in, forming_in, height_in}
use Rattle.tables.specs.Rows.{row_at}
use Rattle.tables.specs.Tables.{Tables, tables, sized, width, cell_width, node_of, pair_of, channel_of}
use Rattle.tables.specs.inner.Fit.{Sized, RowFits, TablesFit}
use Rattle.tables.proofs.CellLaws.{emptied-fits, queue-emptied}
use Rattle.tables.proofs.RowLaws.{put_word, put-heights, put-fits}
use Rattle.tables.proofs.RowsLaws.{row_fits, pair_lt, node-length, node-put, node-other, node-put-length, part-row, changed_row}
use Rattle.tables.proofs.TablesLaws.{tables-back}
use Rattle.tables.proofs.WordRuns.{part-run, run-zero}
use Rattle.tables.proofs.Wordy.{Wordy}
use Rattle.lent.specs.Fresh.{fresh_on}
use Rattle.lent.proofs.CheckLaws.{is-sized}

-- ---- zero words

zero_word : (k i : ℕ) → get_or (replicate {A = ℕ} k 0) i 0 ≡ 0
zero_word zero i = refl
zero_word (suc k) zero = refl
zero_word (suc k) (suc i) = zero_word k i

zero_row : (w size i : ℕ) → i < size → row_at w i (replicate (size * w) 0) ≡ replicate w 0
unfolding row_at
zero_row w size i l =
    let f : i * w + w ≤ size * w = row_fits w i size l in
    part-run w (i * w) (replicate (size * w) 0) (omega (arith, length-replicate {A = ℕ} (size * w) 0))
    ∙ run-zero w (i * w) (replicate (size * w) 0) (λ j q. zero_word (size * w) (i * w + j))

zero-fits : (n : ℕ) → RowFits n (replicate (width n) 0)
zero-fits n = record {
  wide = length-replicate {A = ℕ} (width n) 0;
  neighbors-lt = rw (zero_word (width n) 1) (pow_pos n);
  forming-lt = rw (zero_word (width n) 2) (pow_pos n);
  deltas = λ k l. rw (zero_word (width n) (3 + k * 7 + 3)) (omega arith);
}

zero-heights : (n z : ℕ) → height_in (replicate (width n) 0) z ≡ zero_height
unfolding height_in height_at delta_of
zero-heights n zero = refl
zero-heights n (suc k) =
    let at = zero_word (width n) in
    rw (at (3 + k * 7), at (3 + k * 7 + 1), at (3 + k * 7 + 2), at (3 + k * 7 + 3), at (3 + k * 7 + 4), at (3 + k * 7 + 5), at (3 + k * 7 + 6))

-- ---- a fresh row

-- zero words but the node's own height
unfoldable pub fresh_row : ℕ → ℕ → List ℕ
fresh_row n u = put_height (replicate (width n) 0) u (fresh_height u)

fresh-wordy : (u : ℕ) → Wordy (fresh_height u)
fresh-wordy u = record { delta = omega arith; nlts = refl }

module _ (n u : ℕ) (a : Node n u) where
  pub fresh-fits : RowFits n (fresh_row n u)
  unfolding fresh_row
  fresh-fits = put-fits n (replicate (width n) 0) (zero-fits n) u a (fresh_height u) (fresh-wordy u)

  fresh-word : (j : ℕ) → j < 3 → get_or (fresh_row n u) j 0 ≡ 0
  unfolding fresh_row
  fresh-word j l = put_word (replicate (width n) 0) u (fresh_height u) j l ∙ zero_word (width n) j

  fresh-heights : height_in (fresh_row n u) ≡ fresh.height u
  unfolding fresh_row
  fresh-heights =
      put-heights n (replicate (width n) 0) (zero-fits n).wide u a (fresh_height u) (fresh-wordy u) ∙ fun_ext (λ z. at z (equal? z u))
    where
      at : (z : ℕ) → (z ≡ u) ⊎ (z ≡ u → ⊥)
          → update (height_in (replicate (width n) 0)) u (fresh_height u) z ≡ cond (eqb u z) (fresh_height u) zero_height
      at z (inl e) = rw (e, update-at (height_in (replicate (width n) 0)) u (fresh_height u), eq-eqb u u refl)
      at z (inr d) =
          rw (ne_eqb u z (λ e. d (sym e))) (update-off (height_in (replicate (width n) 0)) u (fresh_height u) z d ∙ zero-heights n z)

-- ---- tables of fresh rows and empty cells

nodes-are : {A : Type 0} (n : ℕ) (f g : ℕ → A) → ((u : ℕ) → Node n u → f u ≡ g u) → at_nodes n f g ≡ g
nodes-are n f g h = same_nodes n f g g h ∙ nodes-is n g g (λ u d. refl)

pairs-are : {A : Type 0} (n : ℕ) (f g : ℕ → ℕ → A) → ((u v : ℕ) → Node n u → Node n v → f u v ≡ g u v) → at_pairs n f g ≡ g
pairs-are n f g h = same-pairs n f g g h ∙ pairs_is n g g (λ u v d. refl) (λ u v a d. refl)

module _ (n : ℕ) (t : Tables) (size : Sized n t) (rows_are : (u : ℕ) → Node n u → node_of n u t.nodes ≡ fresh_row n u)
    (cells_are : (u v : ℕ) → Node n u → Node n v → channel_of n u v t.channels ≡ emptied) where
  -- what holds of a fresh row holds of each node's row
  at_row : (P : ℕ → List ℕ → Type 0) → ((u : ℕ) → Node n u → P u (fresh_row n u)) → (u : ℕ) → Node n u → P u (node_of n u t.nodes)
  at_row P h u a = rw (rows_are u a) (h u a)

  pub fresh-tables-fit : TablesFit n t
  fresh-tables-fit = record {
    size = size;
    rows = at_row (λ u row. RowFits n row) (fresh-fits n);
    cells = λ u v a b. rw (cells_are u v a b) emptied-fits;
  }

  -- a set of a fresh row holds no node
  no_node : (u j : ℕ) → Node n u → j < 3 → member (get_or (fresh_row n u) j 0) ≡ (λ v. false)
  no_node u j a l = ap member (fresh-word n u a j l) ∙ fun_ext none-in-zero

  pub fresh-loaded : load n t ≡ fresh
  unfolding load
  fresh-loaded = λ i. record {
    clock = nodes-are n (clock_at n t) fresh.clock (at_row (λ u row. clock_in row ≡ 0) (λ u a. fresh-word n u a 0 (omega arith))) i;
    neighbors = nodes-are n (neighbors_at n t) fresh.neighbors
        (at_row (λ u row. member (neighbors_in row) ≡ (λ v. false)) (λ u a. no_node u 1 a (omega arith))) i;
    forming = nodes-are n (forming_at n t) fresh.forming
        (at_row (λ u row. member (forming_in row) ≡ (λ v. false)) (λ u a. no_node u 2 a (omega arith))) i;
    height = nodes-are n (heights_at n t) fresh.height (at_row (λ u row. height_in row ≡ fresh.height u) (fresh-heights n)) i;
    channel = pairs-are n (messages_on n t) fresh.channel (λ u v a b. ap queue (cells_are u v a b) ∙ queue-emptied) i;
  }

  pub fresh-tables : t ≡ tables_of n fresh
  fresh-tables = sym (tables-back n t fresh-tables-fit) ∙ ap (tables_of n) fresh-loaded

-- ---- the rows written one by one

-- with row u next: the rows below u are fresh, the others are zero
pub record FilledTo (n u : ℕ) (nodes : List ℕ) : Type 0 where
  pub size : length nodes ≡ n * width n
  pub written : (x : ℕ) → Node n x → x < u → node_of n x nodes ≡ fresh_row n x
  pub blank : (x : ℕ) → Node n x → u ≤ x → node_of n x nodes ≡ replicate (width n) 0

pub filled_none : (n : ℕ) (nodes : List ℕ) → nodes ≡ replicate (n * width n) 0 → FilledTo n 1 nodes
filled_none n nodes e = record {
  size = ap length e ∙ length-replicate {A = ℕ} (n * width n) 0;
  written = λ x a l. absurd (omega (arith, a.low));
  blank = λ x a l. ap (node_of n x) e ∙ zero_row (width n) n (x - 1) (omega (arith, a.low, a.high));
}

module _ (n u : ℕ) (nodes : List ℕ) (f : FilledTo n u nodes) (here : Node n u) where
  row_written : put_height (node_of n u nodes) u (fresh_height u) ≡ fresh_row n u
  unfolding fresh_row
  row_written = rw (f.blank u here (omega arith))

  fresh-length : length (fresh_row n u) ≡ width n
  fresh-length = (fresh-fits n u here).wide

  -- the part nodes[a..e] that is lent
  pub part-wide : {a e : ℕ} → a ≡ (u - 1) * width n → e ≡ a + width n → length (take (e - a) (drop a nodes)) ≡ width n
  part-wide starts ends = ap length (part-row (width n) (u - 1) nodes starts ends) ∙ node-length n u here nodes f.size

  -- nodes after that part came back as the row of u
  pub filled-one : {a e : ℕ} {h : Height} {r next : List ℕ} → a ≡ (u - 1) * width n → e ≡ a + width n → h ≡ fresh_height u
      → r ≡ put_height (take (e - a) (drop a nodes)) u h → next ≡ take a nodes ++ (r ++ drop (e - a) (drop a nodes))
      → FilledTo n (u + 1) next
  filled-one {a} {e} {h} {r} {next} starts ends is-fresh written back = record {
    size = rw put (node-put-length n u here nodes f.size (fresh_row n u) fresh-length);
    written = λ x b l. at x b (equal? x u) l;
    blank = λ x b l.
        rw put (node-other n u here nodes f.size (fresh_row n u) fresh-length x b (λ q. omega arith) ∙ f.blank x b (omega arith));
  }
    where
      put : next ≡ put_node n u (fresh_row n u) nodes
      put =
          back ∙ changed_row (width n) (u - 1) nodes starts ends (λ row. put_height row u (fresh_height u))
          (written ∙ ap (put_height (take (e - a) (drop a nodes)) u) is-fresh)
          ∙ ap (λ (row : List ℕ). put_node n u row nodes) row_written

      at : (x : ℕ) → Node n x → (x ≡ u) ⊎ (x ≡ u → ⊥) → x < u + 1 → node_of n x next ≡ fresh_row n x
      at x b (inl q) l = rw (put, q) (node-put n u here nodes f.size (fresh_row n u) fresh-length)
      at x b (inr d) l =
          rw put (node-other n u here nodes f.size (fresh_row n u) fresh-length x b d ∙ f.written x b (omega arith))

pub filled-all : (n u : ℕ) (nodes channels : List ℕ) → 1 ≤ n → n ≤ 16 → FilledTo n u nodes → n < u
    → channels ≡ replicate (n * n * cell_width) 0 → tables nodes channels ≡ tables_of n fresh
filled-all n u nodes channels low few f past empty =
    fresh-tables n (tables nodes channels)
    (record { low = low; few = few; nodes = f.size; channels = ap length empty ∙ length-replicate {A = ℕ} (n * n * cell_width) 0 })
    (λ x a. f.written x a (omega (arith, a.high)))
    (λ x y a b. ap (channel_of n x y) empty ∙ zero_row cell_width (n * n) (pair_of n x y) (pair_lt n x y a b))

-- ---- the two cases of `fresh`

module _ (n : ℕ) (t : Tables) where
  pub fresh-sized : {s : Tables} → sized n t ≡ true → s ≡ tables_of n fresh → outcome (why 0 0 0) s ≡ fresh_on n t
  unfolding fresh_on
  fresh-sized e h = rw (e, h)

  pub fresh-sizes : sized n t ≡ false → outcome (why 1 0 0) t ≡ fresh_on n t
  unfolding fresh_on
  fresh-sizes e = rw e

-- what `fresh` leaves in tables of the right sizes
pub made-fresh : (n : ℕ) (t : Tables) → Sized n t → {s : Why} {u : Tables} → outcome s u ≡ fresh_on n t → u ≡ tables_of n fresh
unfolding fresh_on
made-fresh n t size e = ap (λ (f : Outcome Why Tables). f.after) (rw (is-sized n t size) at e)
