-- Each event at its node, read off u's row: the sets as words, the view of v, the moved clock and the rule.
-- Assumes sound tables and two different nodes (`Between`).
use Prim.Native.Nat.{ℕ, zero, suc, max, ◌+◌, ◌≤◌}
use native.Mathlib.Omega.{arith}
use mathlib.Core.Bool.{true, false, not, ◌&&◌, ◌||◌}
use mathlib.Core.List.{List, ◌∷◌}
use mathlib.Core.Path.{◌≡◌, refl, ap, ◌∙◌}
use lib.Dec.{eqb, leb}
use borrow.Author.Tests.{ne_eqb, not-true, leb-true, eqb-false}
use Rattle.basics.proofs.FunctionsLaws.{update_self}
use Rattle.basics.proofs.Tests.{and_left, and_right}
use Rattle.decision.specs.inner.After.{seen}
use Rattle.height.specs.Height.{zero_height}
use Rattle.nodeset.specs.NodeSet.{member}
use Rattle.protocol.specs.Holds.{is_empty}
use Rattle.protocol.specs.Network.{Message, is_node, up_to}
use Rattle.protocol.specs.Refusal.{misnamed, unfit}
use Rattle.protocol.specs.Rules.{down_rule, receipt_rule}
use Rattle.protocol.specs.Step.{up, down, receive, local, local_up, local_down, local_ignored, local_taken, local_receipt, carried}
use Rattle.protocol.specs.declared.Rule.TheVariants.{ChannelUp, Ignored}
use Rattle.protocol.proofs.NodeLaws.{node-passes}
use Rattle.tables.specs.Cell.{count, message_at, messages_at, queue}
use Rattle.tables.specs.Load.{load, neighbors_at, forming_at}
use Rattle.tables.specs.Row.{clock_in, neighbors_in, forming_in, height_in}
use Rattle.tables.specs.Tables.{Tables, node_of, channel_of}
use Rattle.tables.specs.inner.Fit.{TablesFit}
use Rattle.tables.proofs.TablesLaws.{load-clock, load-neighbors, load-forming, load-height, load-channel}
use Rattle.election.specs.declared.Kind.TheVariants.{Raised, Dropped, Received}
use Rattle.election.specs.declared.Kind.{Kind}
use Rattle.election.specs.inner.Deciding.{Between, event_of}
use Rattle.election.proofs.SetChanges.{joined, without, insert-members, remove-members}

-- ---- refusal 3

module _ (n u v : ℕ) where
  pub misnamed-is : (kind : Kind) → misnamed n (event_of kind u v) ≡ not (is_node n u && is_node n v && not (eqb u v))
  unfolding misnamed
  misnamed-is Raised = refl
  misnamed-is Dropped = refl
  misnamed-is Received = refl

  pub named-between : (t : Tables) → TablesFit n t → (is_node n u && is_node n v && not (eqb u v)) ≡ true → Between n t u v
  named-between t fit s =
      let uv = and_left (is_node n u && is_node n v) (not (eqb u v)) s in
      let d = and_right (is_node n u && is_node n v) (not (eqb u v)) s in
      let a = and_left (is_node n u) (is_node n v) uv in
      let b = and_right (is_node n u) (is_node n v) uv in
      record {
        fit = fit;
        node = record { low = leb-true 1 u (and_left (leb 1 u) (leb u n) a); high = leb-true u n (and_right (leb 1 u) (leb u n) a) };
        other = record { low = leb-true 1 v (and_left (leb 1 v) (leb v n) b); high = leb-true v n (and_right (leb 1 v) (leb v n) b) };
        differ = eqb-false u v (not-true (eqb u v) d);
      }

-- two different nodes are well named
pub between-named : (n : ℕ) (t : Tables) (u v : ℕ) → Between n t u v → (kind : Kind) → misnamed n (event_of kind u v) ≡ false
between-named n t u v b kind =
    misnamed-is n u v kind ∙ rw (node-passes n u b.node, node-passes n v b.other, ne_eqb u v b.differ)

module _ (n : ℕ) (t : Tables) (u v : ℕ) (b : Between n t u v) where
  few : n ≤ 16
  few = b.fit.size.few

  abbrev row : List ℕ
  row = node_of n u t.nodes

  abbrev cell : List ℕ
  cell = channel_of n v u t.channels

  -- ---- refusals 4 and 5, and which messages are ignored

  pub up_is : up_to (load n t) u v ≡ (neighbors_at n t u v || forming_at n t u v)
  up_is = rw (load-neighbors n t u b.node, load-forming n t u b.node)

  -- ---- up

  pub local-up : local n (load n t) (up u v)
      ≡ carried n (member (neighbors_in row)) (member (joined (forming_in row) v)) (seen row v (height_in row v)) u v (suc (clock_in row)) ChannelUp
  unfolding local_up
  local-up =
      rw (
        load-clock n t u b.node,
        load-neighbors n t u b.node,
        load-forming n t u b.node,
        load-height n t u b.node,
        insert-members n few (forming_in row) (b.fit.rows u b.node).forming-lt v b.other,
        update_self (height_in row) v,
      )

  -- ---- down

  pub local-down : local n (load n t) (down u v)
      ≡ carried n (member (without (neighbors_in row) v)) (member (without (forming_in row) v)) (seen row v zero_height) u v (suc (clock_in row))
      (down_rule n (member (without (neighbors_in row) v)) (seen row v zero_height) u)
  unfolding local_down
  local-down =
      rw (
        load-clock n t u b.node,
        load-neighbors n t u b.node,
        load-forming n t u b.node,
        load-height n t u b.node,
        remove-members n few (neighbors_in row) (b.fit.rows u b.node).neighbors-lt v b.other,
        remove-members n few (forming_in row) (b.fit.rows u b.node).forming-lt v b.other,
      )

  -- ---- receive

  queue-first : 1 ≤ count cell → (ms : List Message) × ((load n t).channel v u ≡ message_at cell 1 ∷ ms)
  unfolding queue messages_at
  queue-first h = go (count cell) refl
    where
      go : (c : ℕ) → count cell ≡ c
          → (ms : List Message) × ((load n t).channel v u ≡ message_at cell 1 ∷ ms)
      go zero e = absurd (omega arith)
      go (suc c) e = (messages_at c cell (1 + 8), load-channel n t v b.other u b.node ∙ rw e)

  pub receive-unfit : count cell ≡ 0 → unfit (load n t) (receive v u) ≡ true
  unfolding queue messages_at
  receive-unfit e = ap is_empty (load-channel n t v b.other u b.node) ∙ rw e

  pub receive_fit : 1 ≤ count cell → unfit (load n t) (receive v u) ≡ false
  receive_fit h = rw (queue-first h).1

  pub local-ignored : 1 ≤ count cell → (neighbors_at n t u v || forming_at n t u v) ≡ false
      → local n (load n t) (receive v u)
      ≡ carried n (member (neighbors_in row)) (member (forming_in row)) (seen row v (height_in row v)) u v
      (suc (max (clock_in row) (message_at cell 1).timestamp)) Ignored
  unfolding local_ignored
  local-ignored h unknown =
      let q : up_to (load n t) u v ≡ false = up_is ∙ unknown in
      ap (local_receipt n (load n t) u v) (queue-first h).1
      ∙ rw (
        q,
        load-clock n t u b.node,
        load-neighbors n t u b.node,
        load-forming n t u b.node,
        load-height n t u b.node,
        update_self (height_in row) v,
      )

  pub local-heard : 1 ≤ count cell → (neighbors_at n t u v || forming_at n t u v) ≡ true
      → local n (load n t) (receive v u)
      ≡ carried n (member (joined (neighbors_in row) v)) (member (without (forming_in row) v)) (seen row v (message_at cell 1).height) u v
      (suc (max (clock_in row) (message_at cell 1).timestamp))
      (receipt_rule n (member (joined (neighbors_in row) v)) (seen row v (message_at cell 1).height) u v)
  unfolding local_taken
  local-heard h known =
      let q : up_to (load n t) u v ≡ true = up_is ∙ known in
      ap (local_receipt n (load n t) u v) (queue-first h).1
      ∙ rw (
        q,
        load-clock n t u b.node,
        load-neighbors n t u b.node,
        load-forming n t u b.node,
        load-height n t u b.node,
        insert-members n few (neighbors_in row) (b.fit.rows u b.node).neighbors-lt v b.other,
        remove-members n few (forming_in row) (b.fit.rows u b.node).forming-lt v b.other,
      )
