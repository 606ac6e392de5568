-- The cells before and after an event sends, and the channels that they load to: protocol's `cleared` and the posts of `commit`.
-- Assumes that the tables fit.
use Prim.Native.Nat.{ℕ, ◌<◌}
use mathlib.Core.Bool.{true, false, cond, ◌&&◌, and-false}
use mathlib.Core.List.{List, [], tail}
use mathlib.Core.Logic.{◌⊎◌, inl, inr}
use mathlib.Core.Path.{◌≡◌, refl, sym, ap, ◌∙◌}
use lib.Dec.{eqb}
use borrow.Author.Tests.{eq-eqb, ne_eqb}
use Rattle.basics.specs.Functions.{update}
use Rattle.basics.proofs.FunctionsLaws.{update-at, update-off}
use Rattle.basics.proofs.Tests.{clash, not-true-is-false, Choice, yes!, no!, choice, equal?}
use Rattle.height.specs.declared.Height.{Height}
use Rattle.nodeset.specs.NodeSet.{member}
use Rattle.protocol.specs.Network.{Node, Message, is_node, fresh, at_pairs}
use Rattle.protocol.specs.Step.{cleared, post}
use Rattle.protocol.proofs.NodeLaws.{node-passes}
use Rattle.tables.specs.Cell.{count, queue}
use Rattle.tables.specs.inner.Written.{appended, taken, emptied}
use Rattle.tables.specs.Load.{load, messages_on}
use Rattle.tables.specs.Tables.{Tables, tables, channel_of}
use Rattle.tables.specs.inner.Fit.{CellFits}
use Rattle.tables.proofs.CellLaws.{queue-appended, appended-fits, queue-taken, taken-fits, queue-emptied, emptied-fits}
use Rattle.tables.proofs.ChangeLaws.{changed-pairs}
use Rattle.tables.proofs.TablesLaws.{load-channel}
use Rattle.tables.proofs.Wordy.{Wordy}
use Rattle.election.specs.declared.Kind.TheVariants.{Raised, Dropped, Received}
use Rattle.election.specs.declared.Kind.{Kind}
use Rattle.election.specs.inner.Cells.{CellsAre, Takes, cleared_cells, sent_cells}
use Rattle.election.specs.inner.Deciding.{Between, event_of}

abbrev pub stamped : Height → ℕ → Message
stamped h clock = record { height = h; timestamp = clock }

-- a number that is no node is neither of the two
not-node : (n u z : ℕ) → Node n u → is_node n z ≡ false → z ≡ u → ⊥
not-node n u z a o e = clash (node-passes n u a) (rw e at o)

module _ (n : ℕ) (t : Tables) (u v : ℕ) (b : Between n t u v) where
  -- ---- the cells before anything is sent

  pub cleared-fits : (kind : Kind) → Takes kind n u v t.channels → (x y : ℕ) → Node n x → Node n y
      → CellFits (cleared_cells kind n u v t.channels x y)
  cleared-fits Raised k x y c d = b.fit.cells x y c d
  cleared-fits Dropped k x y c d = go (choice (eqb x u && eqb y v))
    where
      go : Choice (eqb x u && eqb y v) → CellFits (cond (eqb x u && eqb y v) emptied (channel_of n x y t.channels))
      go (yes! e) = rw e emptied-fits
      go (no! e) = rw e (b.fit.cells x y c d)
  cleared-fits Received k x y c d = go (equal? x v) (equal? y u)
    where
      go : (x ≡ v) ⊎ (x ≡ v → ⊥) → (y ≡ u) ⊎ (y ≡ u → ⊥)
          → CellFits (cond (eqb x v && eqb y u) (taken (channel_of n x y t.channels)) (channel_of n x y t.channels))
      go (inl e) (inl f) =
          rw (e, f, eq-eqb v v refl, eq-eqb u u refl) (taken-fits (channel_of n v u t.channels) (b.fit.cells v u b.other b.node) k)
      go (inl e) (inr f) = rw (ne_eqb y u f, and-false) (b.fit.cells x y c d)
      go (inr e) f = rw (ne_eqb x v e) (b.fit.cells x y c d)

  -- what they load to is what the event leaves of the channels before it sends
  pub cleared-loads : (kind : Kind) → Takes kind n u v t.channels
      → at_pairs n (λ x y. queue (cleared_cells kind n u v t.channels x y)) fresh.channel ≡ cleared (load n t) (event_of kind u v)
  unfolding load
  cleared-loads Raised k = refl
  cleared-loads Dropped k =
      changed-pairs n u b.node (messages_on n t) (λ x y. queue (cleared_cells Dropped n u v t.channels x y)) fresh.channel
      (update ((load n t).channel u) v [])
      (λ y z c d e. rw (ne_eqb y u e))
      (λ z d. at z d (equal? z v))
      (λ z o. rw (update-off ((load n t).channel u) v [] z (not-node n v z b.other o), node-passes n u b.node, o))
    where
      at : (z : ℕ) → Node n z → (z ≡ v) ⊎ (z ≡ v → ⊥)
          → queue (cond (eqb u u && eqb z v) emptied (channel_of n u z t.channels)) ≡ update ((load n t).channel u) v [] z
      at z d (inl e) = rw (e, eq-eqb u u refl, eq-eqb v v refl, update-at ((load n t).channel u) v []) queue-emptied
      at z d (inr e) = rw (eq-eqb u u refl, ne_eqb z v e, update-off ((load n t).channel u) v [] z e) (sym (load-channel n t u b.node z d))
  cleared-loads Received k =
      changed-pairs n v b.other (messages_on n t) (λ x y. queue (cleared_cells Received n u v t.channels x y)) fresh.channel
      (update ((load n t).channel v) u (tail ((load n t).channel v u)))
      (λ y z c d e. rw (ne_eqb y v e))
      (λ z d. at z d (equal? z u))
      (λ z o. rw (update-off ((load n t).channel v) u (tail ((load n t).channel v u)) z (not-node n u z b.node o), node-passes n v b.other, o))
    where
      q : List Message
      q = (load n t).channel v u

      at : (z : ℕ) → Node n z → (z ≡ u) ⊎ (z ≡ u → ⊥)
          → queue (cond (eqb v v && eqb z u) (taken (channel_of n v z t.channels)) (channel_of n v z t.channels))
          ≡ update ((load n t).channel v) u (tail ((load n t).channel v u)) z
      at z d (inl e) =
          rw (e, eq-eqb v v refl, eq-eqb u u refl, update-at ((load n t).channel v) u (tail ((load n t).channel v u)))
          (queue-taken (channel_of n v u t.channels) (b.fit.cells v u b.other b.node) k
          ∙ ap tail (sym (load-channel n t v b.other u b.node)))
      at z d (inr e) =
          rw (eq-eqb v v refl, ne_eqb z u e, update-off ((load n t).channel v) u (tail ((load n t).channel v u)) z e)
          (sym (load-channel n t v b.other z d))

  -- the cleared channel to a node, and to any other number
  pub cleared_at : (kind : Kind) → Takes kind n u v t.channels → (y : ℕ) → Node n y
      → cleared (load n t) (event_of kind u v) u y ≡ queue (cleared_cells kind n u v t.channels u y)
  cleared_at kind takes y d =
      ap (λ (f : ℕ → ℕ → List Message). f u y) (sym (cleared-loads kind takes)) ∙ rw (node-passes n u b.node, node-passes n y d)

  cleared-out : (kind : Kind) → Takes kind n u v t.channels → (y : ℕ) → is_node n y ≡ false → cleared (load n t) (event_of kind u v) u y ≡ []
  cleared-out kind takes y o =
      ap (λ (f : ℕ → ℕ → List Message). f u y) (sym (cleared-loads kind takes)) ∙ rw (node-passes n u b.node, o)

  -- ---- the cells after the height went to the set s

  module _ (kind : Kind) (takes : Takes kind n u v t.channels) (s : ℕ) (only : (k : ℕ) → member s k ≡ true → Node n k)
      (own : Height) (w : Wordy own) (clock : ℕ)
      (space : (y : ℕ) → Node n y → member s y ≡ true → count (cleared_cells kind n u v t.channels u y) < 8)
      (ns cs : List ℕ) (are : CellsAre n cs (sent_cells u s own clock (cleared_cells kind n u v t.channels))) where
    here : (y : ℕ) → Node n y
        → channel_of n u y cs ≡ cond (member s y) (appended (cleared_cells kind n u v t.channels u y) own clock) (cleared_cells kind n u v t.channels u y)
    unfolding sent_cells
    here y d = are.at u y b.node d ∙ rw (eq-eqb u u refl)

    elsewhere : (x y : ℕ) → Node n x → Node n y → (x ≡ u → ⊥) → channel_of n x y cs ≡ cleared_cells kind n u v t.channels x y
    unfolding sent_cells
    elsewhere x y c d e = are.at x y c d ∙ rw (ne_eqb x u e)

    pub sent-fits : (x y : ℕ) → Node n x → Node n y → CellFits (channel_of n x y cs)
    sent-fits x y c d = go (equal? x u) (choice (member s y))
      where
        go : (x ≡ u) ⊎ (x ≡ u → ⊥) → Choice (member s y) → CellFits (channel_of n x y cs)
        go (inr e) q = rw (elsewhere x y c d e) (cleared-fits kind takes x y c d)
        go (inl e) (yes! q) =
            rw (e, here y d, q)
            (appended-fits (cleared_cells kind n u v t.channels u y) own clock (cleared-fits kind takes u y b.node d) (space y d q) w)
        go (inl e) (no! q) = rw (e, here y d, q) (cleared-fits kind takes u y b.node d)

    silent-out : (y : ℕ) → is_node n y ≡ false → member s y ≡ false
    silent-out y o = not-true-is-false (member s y) (λ e. clash (node-passes n y (only y e)) o)

    pub sent-loads : (load n (tables ns cs)).channel
        ≡ update (cleared (load n t) (event_of kind u v)) u (λ y. post (member s y) (stamped own clock) (cleared (load n t) (event_of kind u v) u y))
    unfolding load post
    sent-loads =
        changed-pairs n u b.node (λ x y. queue (cleared_cells kind n u v t.channels x y)) (messages_on n (tables ns cs)) fresh.channel
        (λ y. post (member s y) (stamped own clock) (cleared (load n t) (event_of kind u v) u y))
        (λ y z c d e. ap queue (elsewhere y z c d e))
        (λ z d. at z d (choice (member s z)))
        (λ z o. rw (silent-out z o, cleared-out kind takes z o))
        ∙ ap (λ (f : ℕ → ℕ → List Message). update f u (λ y. post (member s y) (stamped own clock) (cleared (load n t) (event_of kind u v) u y)))
        (cleared-loads kind takes)
      where
        at : (z : ℕ) → Node n z → Choice (member s z)
            → queue (channel_of n u z cs) ≡ post (member s z) (stamped own clock) (cleared (load n t) (event_of kind u v) u z)
        at z d (yes! q) =
            rw (here z d, q, cleared_at kind takes z d)
            (queue-appended (cleared_cells kind n u v t.channels u z) own clock (cleared-fits kind takes u z b.node d) (space z d q) w)
        at z d (no! q) = rw (here z d, q, cleared_at kind takes z d)
