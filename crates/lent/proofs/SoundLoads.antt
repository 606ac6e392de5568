-- Tables of 32-bit words that pass the check load to a sound network, which holds nothing beyond node n and whose times make sense.
-- Assumes that every word is below 2 to the power 32 (`Words`).
use Prim.Native.Nat.{ℕ, zero, suc, ◌+◌, ◌-◌, ◌*◌, ◌^◌, ◌<◌, ◌≤◌}
use native.Mathlib.Omega.{arith}
use mathlib.Core.Bool.{Bool, true, false, cond, ◌&&◌, ◌||◌, and-false}
use mathlib.Core.List.{List}
use mathlib.Core.Logic.{◌⊎◌, inl, inr}
use mathlib.Core.Path.{◌≡◌, refl, sym}
use lib.Dec.{eqb, leb, ltb}
use lib.ListN.{length}
use borrow.Author.Tests.{eq-eqb, ne_eqb, le-leb, ltb-true, ltb-false}
use Rattle.basics.proofs.FunctionsLaws.{every-pair-all}
use Rattle.basics.proofs.Tests.{clash, not-true-is-false, Choice, yes!, no!, choice, equal?, and_both}
use Rattle.height.specs.Clock.{last_time}
use Rattle.height.specs.Height.{height_key, zero_height}
use Rattle.height.specs.Order.{same}
use Rattle.height.proofs.OrderLaws.{same_refl}
use Rattle.nodeset.specs.NodeSet.{member}
use Rattle.pairs.specs.Pair.{view_sound, timely_in}
use Rattle.pairs.proofs.HeldPairs.{OwnHolds}
use Rattle.pairs.proofs.PairLaws.{zero-view, no-messages}
use Rattle.protocol.specs.Holds.{height_holds, is_empty, own_holds, view_holds, channel_holds, pair_holds, sound}
use Rattle.protocol.specs.Network.{Node, capacity, fresh, restrict}
use Rattle.protocol.specs.Times.{pair_timely, timely}
use Rattle.protocol.proofs.Channels.{empty-is}
use Rattle.protocol.proofs.NodeLaws.{other-fails}
use Rattle.protocol.proofs.Restrict.{pairs_is, nodes-is}
use Rattle.tables.specs.Cell.{count, queue, messages_at, all_zero}
use Rattle.tables.specs.Load.{load}
use Rattle.tables.specs.Row.{clock_in, neighbors_in, forming_in, height_in}
use Rattle.tables.specs.Rows.{part}
use Rattle.tables.specs.Tables.{Tables, width, node_of, channel_of}
use Rattle.tables.specs.inner.Fit.{TablesFit}
use Rattle.tables.proofs.CellLaws.{messages-length}
use Rattle.tables.proofs.RowLaws.{height-past}
use Rattle.tables.proofs.TablesLaws.{load-clock, load-neighbors, load-forming, load-height, load-channel, member-node}
use Rattle.lent.specs.Check.{timely_at, check_on}
use Rattle.lent.proofs.CheckLaws.{timely-pair}
use Rattle.lent.proofs.SoundTables.{Words, row_word, sound-own, sound-view, sound-channel}

-- ---- the pairs

module _ (n : ℕ) (t : Tables) (words : Words t) (passes : (check_on n t).number ≡ 0) (u : ℕ) (a : Node n u) where
  own : OwnHolds n u (node_of n u t.nodes) (channel_of n u u t.channels)
  own = sound-own n t passes u a

  clock-le : leb (clock_in (node_of n u t.nodes)) last_time ≡ true
  clock-le =
      let w = row_word (width n) (u - 1) t.nodes words.nodes 0 (omega arith) in
      le-leb (clock_in (node_of n u t.nodes)) last_time (omega (arith, w))

  own-loads : own_holds n (load n t) u ≡ true
  unfolding own_holds
  own-loads =
      rw (load-clock n t u a, load-neighbors n t u a, load-forming n t u a, load-height n t u a, load-channel n t u a u a)
      (and_both (and_both (and_both clock-le own.sets) own.height)
      (empty-is (queue (channel_of n u u t.channels)) (no-messages (channel_of n u u t.channels) own.unused)))

  module _ (v : ℕ) (b : Node n v) (differ : u ≡ v → ⊥) where
    view-loads : view_holds n (load n t) u v ≡ true
    unfolding view_holds view_sound
    view-loads =
        rw (load-neighbors n t u a, load-height n t u a)
        (go (choice (member (neighbors_in (node_of n u t.nodes)) v)) (sound-view n t passes u v a b differ))
      where
        row : List ℕ
        row = node_of n u t.nodes

        go : Choice (member (neighbors_in row) v)
            → cond (member (neighbors_in row) v) (height_holds n v (height_in row v)) (all_zero (part (3 + (v - 1) * 7) 7 row)) ≡ true
            → cond (member (neighbors_in row) v) (height_holds n v (height_in row v)) (same (height_key (height_in row v)) (height_key zero_height)) ≡ true
        go (yes! i) e = rw i (rw i at e)
        go (no! i) e = rw (i, zero-view row v b.low (rw i at e)) (same_refl (height_key zero_height))

    channel-loads : channel_holds n (load n t) u v ≡ true
    unfolding channel_holds queue messages_at
    channel-loads =
        let h = sound-channel n t passes u v a b differ in
        rw (load-neighbors n t u a, load-forming n t u a, load-channel n t u a v b)
        (and_both
        (and_both
        (few (length (queue (channel_of n u v t.channels))) (messages-length (count (channel_of n u v t.channels)) (channel_of n u v t.channels) 1)
        h.few) h.messages)
        (up (member (neighbors_in (node_of n u t.nodes)) v || member (forming_in (node_of n u t.nodes)) v) (count (channel_of n u v t.channels))
        (channel_of n u v t.channels) h.up))
      where
        few : (k : ℕ) → k ≡ count (channel_of n u v t.channels) → count (channel_of n u v t.channels) ≤ 8 → leb k capacity ≡ true
        few k e l = le-leb k capacity (omega (arith, e, l))

        up : (x : Bool) (k : ℕ) (cell : List ℕ) → (x || eqb k 0) ≡ true → (x || is_empty (messages_at k cell 1)) ≡ true
        up true k cell e = refl
        up false zero cell e = refl
        up false (suc k) cell e = clash e (ne_eqb (suc k) 0 (λ q. omega (arith, q)))

-- ---- the network

module _ (n : ℕ) (t : Tables) (words : Words t) (passes : (check_on n t).number ≡ 0) where
  pair-loads : (u v : ℕ) → Node n u → Node n v → pair_holds n (load n t) u v ≡ true
  unfolding pair_holds
  pair-loads u v a b = go (equal? u v)
    where
      go : (u ≡ v) ⊎ (u ≡ v → ⊥) → cond (eqb u v) (own_holds n (load n t) u) (view_holds n (load n t) u v && channel_holds n (load n t) u v) ≡ true
      go (inl e) = rw (eq-eqb u v e) (own-loads n t words passes u a)
      go (inr d) = rw (ne_eqb u v d) (and_both (view-loads n t words passes u a v b d) (channel-loads n t words passes u a v b d))

  pub sound-loads : sound n (load n t) ≡ true
  unfolding sound
  sound-loads = every-pair-all n (pair_holds n (load n t)) λ u l h v m k. pair-loads u v (record { low = l; high = h }) (record { low = m; high = k })

  timely-loads-at : (u v : ℕ) → Node n u → Node n v → pair_timely (load n t) u v ≡ true
  unfolding pair_timely timely_at timely_in
  timely-loads-at u v a b = rw (load-clock n t u a, load-height n t u a, load-channel n t u a v b) (timely-pair n t passes u v a b)

  pub timely-loads : timely n (load n t) ≡ true
  unfolding timely
  timely-loads = every-pair-all n (pair_timely (load n t)) λ u l h v m k. timely-loads-at u v (record { low = l; high = h }) (record { low = m; high = k })

-- ---- nothing beyond node n

module _ (n : ℕ) (t : Tables) (fit : TablesFit n t) where
  none-outside : (s : ℕ) → s < 2 ^ n → (v : ℕ) → (Node n v → ⊥) → false ≡ member s v
  none-outside s l v d = sym (not-true-is-false (member s v) (λ e. d (member-node n s l v e)))

  zero-outside : (u v : ℕ) → Node n u → (Node n v → ⊥) → fresh.height u v ≡ height_in (node_of n u t.nodes) v
  unfolding height_in
  zero-outside u zero a d = rw (ne_eqb u 0 (λ e. omega (arith, e, a.low)))
  zero-outside u (suc k) a d =
      let past : n ≤ k = beyond (ltb k n) refl in
      let off : u ≡ suc k → ⊥ = λ e. omega (arith, e, past, a.high) in
      rw (ne_eqb u (suc k) off) (sym (height-past n (node_of n u t.nodes) (fit.rows u a).wide k past))
    where
      beyond : (b : Bool) → ltb k n ≡ b → n ≤ k
      beyond true e = absurd (d (record { low = omega arith; high = omega (arith, ltb-true k n e) }))
      beyond false e = ltb-false k n e

  pub load_inside : restrict n (load n t) ≡ load n t
  unfolding restrict load
  load_inside = λ i. record {
    clock = nodes-is n (load n t).clock fresh.clock (λ u d. rw (other-fails n u d)) i;
    neighbors = pairs_is n (load n t).neighbors fresh.neighbors (λ u v d. rw (other-fails n u d))
        (λ u v a d. rw (load-neighbors n t u a) (none-outside _ (fit.rows u a).neighbors-lt v d)) i;
    forming = pairs_is n (load n t).forming fresh.forming (λ u v d. rw (other-fails n u d))
        (λ u v a d. rw (load-forming n t u a) (none-outside _ (fit.rows u a).forming-lt v d)) i;
    height = pairs_is n (load n t).height fresh.height (λ u v d. rw (other-fails n u d))
        (λ u v a d. rw (load-height n t u a) (zero-outside u v a d)) i;
    channel = pairs_is n (load n t).channel fresh.channel (λ u v d. rw (other-fails n u d)) (λ u v a d. rw (other-fails n v d, and-false)) i;
  }
