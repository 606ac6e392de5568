-- The tables of a sound network whose times make sense pass the check.
-- Assumes that the network's numbers fit in words (`Storable`).
use Prim.Native.Nat.{ℕ, zero, suc, ◌+◌, ◌-◌, ◌*◌, ◌≤◌}
use native.Mathlib.Omega.{arith}
use mathlib.Core.Bool.{Bool, true, false, not, cond, ◌&&◌, ◌||◌}
use mathlib.Core.List.{List, [], ◌∷◌, map}
use mathlib.Core.Logic.{◌⊎◌, inl, inr}
use mathlib.Core.Path.{◌≡◌, refl, sym, ap, ◌∙◌}
use lib.Dec.{eqb, leb}
use lib.ListN.{length, take, drop, length-map}
use lib.Seq.{drop-append-add}
use borrow.Author.Tests.{eq-eqb, ne_eqb, leb-true}
use Rattle.basics.specs.Functions.{every, all}
use Rattle.basics.proofs.FunctionsLaws.{every-at, every-all, every-pair-at}
use Rattle.basics.proofs.Tests.{clash, Choice, yes!, no!, choice, equal?, and_left, and_right, and_both}
use Rattle.height.specs.Height.{zero_height}
use Rattle.height.specs.Words.{height_words, delta_word}
use Rattle.nodeset.specs.NodeSet.{member, set_of, within}
use Rattle.nodeset.proofs.Members.{member-set_of, set_of-lt, lt-within}
use Rattle.pairs.specs.Pair.{own_sound, view_sound, channel_sound, pair_sound, timely_in}
use Rattle.protocol.specs.Holds.{height_holds, message_holds, not_in_both, sets_hold, is_empty, own_holds, view_holds, channel_holds, pair_holds, sound}
use Rattle.protocol.specs.Network.{Node, Message, Network, up_to, capacity}
use Rattle.protocol.specs.Times.{pair_timely, timely}
use Rattle.protocol.proofs.Channels.{is-empty}
use Rattle.protocol.proofs.Ranges.{zero-height}
use Rattle.refusal.specs.Refusal.{why}
use Rattle.tables.specs.Cell.{count, message_words, all_zero}
use Rattle.tables.specs.Load.{tables_of}
use Rattle.tables.specs.Records.{records_of, row_words, slot_words, cell_words}
use Rattle.tables.specs.Row.{neighbors_in, forming_in, height_in}
use Rattle.tables.specs.Rows.{part, row_at, rows}
use Rattle.tables.specs.Tables.{sized}
use Rattle.tables.proofs.Back.{Storable, node-of, cell-of, node-height, queue-back, tables-sized}
use Rattle.tables.proofs.RecordsLaws.{words-length, message-words, unused-zero}
use Rattle.tables.proofs.RowsMore.{rows_at}
use Rattle.lent.specs.Check.{pair_at, timely_at, fault_in_row, fault_from, first_fault, first_untimely, contents_on, check_on}
use Rattle.lent.proofs.CheckLaws.{is-sized}

-- ---- the pairs

module _ (n : ℕ) (p : Network) (ok : Storable n p) (u : ℕ) (a : Node n u) where
  row : List ℕ
  row = row_words n (records_of n p) u

  neighbors-at : (v : ℕ) → Node n v → member (neighbors_in (row_words n (records_of n p) u)) v ≡ p.neighbors u v
  unfolding row_words records_of
  neighbors-at v b = member-set_of n (p.neighbors u) v b.low b.high

  forming-at : (v : ℕ) → Node n v → member (forming_in (row_words n (records_of n p) u)) v ≡ p.forming u v
  unfolding row_words records_of
  forming-at v b = member-set_of n (p.forming u) v b.low b.high

  height-at : (v : ℕ) → Node n v → height_in (row_words n (records_of n p) u) v ≡ p.height u v
  height-at zero b = absurd (omega (arith, b.low))
  height-at (suc k) b = node-height n p u k (omega (arith, b.high)) (ok.heights u (suc k) a b)

  every-same : (f g : ℕ → Bool) → ((z : ℕ) → Node n z → f z ≡ true → g z ≡ true) → every n f ≡ true → every n g ≡ true
  every-same f g h e = every-all n g (λ v l k. h v (record { low = l; high = k }) (every-at n f e v l k))

  sets-back : sets_hold n u (p.neighbors u) (p.forming u) ≡ true
      → sets_hold n u (member (neighbors_in (row_words n (records_of n p) u)))
      (member (forming_in (row_words n (records_of n p) u))) ≡ true
  unfolding sets_hold not_in_both
  sets-back e =
      let x = every n (not_in_both (p.neighbors u) (p.forming u)) in
      let e₁ = and_left (x && not (p.neighbors u u)) (not (p.forming u u)) e in
      and_both
      (and_both
      (every-same (not_in_both (p.neighbors u) (p.forming u)) _ (λ z b q. rw (neighbors-at z b, forming-at z b) q) (and_left x (not (p.neighbors u u)) e₁))
      (rw (neighbors-at u a) (and_right x (not (p.neighbors u u)) e₁)))
      (rw (forming-at u a) (and_right (x && not (p.neighbors u u)) (not (p.forming u u)) e))

  neighbors-within : within n (neighbors_in (row_words n (records_of n p) u)) ≡ true
  unfolding row_words records_of
  neighbors-within = lt-within n (set_of n (p.neighbors u)) (set_of-lt n (p.neighbors u))

  forming-within : within n (forming_in (row_words n (records_of n p) u)) ≡ true
  unfolding row_words records_of
  forming-within = lt-within n (set_of n (p.forming u)) (set_of-lt n (p.forming u))

  empty-zero : (ms : List Message) → is_empty ms ≡ true → all_zero (cell_words (map message_words ms)) ≡ true
  unfolding cell_words slot_words all_zero
  empty-zero [] e = refl
  empty-zero (m ∷ ms) e = clash e refl

  own_back : own_holds n p u ≡ true
      → own_sound n u (row_words n (records_of n p) u) (cell_words (map message_words (p.channel u u))) ≡ true
  unfolding own_holds own_sound
  own_back e =
      let c = leb (p.clock u) 4294967295 in
      let s = sets_hold n u (p.neighbors u) (p.forming u) in
      let h = height_holds n u (p.height u u) in
      let e₁ = and_left (c && s && h) (is_empty (p.channel u u)) e in
      let e₂ = and_left (c && s) h e₁ in
      and_both
      (and_both
      (and_both (and_both neighbors-within forming-within) (sets-back (and_right c s e₂)))
      (rw (height-at u a) (and_right (c && s) h e₁)))
      (empty-zero (p.channel u u) (and_right (c && s && h) (is_empty (p.channel u u)) e))

  module _ (v : ℕ) (b : Node n v) where
    -- the seven words of the view
    view-words : part (3 + (v - 1) * 7) 7 (row_words n (records_of n p) u) ≡ height_words (p.height u v)
    unfolding row_words records_of row_at
    view-words =
        let e : suc (v - 1) ≡ v = omega (arith, b.low) in
        let d : drop (3 + (v - 1) * 7) (p.clock u ∷ set_of n (p.neighbors u) ∷ set_of n (p.forming u) ∷ rows n (λ z. height_words (p.height u z)))
        ≡ drop ((v - 1) * 7) (rows n (λ z. height_words (p.height u z))) =
        drop-append-add (p.clock u ∷ set_of n (p.neighbors u) ∷ set_of n (p.forming u) ∷ []) (rows n (λ z. height_words (p.height u z))) ((v - 1) * 7) in
        ap (take 7) d
        ∙ rows_at 7 n (λ z. height_words (p.height u z)) (λ i _. words-length (p.height u (suc i))) (v - 1) (omega (arith, b.low, b.high))
        ∙ ap (λ (k : ℕ). height_words (p.height u k)) e

    zero-words : p.height u v ≡ zero_height → all_zero (height_words (p.height u v)) ≡ true
    unfolding all_zero height_words delta_word
    zero-words e = rw e

    view-back : view_holds n p u v ≡ true → view_sound n v (row_words n (records_of n p) u) ≡ true
    unfolding view_holds view_sound
    view-back e = go (choice (p.neighbors u v))
      where
        N : Bool
        N = member (neighbors_in (row_words n (records_of n p) u)) v

        go : Choice (p.neighbors u v)
            → cond (member (neighbors_in (row_words n (records_of n p) u)) v)
            (height_holds n v (height_in (row_words n (records_of n p) u) v))
            (all_zero (part (3 + (v - 1) * 7) 7 (row_words n (records_of n p) u))) ≡ true
        go (yes! i) = rw (neighbors-at v b, i, height-at v b) (rw i at e)
        go (no! i) = rw (neighbors-at v b, i, view-words) (zero-words (zero-height (p.height u v) (rw i at e)))

    up-back : (up_to p u v || is_empty (p.channel u v)) ≡ true
        → (member (neighbors_in (row_words n (records_of n p) u)) v
        || member (forming_in (row_words n (records_of n p) u)) v || eqb (count (cell_words (map message_words (p.channel u v)))) 0) ≡ true
    unfolding cell_words
    up-back e = rw (neighbors-at v b, forming-at v b) (go (up_to p u v) (p.channel u v) e)
      where
        go : (x : Bool) (ms : List Message) → (x || is_empty ms) ≡ true → (x || eqb (length (map message_words ms)) 0) ≡ true
        go true ms e = refl
        go false [] e = refl
        go false (m ∷ ms) e = clash e refl

    channel-back : channel_holds n p u v ≡ true
        → channel_sound n u v (row_words n (records_of n p) u) (cell_words (map message_words (p.channel u v))) ≡ true
    unfolding channel_holds channel_sound
    channel-back e =
        let c = leb (length (p.channel u v)) capacity in
        let m = all (message_holds n u) (p.channel u v) in
        let e₁ = and_left (c && m) (up_to p u v || is_empty (p.channel u v)) e in
        let short = leb-true (length (p.channel u v)) capacity (and_left c m e₁) in
        and_both
        (and_both (and_both (few (and_left c m e₁)) (up-back (and_right (c && m) (up_to p u v || is_empty (p.channel u v)) e)))
        (rw (queue-back (p.channel u v) (ok.messages u v a b) short) (and_right c m e₁)))
        (unused-zero (map message_words (p.channel u v)) (message-words (p.channel u v)) (rw (length-map (p.channel u v) message_words) short))
      where
        few : leb (length (p.channel u v)) capacity ≡ true → leb (count (cell_words (map message_words (p.channel u v)))) capacity ≡ true
        few q = unfold cell_words in rw (length-map (p.channel u v) message_words) q

-- ---- the check

module _ (number : ℕ) (s : ℕ → ℕ → Bool) (n : ℕ) where
  no-fault-row : (u v k : ℕ) → 1 ≤ v → v + k ≤ suc n → ((z : ℕ) → Node n z → s u z ≡ true) → fault_in_row number s u v k ≡ why 0 0 0
  unfolding fault_in_row
  no-fault-row u v zero l h f = refl
  no-fault-row u v (suc k) l h f =
      rw (f v (record { low = l; high = omega arith })) (no-fault-row u (suc v) k (omega arith) (omega arith) f)

  no-fault-from : (u k : ℕ) → 1 ≤ u → u + k ≤ suc n → ((x z : ℕ) → Node n x → Node n z → s x z ≡ true) → fault_from number s n u k ≡ why 0 0 0
  unfolding fault_from
  no-fault-from u zero l h f = refl
  no-fault-from u (suc k) l h f =
      rw (no-fault-row u 1 n (omega arith) (omega arith) (λ z c. f u z (record { low = l; high = omega arith }) c))
      (no-fault-from (suc u) k (omega arith) (omega arith) f)

module _ (n : ℕ) (p : Network) (ok : Storable n p) (holds : sound n p ≡ true) (times : timely n p ≡ true) (low : 1 ≤ n) (few : n ≤ 16) where
  at : (u v : ℕ) → Node n u → Node n v → pair_holds n p u v ≡ true
  unfolding sound
  at u v a b = every-pair-at n (pair_holds n p) holds u a.low a.high v b.low b.high

  pair-back : (u v : ℕ) → Node n u → Node n v → pair_at n (tables_of n p) u v ≡ true
  unfolding pair_at pair_sound pair_holds
  pair-back u v a b = rw (node-of n p u a, cell-of n p u v a b) (go (equal? u v) (at u v a b))
    where
      row : List ℕ
      row = row_words n (records_of n p) u

      go : (u ≡ v) ⊎ (u ≡ v → ⊥) → cond (eqb u v) (own_holds n p u) (view_holds n p u v && channel_holds n p u v) ≡ true
          → cond (eqb u v) (own_sound n u row (cell_words (map message_words (p.channel u v))))
          (view_sound n v row && channel_sound n u v row (cell_words (map message_words (p.channel u v)))) ≡ true
      go (inl e) h = rw (eq-eqb u v e, ← e) (own_back n p ok u a (rw (eq-eqb u v e) at h))
      go (inr d) h =
          let q : (view_holds n p u v && channel_holds n p u v) ≡ true = rw (ne_eqb u v d) at h in
          rw (ne_eqb u v d)
          (and_both (view-back n p ok u a v b (and_left (view_holds n p u v) (channel_holds n p u v) q))
          (channel-back n p ok u a v b (and_right (view_holds n p u v) (channel_holds n p u v) q)))

  -- at most 8 messages on a channel, none from a node to itself
  short : (u v : ℕ) → Node n u → Node n v → length (p.channel u v) ≤ 8
  unfolding pair_holds own_holds channel_holds
  short u v a b = go (equal? u v) (at u v a b)
    where
      go : (u ≡ v) ⊎ (u ≡ v → ⊥) → cond (eqb u v) (own_holds n p u) (view_holds n p u v && channel_holds n p u v) ≡ true → length (p.channel u v) ≤ 8
      go (inl e) h =
          let own = rw (eq-eqb u v e) at h in
          let rules = leb (p.clock u) 4294967295 && sets_hold n u (p.neighbors u) (p.forming u) && height_holds n u (p.height u u) in
          let empty = is-empty (p.channel u u) (and_right rules (is_empty (p.channel u u)) own) in
          omega (arith, ap (λ (x : ℕ). length (p.channel u x)) (sym e), ap length empty)
      go (inr d) h =
          let q : (view_holds n p u v && channel_holds n p u v) ≡ true = rw (ne_eqb u v d) at h in
          let channel = and_right (view_holds n p u v) (channel_holds n p u v) q in
          let c = leb (length (p.channel u v)) capacity in
          let m = all (message_holds n u) (p.channel u v) in
          leb-true (length (p.channel u v)) capacity (and_left c m (and_left (c && m) (up_to p u v || is_empty (p.channel u v)) channel))

  timely-back : (u v : ℕ) → Node n u → Node n v → timely_at n (tables_of n p) u v ≡ true
  unfolding timely_at timely_in
  timely-back u v a b =
      rw (node-of n p u a, cell-of n p u v a b, height-at n p ok u a v b, queue-back (p.channel u v) (ok.messages u v a b) (short u v a b))
      (unfold row_words records_of pair_timely timely in every-pair-at n (pair_timely p) times u a.low a.high v b.low b.high)

  sizes : sized n (tables_of n p) ≡ true
  sizes = is-sized n (tables_of n p) (tables-sized n p low few)

  pub sound-check : check_on n (tables_of n p) ≡ why 0 0 0
  unfolding check_on contents_on first_fault first_untimely
  sound-check =
      rw (
        sizes,
        no-fault-from 2 (pair_at n (tables_of n p)) n 1 n (omega arith) (omega arith) pair-back,
        no-fault-from 18 (timely_at n (tables_of n p)) n 1 n (omega arith) (omega arith) timely-back,
      )
