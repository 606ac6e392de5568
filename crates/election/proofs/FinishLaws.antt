-- The end of an event that is ready, case by case: 8, 9, or what is written. Each return of `finish` cites one law.
-- Assumes what was decided (`Ready`).
use Prim.Native.Nat.{ℕ, zero, suc, ◌^◌, ◌<◌, ◌≤◌}
use native.Mathlib.Omega.{arith}
use mathlib.Core.Bool.{Bool, true, false, not}
use mathlib.Core.List.{List}
use mathlib.Core.Path.{◌≡◌, refl, sym, ap, subst, ◌∙◌}
use lib.Dec.{ltb}
use lib.ListN.{length}
use lib.Signed.{mag}
use borrow.Author.Tests.{ltb-true, le-ltb}
use Rattle.std.specs.Prelude.{Result, Ok, Err}
use Rattle.decision.specs.inner.After.{seen, after_rule, sends_to}
use Rattle.decision.specs.declared.Decision.{Decision}
use Rattle.decision.specs.inner.Bounds.{NegatedAfter}
use Rattle.refusal.specs.Outcome.{outcome}
use Rattle.refusal.specs.Refusal.{why, why_of}
use Rattle.refusal.specs.declared.Refusal.{Refusal}
use Rattle.refusal.specs.declared.Refusal.TheVariants.{DeltaEnd}
use Rattle.basics.specs.Functions.{every}
use Rattle.basics.proofs.FunctionsLaws.{update-at, every-at}
use Rattle.basics.proofs.Tests.{clash, Choice, yes!, no!, choice}
use Rattle.height.specs.Clock.{last_time}
use Rattle.height.specs.inner.Stored.{Negated}
use Rattle.height.specs.declared.Height.{Height}
use Rattle.height.proofs.WordsLaws.{negated_size}
use Rattle.nodeset.specs.NodeSet.{member, set_of}
use Rattle.protocol.specs.Answer.{said_rule, said_refused}
use Rattle.protocol.specs.Network.{Node, Network, capacity}
use Rattle.protocol.specs.Refusal.{late, too_deep, has_room, crowded}
use Rattle.protocol.specs.Step.{Local, down, home, local, local_down, carried, height_after, cleared}
use Rattle.protocol.specs.declared.Rule.{Rule}
use Rattle.protocol.proofs.Kept.{down-silent}
use Rattle.tables.specs.Cell.{count, queue}
use Rattle.tables.specs.Load.{load}
use Rattle.tables.specs.Tables.{Tables, node_of, channel_of}
use Rattle.tables.specs.inner.Written.{put_node}
use Rattle.tables.proofs.CellLaws.{messages-length}
use Rattle.tables.proofs.Wordy.{Wordy}
use Rattle.election.specs.StepOn.{step_at}
use Rattle.election.specs.declared.Kind.TheVariants.{Raised, Dropped, Received}
use Rattle.election.specs.declared.Kind.{Kind}
use Rattle.election.specs.inner.Cells.{CellsAre, Takes, cleared_cells, sent_cells, room_for}
use Rattle.election.specs.inner.Deciding.{Between, Ready, event_of, local_of, row_after}
use Rattle.election.proofs.CellChanges.{cleared_at}
use Rattle.election.proofs.Committed.{written-tables}
use Rattle.election.proofs.EventLaws.{between-named, receive-unfit}
use Rattle.election.proofs.SetChanges.{sent-members, sent-lt, sent-is-n}
use Rattle.election.proofs.StepLaws.{step-deep, step-full, step-done}
use Rattle.election.proofs.WriteLaws.{Silenced, all_room, uncleared}

every-ext : (n : ℕ) (f g : ℕ → Bool) → ((z : ℕ) → Node n z → f z ≡ g z) → every n f ≡ every n g
unfolding every
every-ext zero f g h = refl
every-ext (suc n) f g h =
    rw (
      h (suc n) (record { low = omega arith; high = omega arith }),
      every-ext n f g (λ z s. h z (record { low = s.low; high = omega (arith, s.high) })),
    )

home-is : (kind : Kind) (u v : ℕ) → home (event_of kind u v) ≡ u
home-is Raised u v = refl
home-is Dropped u v = refl
home-is Received u v = refl

-- ---- the height after the rule, as `decision` answers it

module _ (n : ℕ) (N : ℕ → Bool) (row : ℕ → Height) (u v clock : ℕ) (rule : Rule) where
  deep_is : {r : Refusal} → after_rule n N row u v clock rule ≡ Err r
      → (too_deep rule (height_after n N row u v clock rule).delta ≡ true) × (why_of r ≡ why 8 0 0)
  unfolding after_rule
  deep_is {r} e = go (choice (too_deep rule (height_after n N row u v clock rule).delta))
    where
      go : Choice (too_deep rule (height_after n N row u v clock rule).delta)
          → (too_deep rule (height_after n N row u v clock rule).delta ≡ true) × (why_of r ≡ why 8 0 0)
      go (yes! q) =
          let z : Err DeltaEnd ≡ Err r = rw q at e in
          let y : DeltaEnd ≡ r = cc in
          (q, ap why_of (sym y))
      go (no! q) = let z : Ok (height_after n N row u v clock rule) ≡ Err r = rw q at e in absurd (cc)

  new_is : (own : Height) → after_rule n N row u v clock rule ≡ Ok own
      → (too_deep rule (height_after n N row u v clock rule).delta ≡ false) × (own ≡ height_after n N row u v clock rule)
  unfolding after_rule
  new_is own e = go (choice (too_deep rule (height_after n N row u v clock rule).delta))
    where
      go : Choice (too_deep rule (height_after n N row u v clock rule).delta)
          → (too_deep rule (height_after n N row u v clock rule).delta ≡ false) × (own ≡ height_after n N row u v clock rule)
      go (yes! q) = let z : Err DeltaEnd ≡ Ok own = rw q at e in absurd (cc)
      go (no! q) = let z : Ok (height_after n N row u v clock rule) ≡ Ok own = rw q at e in (q, cc)

-- the side of `Ok`
pub new-negated : {r : Result Height Refusal} {own : Height} → r ≡ Ok own → NegatedAfter r → Negated own.pair.nlts.0
new-negated e g = subst NegatedAfter e g

pub wordy : (h : Height) → mag h.delta < 2147483648 → Negated h.pair.nlts.0 → Wordy h
wordy h d g = record { delta = d; nlts = negated_size h.pair.nlts.0 g }

-- ---- what `Ready` says of the channels

-- a down sends nothing to v
down-quiet : (n : ℕ) (p : Network) (u v : ℕ) → (local n p (down u v)).sent v ≡ false
unfolding local_down carried
down-quiet n p u v = rw (update-at (p.neighbors u) v false, update-at (p.forming u) v false) (down-silent n u v _ _)

module _ {n : ℕ} {t : Tables} {u v : ℕ} {d : Decision} where
  -- a receipt that fits has a message to take
  pub ready-takes : (kind : Kind) → Ready kind n t u v d → Takes kind n u v t.channels
  ready-takes Raised ready = tt
  ready-takes Dropped ready = tt
  ready-takes Received ready = go (count (channel_of n v u t.channels)) refl
    where
      go : (k : ℕ) → count (channel_of n v u t.channels) ≡ k → 1 ≤ count (channel_of n v u t.channels)
      go zero e = clash (receive-unfit n t u v ready.between e) ready.fits
      go (suc k) e = omega arith

  sent-as : {kind : Kind} → Ready kind n t u v d → (w : ℕ)
      → (local n (load n t) (event_of kind u v)).sent w ≡ member (set_of 16 (sends_to v d.rule d.neighbors d.forming)) w
  unfolding carried sends_to
  sent-as ready w =
      ap (λ (l : Local). l.sent w) ready.leaves
      ∙ sym (ap (λ (f : ℕ → Bool). f w)
      (sent-members n ready.between.fit.size.few d.neighbors d.forming ready.neighbors-lt ready.forming-lt v
      ready.between.other d.rule))

  pub ready-silenced : (kind : Kind) {to : ℕ} → Ready kind n t u v d → to ≡ set_of 16 (sends_to v d.rule d.neighbors d.forming) → Silenced kind to v
  ready-silenced Raised ready e = tt
  ready-silenced Dropped ready e = rw e (sym (sent-as ready v) ∙ down-quiet n (load n t) u v)
  ready-silenced Received ready e = tt

  pub ready-lt : {kind : Kind} {to : ℕ} → Ready kind n t u v d → to ≡ set_of 16 (sends_to v d.rule d.neighbors d.forming) → to < 2 ^ n
  ready-lt ready e =
      rw e (sent-lt n ready.between.fit.size.few d.neighbors d.forming ready.neighbors-lt ready.forming-lt v
      ready.between.other d.rule)

-- ---- the three ends

module _ {kind : Kind} {n : ℕ} {t : Tables} {u v : ℕ} {d : Decision} (ready : Ready kind n t u v d) where
  b : Between n t u v
  b = ready.between

  few : n ≤ 16
  few = ready.between.fit.size.few

  abbrev row : ℕ → Height
  row = seen (node_of n u t.nodes) v d.view

  abbrev sent : ℕ
  sent = set_of 16 (sends_to v d.rule d.neighbors d.forming)

  intime : late (local_of n t u v d) ≡ false
  unfolding late carried
  intime = le-ltb last_time d.clock.0 ready.intime

  -- ---- room

  member_is : (w : ℕ) → member sent w ≡ sends_to v d.rule d.neighbors d.forming w
  member_is w =
      ap (λ (f : ℕ → Bool). f w) (sent-members n few d.neighbors d.forming ready.neighbors-lt ready.forming-lt v b.other d.rule)

  channel-length : (w : ℕ) → Node n w → member sent w ≡ true
      → length (cleared (load n t) (event_of kind u v) u w) ≡ count (channel_of n u w t.channels)
  unfolding queue
  channel-length w c m =
      ap length (cleared_at n t u v b kind (ready-takes kind ready) w c)
      ∙ (messages-length (count (cleared_cells kind n u v t.channels u w)) (cleared_cells kind n u v t.channels u w) 1
      ∙ ap count (uncleared kind n u v sent t.channels b.differ (ready-silenced kind ready refl) w m))

  room_at : (w : ℕ) → Node n w → Choice (member sent w)
      → room_for n u sent t.channels w ≡ has_room (local_of n t u v d) (cleared (load n t) (event_of kind u v) u) w
  unfolding room_for has_room carried sends_to
  room_at w c (yes! m) = rw (channel-length w c m, member_is w)
  room_at w c (no! m) = rw (m, sym (member_is w) ∙ m)

  room-same : every n (room_for n u sent t.channels) ≡ every n (has_room (local_of n t u v d) (cleared (load n t) (event_of kind u v) u))
  room-same = every-ext n _ _ (λ w c. room_at w c (choice (member sent w)))

  space : every n (room_for n u sent t.channels) ≡ true → (y : ℕ) → Node n y → member sent y ≡ true
      → count (cleared_cells kind n u v t.channels u y) < 8
  unfolding room_for
  space r y c m =
      let q : ltb (count (channel_of n u y t.channels)) capacity ≡ true =
      rw m at (every-at n (room_for n u sent t.channels) r y c.low c.high) in
      rw (uncleared kind n u v sent t.channels b.differ (ready-silenced kind ready refl) y m)
      (ltb-true (count (channel_of n u y t.channels)) capacity q)

  -- ---- by what `height_after` says of the row that was read

  module _ {ws : List ℕ} (read : ws ≡ node_of n u t.nodes) {r : Result Height Refusal}
      (said : r ≡ after_rule n (member d.neighbors) (seen ws v d.view) u v d.clock.0 d.rule) where
    after_is : after_rule n (member d.neighbors) row u v d.clock.0 d.rule ≡ r
    after_is = sym (said ∙ ap (λ (xs : List ℕ). after_rule n (member d.neighbors) (seen xs v d.view) u v d.clock.0 d.rule) read)

    module _ {q : Refusal} (refused : r ≡ Err q) where
      deep : too_deep (local_of n t u v d).rule ((local_of n t u v d).row (home (event_of kind u v))).delta ≡ true
      unfolding carried
      deep = rw (home-is kind u v, update-at) (deep_is n (member d.neighbors) row u v d.clock.0 d.rule (after_is ∙ refused)).0

      pub ends-deep : outcome (said_refused (why 8 0 0)) t ≡ step_at n (event_of kind u v) t
      ends-deep =
          step-deep n t b.fit (event_of kind u v) (between-named n t u v b kind) ready.fits (local_of n t u v d) ready.leaves intime deep

    module _ {own : Height} (new : r ≡ Ok own) where
      own_is : (too_deep d.rule (height_after n (member d.neighbors) row u v d.clock.0 d.rule).delta ≡ false)
          × (own ≡ height_after n (member d.neighbors) row u v d.clock.0 d.rule)
      own_is = new_is n (member d.neighbors) row u v d.clock.0 d.rule own (after_is ∙ new)

      shallow : too_deep (local_of n t u v d).rule ((local_of n t u v d).row (home (event_of kind u v))).delta ≡ false
      unfolding carried
      shallow = rw (home-is kind u v, update-at) own_is.0

      module _ {to : ℕ} (sends : to ≡ set_of 16 (sends_to v d.rule d.neighbors d.forming)) {f : Bool}
          (room : f ≡ every n (room_for n u to t.channels)) where
        crowded-is : crowded n (local_of n t u v d) (cleared (load n t) (event_of kind u v) (home (event_of kind u v))) ≡ not f
        unfolding crowded
        crowded-is = rw (home-is kind u v) (ap not (sym room-same ∙ rw sends at (sym room)))

        pub ends-full : not f ≡ true → outcome (said_refused (why 9 0 0)) t ≡ step_at n (event_of kind u v) t
        ends-full h =
            step-full n t b.fit (event_of kind u v) (between-named n t u v b kind) ready.fits (local_of n t u v d) ready.leaves intime
            shallow (crowded-is ∙ h)

        pub ends-done : not f ≡ false → Wordy d.view → Wordy own → {t' : Tables}
            → t'.nodes ≡ put_node n u (row_after (node_of n u t.nodes) u v d own) t.nodes
            → CellsAre n t'.channels (sent_cells u to own d.clock.0 (cleared_cells kind n u v t.channels))
            → outcome (said_rule d.rule to) t' ≡ step_at n (event_of kind u v) t
        unfolding carried sends_to
        ends-done h wv wo {t'} row_is cells_are =
            let done = written-tables kind n t u v b (ready-takes kind ready) d ready.neighbors-lt ready.forming-lt own wv wo own_is.1
            (space (rw sends at (all_room room h))) t' row_is (rw sends at cells_are) in
            let s = sent-is-n n few d.neighbors d.forming ready.neighbors-lt ready.forming-lt v b.other d.rule in
            rw (sends, s, done)
            (rw (home-is kind u v)
            at (step-done n t b.fit (event_of kind u v) (between-named n t u v b kind) ready.fits (local_of n t u v d) ready.leaves intime
            shallow (crowded-is ∙ h)))
