-- What the functions of `sending` leave: lengths of cells, one changed cell, room for a message, and the loop that sends to a set.
use Prim.Native.Nat.{ℕ, ◌*◌, ◌^◌, ◌<◌, ◌≤◌}
use native.Mathlib.Omega.{arith}
use mathlib.Core.Bool.{true, false, cond, ◌&&◌, and-true, and-false}
use mathlib.Core.List.{List}
use mathlib.Core.Logic.{inl, inr}
use mathlib.Core.Path.{◌≡◌, refl, sym, ◌∙◌}
use lib.Dec.{eqb}
use lib.ListN.{length, drop, replicate, length-set, length-append, length-drop, length-replicate}
use lib.Pow.{pow_mono}
use borrow.Author.Tests.{ltb-true, eq-eqb, ne_eqb}
use Rattle.basics.specs.Functions.{every}
use Rattle.basics.proofs.FunctionsLaws.{every-at}
use Rattle.basics.proofs.Tests.{clash, SameOrNot, equal?, not-both}
use Rattle.height.specs.declared.Height.{Height}
use Rattle.height.proofs.WordsLaws.{stored-length}
use Rattle.nodeset.specs.NodeSet.{member, same_node, lowest}
use Rattle.nodeset.specs.inner.Operations.{in_but_not}
use Rattle.nodeset.proofs.Members.{none-in-zero, member-range}
use Rattle.nodeset.proofs.Walk.{LowestNode, lowest-in, member-without, without-less}
use Rattle.protocol.specs.Network.{Node}
use Rattle.tables.specs.Cell.{count}
use Rattle.tables.specs.inner.Written.{appended, taken, emptied, put_channel}
use Rattle.tables.specs.Tables.{cell_width, channel_of}
use Rattle.tables.proofs.RowsLaws.{channel-length, channel-put, channel-put-length, channel-other}
use Rattle.election.specs.declared.Kind.TheVariants.{Raised, Dropped, Received}
use Rattle.election.specs.declared.Kind.{Kind}
use Rattle.election.specs.inner.Cells.{CellsAre, Takes, cells_of, cleared_cells, sent_cells, room_for}
use Rattle.election.proofs.SetChanges.{without}

-- ---- lengths of cells

pub appended-length : (cell : List ℕ) (h : Height) (t : ℕ) → length cell ≡ cell_width → length (appended cell h t) ≡ cell_width
unfolding appended
appended-length cell h t wide = simp (length-set, stored-length) wide

pub taken-length : (cell : List ℕ) → length cell ≡ cell_width → length (taken cell) ≡ cell_width
unfolding taken
taken-length cell wide = omega (arith, length-append (drop 9 cell) (replicate 8 0), length-drop 9 cell, length-replicate {A = ℕ} 8 0)

-- ---- room

-- w is in the set, so the test is of the channel
pub room-count : (n u s : ℕ) (cs : List ℕ) (w : ℕ) → room_for n u s cs w ≡ true → member s w ≡ true → count (channel_of n u w cs) < 8
unfolding room_for
room-count n u s cs w e m = ltb-true (count (channel_of n u w cs)) 8 (rw m at e)

-- ---- one cell changed

pub changed-cells : (n a b : ℕ) → Node n a → Node n b → (cs : List ℕ) → length cs ≡ n * n * cell_width
    → (f : List ℕ → List ℕ) → length (f (channel_of n a b cs)) ≡ cell_width → {cs' : List ℕ}
    → cs' ≡ put_channel n a b (f (channel_of n a b cs)) cs
    → CellsAre n cs' (λ x y. cond (eqb x a && eqb y b) (f (channel_of n x y cs)) (channel_of n x y cs))
changed-cells n a b na nb cs size f wide e =
    rw e (record {
      size = channel-put-length n a b na nb cs size (f (channel_of n a b cs)) wide;
      at = λ x y nx ny. at x y nx ny (equal? x a) (equal? y b);
    })
  where
    kept : (x y : ℕ) → Node n x → Node n y → (x ≡ a → y ≡ b → ⊥)
        → channel_of n x y (put_channel n a b (f (channel_of n a b cs)) cs)
        ≡ cond (eqb x a && eqb y b) (f (channel_of n x y cs)) (channel_of n x y cs)
    kept x y nx ny d =
        rw (not-both x a y b d) (channel-other n a b na nb cs size (f (channel_of n a b cs)) wide x y nx ny (λ q. d q.0 q.1))

    at : (x y : ℕ) → Node n x → Node n y → SameOrNot x a → SameOrNot y b
        → channel_of n x y (put_channel n a b (f (channel_of n a b cs)) cs)
        ≡ cond (eqb x a && eqb y b) (f (channel_of n x y cs)) (channel_of n x y cs)
    at x y nx ny (inl p) (inl q) =
        rw (p, q, eq-eqb a a refl, eq-eqb b b refl) (channel-put n a b na nb cs size (f (channel_of n a b cs)) wide)
    at x y nx ny (inl p) (inr q) = kept x y nx ny (λ _ g. q g)
    at x y nx ny (inr p) q = kept x y nx ny (λ g _. p g)

-- ---- what an event clears

module _ (kind : Kind) (n u v : ℕ) (nu : Node n u) (nv : Node n v) (cs : List ℕ) (size : length cs ≡ n * n * cell_width) where
  pub raised-cells : kind ≡ Raised → CellsAre n cs (cleared_cells kind n u v cs)
  raised-cells e = rw e (record { size = size; at = λ x y nx ny. refl })

  pub dropped-cells : kind ≡ Dropped → {cs' : List ℕ} → cs' ≡ put_channel n u v emptied cs → CellsAre n cs' (cleared_cells kind n u v cs)
  dropped-cells e q = rw e (changed-cells n u v nu nv cs size (λ _. emptied) (length-replicate {A = ℕ} cell_width 0) q)

  pub received-cells : kind ≡ Received → {cs' : List ℕ} → cs' ≡ put_channel n v u (taken (channel_of n v u cs)) cs
      → CellsAre n cs' (cleared_cells kind n u v cs)
  received-cells e q =
      rw e (changed-cells n v u nv nu cs size taken (taken-length (channel_of n v u cs) (channel-length n v u nv nu cs size)) q)

  pub takes_one : kind ≡ Received → Takes kind n u v cs → 1 ≤ count (channel_of n v u cs)
  takes_one e k = rw e at k

-- ---- one message to every node of a set, lowest first

-- with the nodes of `left` still to send to: the cells after these are the cells after all of `to`, and these have room
pub record Sending (n u to : ℕ) (h : Height) (t : ℕ) (cs₀ cs : List ℕ) (left : ℕ) : Type 0 where
  pub size : length cs ≡ n * n * cell_width
  pub within : left < 2 ^ n
  pub room : (y : ℕ) → member left y ≡ true → count (channel_of n u y cs) < 8
  pub same : (x y : ℕ) → Node n x → Node n y → sent_cells u left h t (cells_of n cs) x y ≡ sent_cells u to h t (cells_of n cs₀) x y

pub sending-start : (n u to : ℕ) (h : Height) (t : ℕ) (cs : List ℕ) → length cs ≡ n * n * cell_width → to < 2 ^ n
    → every n (room_for n u to cs) ≡ true → Sending n u to h t cs cs to
sending-start n u to h t cs size within room = record {
  size = size;
  within = within;
  room = λ y m. let r = member-range n to y within m in room-count n u to cs y (every-at n (room_for n u to cs) room y r.0 r.1) m;
  same = λ x y nx ny. refl;
}

-- s without k, at k and elsewhere
module _ (s k : ℕ) (few : s < 2 ^ 16) where
  without-same : member (without s k) k ≡ false
  unfolding in_but_not same_node
  without-same = member-without s k few k ∙ rw (eq-eqb k k refl) (and-false (member s k))

  without_other : (j : ℕ) → (j ≡ k → ⊥) → member (without s k) j ≡ member s j
  unfolding in_but_not same_node
  without_other j d = member-without s k few j ∙ rw (ne_eqb j k d) (and-true (member s j))

module _ {n u to : ℕ} {h : Height} {t : ℕ} {cs₀ cs : List ℕ} {left : ℕ} (few : n ≤ 16) (q : Sending n u to h t cs₀ cs left) where
  small : left < 2 ^ 16
  small = omega (arith, q.within, pow_mono few)

  -- all is sent
  pub sending-done : left ≡ 0 → CellsAre n cs (sent_cells u to h t (cells_of n cs₀))
  unfolding sent_cells
  sending-done e = record { size = q.size; at = λ x y nx ny. sym (none x y) ∙ q.same x y nx ny }
    where
      none : (x y : ℕ) → cond (eqb x u && member left y) (appended (channel_of n x y cs) h t) (channel_of n x y cs) ≡ channel_of n x y cs
      none x y = rw (e, none-in-zero y, and-false (eqb x u))

  module _ (some : left ≡ 0 → ⊥) {w : ℕ} (first : w ≡ lowest left) where
    next : LowestNode n left w
    next = rw first (lowest-in n left (omega arith) q.within few)

    -- the next node
    pub sending-node : Node n w
    sending-node = record { low = next.from_one; high = next.at_most }

    pub sending-room : count (channel_of n u w cs) < 8
    sending-room = q.room w next.is_member

    pub sending-less : without left w < left
    sending-less = without-less left w next.is_member small

    -- one message more is sent
    module _ (nu : Node n u) {cs' : List ℕ} (put : cs' ≡ put_channel n u w (appended (channel_of n u w cs) h t) cs) where
      one : CellsAre n cs' (λ x y. cond (eqb x u && eqb y w) (appended (channel_of n x y cs) h t) (channel_of n x y cs))
      one =
          changed-cells n u w nu sending-node cs q.size (λ cell. appended cell h t)
          (appended-length (channel_of n u w cs) h t (channel-length n u w nu sending-node cs q.size)) put

      here : channel_of n u w cs' ≡ appended (channel_of n u w cs) h t
      here = one.at u w nu sending-node ∙ rw (eq-eqb u u refl, eq-eqb w w refl)

      kept : (x y : ℕ) → Node n x → Node n y → (x ≡ u → y ≡ w → ⊥) → channel_of n x y cs' ≡ channel_of n x y cs
      kept x y nx ny d = one.at x y nx ny ∙ rw (not-both x u y w d)

      step : (x y : ℕ) → Node n x → Node n y → SameOrNot x u → SameOrNot y w
          → sent_cells u (without left w) h t (cells_of n cs') x y ≡ sent_cells u left h t (cells_of n cs) x y
      unfolding sent_cells
      step x y nx ny (inl a) (inl b) =
          rw (a, b, without-same left w small, next.is_member, eq-eqb u u refl) here
      step x y nx ny (inl a) (inr b) = rw (without_other left w small y b, kept x y nx ny (λ _ g. b g))
      step x y nx ny (inr a) b = rw (ne_eqb x u a) (kept x y nx ny (λ g _. a g))

      space : (y : ℕ) → member (without left w) y ≡ true → SameOrNot y w → count (channel_of n u y cs') < 8
      space y m (inl b) = clash m (rw b (without-same left w small))
      space y m (inr b) =
          let e : member left y ≡ true = sym (without_other left w small y b) ∙ m in
          let r = member-range n left y q.within e in
          rw (kept u y nu (record { low = r.0; high = r.1 }) (λ _ g. b g)) (q.room y e)

      pub sending-next : {left' : ℕ} → left' ≡ without left w → Sending n u to h t cs₀ cs' left'
      sending-next e =
          rw e (record {
            size = one.size;
            within = omega (arith, q.within, sending-less);
            room = λ y m. space y m (equal? y w);
            same = λ x y nx ny. step x y nx ny (equal? x u) (equal? y w) ∙ q.same x y nx ny;
          })
