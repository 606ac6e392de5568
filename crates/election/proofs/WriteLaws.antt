-- What writing an event leaves: room after the event cleared a channel, and the cells after it sent.
use Prim.Native.Nat.{ℕ}
use mathlib.Core.Bool.{Bool, true, false, not, ◌||◌, and-false}
use mathlib.Core.List.{List}
use mathlib.Core.Logic.{◌⊎◌, inl, inr}
use mathlib.Core.Path.{◌≡◌, refl, sym, ◌∙◌}
use lib.Dec.{ltb}
use borrow.Author.Tests.{ne_eqb, not-false}
use Rattle.basics.specs.Functions.{every}
use Rattle.basics.proofs.FunctionsLaws.{every-at, every-all}
use Rattle.basics.proofs.Tests.{clash, equal?}
use Rattle.height.specs.declared.Height.{Height}
use Rattle.nodeset.specs.NodeSet.{member}
use Rattle.protocol.specs.Network.{Node}
use Rattle.tables.specs.Cell.{count}
use Rattle.tables.specs.Tables.{channel_of}
use Rattle.election.specs.declared.Kind.TheVariants.{Raised, Dropped, Received}
use Rattle.election.specs.declared.Kind.{Kind}
use Rattle.election.specs.inner.Cells.{CellsAre, cells_of, cleared_cells, sent_cells, room_for}

-- `has_room` did not answer false
pub all_room : {f g : Bool} → f ≡ g → not f ≡ false → g ≡ true
all_room {f} e h = sym e ∙ not-false f h

-- the set that a down sends to does not hold v
abbrev pub Silenced : Kind → ℕ → ℕ → Type 0
Silenced Raised to v = Unit {0}
Silenced Dropped to v = member to v ≡ false
Silenced Received to v = Unit {0}

-- a channel that is sent on is none that the event cleared
pub uncleared : (kind : Kind) (n u v to : ℕ) (cs : List ℕ) → (u ≡ v → ⊥) → Silenced kind to v → (w : ℕ) → member to w ≡ true
    → cleared_cells kind n u v cs u w ≡ channel_of n u w cs
uncleared Raised n u v to cs differ s w m = refl
uncleared Dropped n u v to cs differ s w m = rw (ne_eqb w v (λ q. clash (rw q at m) s), and-false)
uncleared Received n u v to cs differ s w m = rw (ne_eqb u v differ)

-- a cleared channel has no less room than it had
module _ (n u v to : ℕ) (a : Node n u) (differ : u ≡ v → ⊥) (cs cs₁ : List ℕ) where
  room_at : (kind : Kind) → CellsAre n cs₁ (cleared_cells kind n u v cs) → Silenced kind to v → (w : ℕ) → Node n w
      → room_for n u to cs w ≡ true → room_for n u to cs₁ w ≡ true
  unfolding room_for
  room_at Raised are s w d r = rw (are.at u w a d) r
  room_at Received are s w d r = rw (are.at u w a d, ne_eqb u v differ) r
  room_at Dropped are s w d r = go (equal? w v)
    where
      go : (w ≡ v) ⊎ (w ≡ v → ⊥) → (not (member to w) || ltb (count (channel_of n u w cs₁)) 8) ≡ true
      go (inl e) = rw (e, s)
      go (inr f) = rw (are.at u w a d, ne_eqb w v f, and-false) r

  pub room-cleared : (kind : Kind) → CellsAre n cs₁ (cleared_cells kind n u v cs) → Silenced kind to v
      → {f : Bool} → f ≡ every n (room_for n u to cs) → not f ≡ false → every n (room_for n u to cs₁) ≡ true
  room-cleared kind are s room q =
      every-all n (room_for n u to cs₁)
      (λ w l h. room_at kind are s w (record { low = l; high = h }) (every-at n (room_for n u to cs) (all_room room q) w l h))

-- the cells after sending, over the cells before the clearing
pub sent-cleared : (n u to : ℕ) (h : Height) (t : ℕ) (cs₁ cs₂ : List ℕ) (f : ℕ → ℕ → List ℕ)
    → CellsAre n cs₁ f → CellsAre n cs₂ (sent_cells u to h t (cells_of n cs₁)) → CellsAre n cs₂ (sent_cells u to h t f)
sent-cleared n u to h t cs₁ cs₂ f one two = record {
  size = two.size;
  at = λ x y c d. two.at x y c d ∙ unfold sent_cells in rw (one.at x y c d);
}
