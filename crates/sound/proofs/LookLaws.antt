-- What the looks find in the words of tables that the check passed is what the network holds.
use Prim.Native.Nat.{ℕ, ◌*◌, ◌^◌, ◌<◌, ◌≤◌}
use native.Mathlib.Omega.{arith}
use mathlib.Core.Bool.{Bool, false, ◌||◌}
use mathlib.Core.List.{List}
use mathlib.Core.Path.{◌≡◌, sym, ap, ap₂, ◌∙◌}
use lib.ListN.{length}
use lib.Pow.{pow_mono}
use Rattle.height.specs.declared.Height.{Height}
use Rattle.nodeset.specs.NodeSet.{member, set_of}
use Rattle.nodeset.specs.inner.Operations.{in_either}
use Rattle.protocol.specs.Network.{Node, up_to, own}
use Rattle.tables.specs.Tables.{Tables, row_head, width, node_of, channel_of}
use Rattle.tables.specs.inner.Fit.{Sized}
use Rattle.lent.specs.Check.{check_on}
use Rattle.sound.specs.inner.Looks.{up_set, waiting_on}
use Rattle.nodeset.proofs.Members.{set_of-more, set_of-ext, none_above, within-true}
use Rattle.tables.specs.Cell.{count, queue}
use Rattle.tables.specs.Load.{load}
use Rattle.tables.specs.Row.{neighbors_in, forming_in, height_in}
use Rattle.tables.proofs.CellLaws.{messages-length}
use Rattle.tables.proofs.TablesLaws.{load-neighbors, load-forming, load-height, load-channel}
use Rattle.lent.proofs.CheckLaws.{sound-sized}
use Rattle.lent.proofs.SoundTables.{sound-own}

small : (n s : ℕ) → n ≤ 16 → s < 2 ^ n → s < 65536
small n s l h = omega (arith, pow_mono {i = n} {j = 16} l)

module _ (n : ℕ) (t : Tables) (passed : (check_on n t).number ≡ 0) where
  pub size : Sized n t
  size = sound-sized n t passed

  module _ (u : ℕ) (a : Node n u) where
    abbrev row : List ℕ
    row = node_of n u t.nodes

    neighbors-within : neighbors_in row < 2 ^ n
    neighbors-within = within-true n (neighbors_in row) (sound-own n t passed u a).neighbors

    forming-within : forming_in row < 2 ^ n
    forming-within = within-true n (forming_in row) (sound-own n t passed u a).forming

    pub neighbors-small : neighbors_in (node_of n u t.nodes) < 65536
    neighbors-small = small n (neighbors_in row) size.few neighbors-within

    pub forming-small : forming_in (node_of n u t.nodes) < 65536
    forming-small = small n (forming_in row) size.few forming-within

    up_is : (v : ℕ) → up_to (load n t) u v ≡ (member (neighbors_in row) v || member (forming_in row) v)
    up_is v = rw (load-neighbors n t u a, load-forming n t u a)

    -- nobody beyond n
    up_none : (v : ℕ) → n < v → up_to (load n t) u v ≡ false
    up_none v l = up_is v ∙ rw (none_above n (neighbors_in row) v neighbors-within l, none_above n (forming_in row) v forming-within l)

    pub up-look : (a b : ℕ) → a ≡ neighbors_in (node_of n u t.nodes) → b ≡ forming_in (node_of n u t.nodes)
        → set_of 16 (in_either (member a) (member b)) ≡ up_set n t u
    unfolding up_set in_either
    up-look a b e f =
        ap₂ (λ (x y : ℕ). set_of 16 (λ k. member x k || member y k)) e f
        ∙ set_of-ext 16 _ (up_to (load n t) u) (λ k l h. sym (up_is k)) ∙ set_of-more n 16 (up_to (load n t) u) size.few up_none

    pub waiting-look : (v : ℕ) → Node n v → count (channel_of n u v t.channels) ≡ waiting_on n t u v
    unfolding waiting_on queue
    waiting-look v b = sym (rw (load-channel n t u a v b) (messages-length (count (channel_of n u v t.channels)) (channel_of n u v t.channels) 1))

    pub own-look : {row : List ℕ} {h : Height} → row ≡ node_of n u t.nodes → h ≡ height_in row u → h ≡ own (load n t) u
    own-look r e = e ∙ ap (λ (l : List ℕ). height_in l u) r ∙ sym (ap (λ (f : ℕ → Height). f u) (load-height n t u a))

    pub up-at : (v : ℕ) {row : List ℕ} {a b : ℕ} {s f : Bool} → row ≡ node_of n u t.nodes → a ≡ neighbors_in row → b ≡ forming_in row
        → s ≡ member a v → f ≡ member b v → (s || f) ≡ up_to (load n t) u v
    up-at v r a b s f =
        ap₂ (λ (x y : Bool). x || y) (s ∙ ap (λ (w : ℕ). member w v) (a ∙ ap neighbors_in r)) (f ∙ ap (λ (w : ℕ). member w v) (b ∙ ap forming_in r))
        ∙ sym (up_is v)

    -- the row that is read
    pub row-given : (n ≤ 16) × Node n u × (length t.nodes ≡ n * width n)
    row-given = (size.few, a, size.nodes)

    module _ {row : List ℕ} (e : row ≡ node_of n u t.nodes) (l : length row ≡ width n) where
      pub neighbors-fit : (row_head ≤ length row) × (neighbors_in row < 65536)
      neighbors-fit = (omega (arith, l), omega (arith, ap neighbors_in e, neighbors-small))

      pub forming-fit : (row_head ≤ length row) × (forming_in row < 65536)
      forming-fit = (omega (arith, l), omega (arith, ap forming_in e, forming-small))
