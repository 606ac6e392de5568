-- Tables of 32-bit words in which the check finds no fault fit: their network gives them back (`tables-back`).
-- Assumes that every word is below 2 to the power 32 (`Words`), which a slice of u32 words shows of itself.
use Prim.Native.Nat.{ℕ, ◌+◌, ◌-◌, ◌*◌, ◌<◌}
use native.Mathlib.Omega.{arith}
use mathlib.Core.Bool.{true, ◌&&◌}
use mathlib.Core.List.{List}
use mathlib.Core.Logic.{◌⊎◌, inl, inr}
use mathlib.Core.Path.{◌≡◌, refl, sym, ap, ◌∙◌}
use lib.ListN.{get_or, length, drop}
use lib.Seq.{get_or-take, get_or-drop}
use borrow.Author.Tests.{eq-eqb, ne_eqb}
use Rattle.basics.proofs.Tests.{equal?, and_left, and_right}
use Rattle.nodeset.proofs.Members.{within-true}
use Rattle.pairs.specs.Pair.{view_sound, channel_sound, pair_sound}
use Rattle.pairs.proofs.HeldPairs.{OwnHolds, ChannelHolds, own-holds, channel-holds}
use Rattle.protocol.specs.Network.{Node}
use Rattle.tables.specs.Cell.{count, all_zero}
use Rattle.tables.specs.Row.{neighbors_in, forming_in}
use Rattle.tables.specs.Rows.{row_at}
use Rattle.tables.specs.Tables.{Tables, width, cell_width, node_of, pair_of, channel_of}
use Rattle.tables.specs.inner.Fit.{Sized, CellFits, RowFits, TablesFit}
use Rattle.tables.proofs.RowsLaws.{node-length, channel-length}
use Rattle.tables.proofs.WordRuns.{zero-at}
use Rattle.lent.specs.Check.{pair_at, check_on}
use Rattle.lent.proofs.CheckLaws.{sound-sized, sound-pair}

-- every word is one of 32 bits
pub record Words (t : Tables) : Type 0 where
  pub nodes : (i : ℕ) → get_or t.nodes i 0 < 4294967296
  pub channels : (i : ℕ) → get_or t.channels i 0 < 4294967296

-- a word of a row is a word of the table
pub row_word : (w i : ℕ) (xs : List ℕ) → ((j : ℕ) → get_or xs j 0 < 4294967296) → (j : ℕ) → j < w → get_or (row_at w i xs) j 0 < 4294967296
unfolding row_at
row_word w i xs h j l = rw (get_or-take w (drop (i * w) xs) j 0 l, get_or-drop (i * w) xs j 0) (h (i * w + j))

-- ---- the pairs of tables without a fault

module _ (n : ℕ) (t : Tables) (sound : (check_on n t).number ≡ 0) where
  pub sound-own : (u : ℕ) → Node n u → OwnHolds n u (node_of n u t.nodes) (channel_of n u u t.channels)
  unfolding pair_at pair_sound
  sound-own u a =
      own-holds n u (node_of n u t.nodes) (channel_of n u u t.channels) (rw (eq-eqb u u refl) at (sound-pair n t sound u u a a))

  module _ (u v : ℕ) (a : Node n u) (b : Node n v) (differ : u ≡ v → ⊥) where
    other-pair : (view_sound n v (node_of n u t.nodes) && channel_sound n u v (node_of n u t.nodes) (channel_of n u v t.channels)) ≡ true
    unfolding pair_at pair_sound
    other-pair = rw (ne_eqb u v differ) at (sound-pair n t sound u v a b)

    pub sound-view : view_sound n v (node_of n u t.nodes) ≡ true
    sound-view =
        and_left (view_sound n v (node_of n u t.nodes)) (channel_sound n u v (node_of n u t.nodes) (channel_of n u v t.channels))
        other-pair

    pub sound-channel : ChannelHolds n u v (node_of n u t.nodes) (channel_of n u v t.channels)
    sound-channel =
        channel-holds n u v (node_of n u t.nodes) (channel_of n u v t.channels)
        (and_right (view_sound n v (node_of n u t.nodes)) (channel_sound n u v (node_of n u t.nodes) (channel_of n u v t.channels))
        other-pair)

-- ---- the tables fit

-- a cell with zero words past its messages
module _ (cell : List ℕ) (wide : length cell ≡ cell_width) (words : (j : ℕ) → j < cell_width → get_or cell j 0 < 4294967296) where
  zero-cell : all_zero cell ≡ true → CellFits cell
  zero-cell e =
      let at = zero-at cell e in
      record { wide = wide; few = omega (arith, at 0); deltas = λ k l. words (1 + (k * 8 + 3)) (omega arith); unused = λ j l h. at (1 + j) }

  messages-cell : (n u v : ℕ) (row : List ℕ) → ChannelHolds n u v row cell → CellFits cell
  messages-cell n u v row h = record {
    wide = wide;
    few = h.few;
    deltas = λ k l. words (1 + (k * 8 + 3)) (omega arith);
    unused = λ j l m.
        let e : 1 + count cell * 8 + (j - count cell * 8) ≡ 1 + j = omega arith in
        ap (λ (i : ℕ). get_or cell i 0) (sym e) ∙ sym (get_or-drop (1 + count cell * 8) cell (j - count cell * 8) 0)
        ∙ zero-at (drop (1 + count cell * 8) cell) h.rest (j - count cell * 8);
  }

pub sound-fits : (n : ℕ) (t : Tables) → Words t → (check_on n t).number ≡ 0 → TablesFit n t
sound-fits n t words sound = record { size = size; rows = row; cells = λ u v a b. cell u v a b (equal? u v) }
  where
    size : Sized n t
    size = sound-sized n t sound

    row : (u : ℕ) → Node n u → RowFits n (node_of n u t.nodes)
    row u a =
        let own = sound-own n t sound u a in
        record {
          wide = node-length n u a t.nodes size.nodes;
          neighbors-lt = within-true n (neighbors_in (node_of n u t.nodes)) own.neighbors;
          forming-lt = within-true n (forming_in (node_of n u t.nodes)) own.forming;
          deltas = λ k l. row_word (width n) (u - 1) t.nodes words.nodes (3 + k * 7 + 3) (omega arith);
        }

    cell : (u v : ℕ) → Node n u → Node n v → (u ≡ v) ⊎ (u ≡ v → ⊥) → CellFits (channel_of n u v t.channels)
    cell u v a b d = go d
      where
        wide : length (channel_of n u v t.channels) ≡ cell_width
        wide = channel-length n u v a b t.channels size.channels

        word : (j : ℕ) → j < cell_width → get_or (channel_of n u v t.channels) j 0 < 4294967296
        word = row_word cell_width (pair_of n u v) t.channels words.channels

        go : (u ≡ v) ⊎ (u ≡ v → ⊥) → CellFits (channel_of n u v t.channels)
        go (inl e) =
            zero-cell (channel_of n u v t.channels) wide word
            (ap (λ (x : ℕ). all_zero (channel_of n u x t.channels)) (sym e) ∙ (sound-own n t sound u a).unused)
        go (inr q) =
            messages-cell (channel_of n u v t.channels) wide word n u v (node_of n u t.nodes) (sound-channel n t sound u v a b q)
