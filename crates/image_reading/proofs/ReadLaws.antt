-- The parts of an image whose walk was accepted stand inside it, and the rows and cells read of them are those of its records.
-- Assumes what its records state: ChannelIn, ChannelsIn, Walkable.
use Prim.Native.Nat.{ℕ, suc, ◌+◌, ◌-◌, ◌*◌, ◌≤◌, ◌<◌}
use native.Mathlib.Numerals.{add-one}
use native.Mathlib.Omega.{arith}
use mathlib.Core.List.{List}
use mathlib.Core.Path.{◌≡◌, refl, sym, ap, subst, ◌∙◌}
use borrow.Author.Tests.{eq-eqb, ne_eqb}
use lib.Dec.{eqb}
use lib.ListN.{length, replicate}
use Rattle.bits.specs.Bits.{unpacked}
use Rattle.bits.proofs.Bytes.{length-unpacked}
use Rattle.image.specs.Places.{field_in, node_place, walked, channel_next, channels_next, channels_place, channels_from_place, channel_place, records_in}
use Rattle.image.specs.inner.Parts.{image_end, Inside, row_from, cell_from}
use Rattle.image.specs.Widths.{message_width, node_width}
use Rattle.image.proofs.ChannelLaws.{next-same, next-other}
use Rattle.image.proofs.PartLaws.{row_read, channel-eights}
use Rattle.image.proofs.PlaceLaws.{channel-on, channels-on, start-in, walked-le}
use Rattle.protocol.specs.Network.{Two}
use Rattle.tables.specs.Records.{row_words, slot_words, cell_words}
use Rattle.tables.specs.Rows.{rows}
use Rattle.tables.specs.Tables.{cell_width}
use Rattle.tables.proofs.RecordsLaws.{length-cell}
use Rattle.tables.proofs.RowsLaws.{row_fits}
use Rattle.tables.proofs.RowsMore.{rows_same}
use Rattle.image_reading.specs.inner.Cells.{cell_in, cell_behind, ChannelIn, ChannelsIn, Walkable}

-- ---- the nodes' records
pub node-inside : {h d n : ℕ} {xs : List ℕ} → Walkable h d n (unpacked xs) → (i : ℕ) → i < n → Inside xs (h + i * node_width d n) (node_width d n)
unfolding channels_place
node-inside {h} {d} {n} {xs} w i b =
    let start : channels_place h d n ≤ image_end h d n (unpacked xs) = start-in h d n (unpacked xs) in
    let fits : i * node_width d n + node_width d n ≤ n * node_width d n = row_fits (node_width d n) i n b in
    record { small = omega (arith, w.small); inside = omega (arith, w.inside, length-unpacked xs) }

module _ (h d n : ℕ) (l : List ℕ) (i : ℕ) where
  pub row-got : {row : List ℕ} → row ≡ row_from d n l (h + i * node_width d n) → row ≡ row_words n (records_in h d n l) (suc i)
  unfolding node_place
  row-got f =
      let z : i ≡ suc i - 1 = omega arith in
      f ∙ ap (λ (x : ℕ). row_from d n l (h + x * node_width d n)) z ∙ row_read h d n l (suc i)

-- ---- a walk's place, one step more
walked_next : (next : ℕ → ℕ → ℕ) (k q p : ℕ) {r : ℕ} → p ≡ walked next k q → r ≡ next (k + 1) p → r ≡ walked next (k + 1) q
unfolding walked
walked_next next k q p e f =
    f ∙ ap (λ (x : ℕ). next x p) (add-one k) ∙ ap (next (suc k)) e ∙ sym (ap (λ (x : ℕ). walked next x q) (add-one k))

-- ---- one channel
module _ (d : ℕ) (l : List ℕ) (u v q : ℕ) where
  -- from a node to itself
  pub own-cell : u ≡ v → replicate cell_width 0 ≡ cell_in d l u v q
  unfolding cell_in cell_words slot_words
  own-cell e = rw (eq-eqb u v e)

  pub own-next : u ≡ v → q ≡ channel_next d l u v q
  own-next e = sym (next-same d l u v q (eq-eqb u v e))

  -- to another
  pub other-cell : (u ≡ v → ⊥) → cell_from d l q ≡ cell_in d l u v q
  unfolding cell_in cell_from
  other-cell o = rw (ne_eqb u v o)

  pub other-next : (u ≡ v → ⊥) → q + 4 + field_in l q 4 * message_width d ≡ channel_next d l u v q
  other-next o = sym (next-other d l u v q (ne_eqb u v o))

-- its record stands inside the bytes
pub channel-inside : {d : ℕ} {xs : List ℕ} {u v q : ℕ} → ChannelIn d (unpacked xs) u v q → (u ≡ v → ⊥)
    → Inside xs q (4 + field_in (unpacked xs) q 4 * message_width d)
channel-inside {d} {xs} {u} {v} {q} c o =
    let e : q + 4 + field_in (unpacked xs) q 4 * message_width d ≡ channel_next d (unpacked xs) u v q = other-next d (unpacked xs) u v q o in
    record { small = omega (arith, c.small); inside = omega (arith, c.inside, length-unpacked xs) }

-- ---- the channels from one node, which start at q
-- p is behind the first k
pub record ChannelAt (d : ℕ) (l : List ℕ) (u q k p : ℕ) : Type 0 where
  pub place : p ≡ walked (channel_next d l u) k q

pub channel-start : {d : ℕ} {l : List ℕ} {u q : ℕ} → ChannelAt d l u q 0 q
unfolding walked
channel-start = record { place = refl }

module _ {d : ℕ} {l : List ℕ} {u q k p : ℕ} (at : ChannelAt d l u q k p) where
  pub channel-next : {r : ℕ} → r ≡ channel_next d l u (k + 1) p → ChannelAt d l u q (k + 1) r
  channel-next e = record { place = walked_next (channel_next d l u) k q p at.place e }

  pub channel-end : {n : ℕ} → k ≤ n → n ≤ k → p ≡ channels_next d n l u q
  unfolding channels_next
  channel-end {n} h b = let z : k ≡ n = omega arith in at.place ∙ ap (λ (x : ℕ). walked (channel_next d l u) x q) z

  pub cell-behind : {cell : List ℕ} → cell ≡ cell_in d l u (k + 1) p → cell ≡ cell_behind d l u q (suc k)
  unfolding cell_behind
  cell-behind e =
      let z : k ≡ suc k - 1 = omega arith in
      e ∙ ap (λ (x : ℕ). cell_in d l u x p) (add-one k)
      ∙ ap (cell_in d l u (suc k)) (at.place ∙ ap (λ (x : ℕ). walked (channel_next d l u) x q) z)

  pub channel-of : {n : ℕ} → ChannelsIn d n l u q → k < n → ChannelIn d l u (k + 1) p
  unfolding channels_next
  channel-of {n} c h =
      let next : channel_next d l u (k + 1) p ≡ walked (channel_next d l u) (k + 1) q = (channel-next refl).place in
      let on : walked (channel_next d l u) (k + 1) q ≤ walked (channel_next d l u) n q =
      walked-le (channel_next d l u) (channel-on d l u) (k + 1) n q (omega arith) in
      record {
        few = λ o. subst (λ (x : ℕ). field_in l x 4 ≤ 8) (sym at.place) (c.few k h (λ same. o (omega arith)));
        inside = omega (arith, c.inside);
        small = omega (arith, c.small);
      }

pub length-cell-behind : (d : ℕ) (l : List ℕ) (u q v : ℕ) → length (cell_behind d l u q v) ≡ cell_width
unfolding cell_behind cell_in
length-cell-behind d l u q v = length-cell _ (channel-eights d l (eqb u v) (walked (channel_next d l u) (v - 1) q))

-- ---- all channels
-- p is behind those from the first k nodes
pub record ChannelsAt (h d n : ℕ) (l : List ℕ) (k p : ℕ) : Type 0 where
  pub place : p ≡ walked (channels_next d n l) k (channels_place h d n)

pub channels-start : {h d n : ℕ} {l : List ℕ} → ChannelsAt h d n l 0 (channels_place h d n)
unfolding walked
channels-start = record { place = refl }

module _ {h d n : ℕ} {l : List ℕ} {k p : ℕ} (at : ChannelsAt h d n l k p) where
  pub channels-next : {r : ℕ} → r ≡ channels_next d n l (k + 1) p → ChannelsAt h d n l (k + 1) r
  channels-next e = record { place = walked_next (channels_next d n l) k (channels_place h d n) p at.place e }

  pub channels-of : Walkable h d n l → k < n → ChannelsIn d n l (k + 1) p
  unfolding channel_place channels_from_place image_end
  channels-of w b =
      let q : ℕ = channels_place h d n in
      let next : channels_next d n l (k + 1) p ≡ walked (channels_next d n l) (k + 1) q = (channels-next refl).place in
      let on : walked (channels_next d n l) (k + 1) q ≤ walked (channels_next d n l) n q =
      walked-le (channels_next d n l) (channels-on d n l) (k + 1) n q (omega arith) in
      let y : k + 1 - 1 ≡ k = omega arith in
      record {
        few = λ j a o.
            let z : suc j - 1 ≡ j = omega arith in
            let two : Two n (k + 1) (suc j) =
            record { one = record { low = omega arith; high = omega arith }; other = record { low = omega arith; high = a }; differ = o } in
            rw (y, z, ← at.place) at (w.few (k + 1) (suc j) two);
        inside = omega (arith, w.inside);
        small = omega (arith, w.small);
      }

  -- the cells read are those of the records
  pub cell-got : (v : ℕ) → cell_behind d l (suc k) p v ≡ cell_words ((records_in h d n l).channel (suc k) v)
  unfolding cell_behind cell_in records_in channel_place channels_from_place
  cell-got v =
      let z : k ≡ suc k - 1 = omega arith in
      ap (λ (x : ℕ). cell_behind d l (suc k) x v) (at.place ∙ ap (λ (x : ℕ). walked (channels_next d n l) x (channels_place h d n)) z)

  pub cells-got : {cells : List ℕ} → cells ≡ rows n (cell_behind d l (k + 1) p)
      → cells ≡ rows n (λ v. cell_words ((records_in h d n l).channel (suc k) v))
  cells-got e =
      e ∙ ap (λ (x : ℕ). rows n (cell_behind d l x p)) (add-one k)
      ∙ rows_same n (cell_behind d l (suc k) p) (λ v. cell_words ((records_in h d n l).channel (suc k) v)) (λ j b. cell-got (suc j))
