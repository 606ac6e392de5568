-- The search of the contents, row by row and pair by pair: that each return is the first fault, or else the first untimely pair.
-- What holds at the head of each loop is that of the lent tables (`lent` Walks).
use Prim.Native.Nat.{ℕ, zero, suc, ◌+◌, ◌-◌, ◌*◌, ◌≤◌, ◌<◌}
use native.Mathlib.Numerals.{add-one}
use native.Mathlib.Omega.{arith}
use mathlib.Core.Bool.{Bool, cond}
use mathlib.Core.List.{List, []}
use mathlib.Core.Path.{◌≡◌, refl, sym, ap, ap₂, ◌∙◌}
use borrow.Author.Tests.{eqb-false}
use lib.Dec.{eqb}
use lib.ListN.{length, drop}
use Rattle.std.specs.Prelude.{Result, Ok, ⊤}
use Rattle.basics.proofs.Tests.{Choice, yes!, no!, choice}
use Rattle.image.specs.Places.{field_in, channel_from, channel_next, records_in, tables_in}
use Rattle.image.specs.Widths.{node_width}
use Rattle.image.specs.inner.Parts.{row_from}
use Rattle.image.proofs.ChannelLaws.{length-messages-of}
use Rattle.image.proofs.PartLaws.{records-shaped, channel-eights}
use Rattle.std.specs.Result.{result_and}
use Rattle.lent.specs.Check.{pair_at, timely_at, fault_in_row, fault_from, or_else, said_check}
use Rattle.lent.proofs.Walks.{BothRow, BothRows, both_end, all-next, all-fault, late-or-none, kept-late}
use Rattle.pairs.specs.Pair.{pair_sound, timely_in}
use Rattle.pairs.specs.declared.Finding.{Finding}
use Rattle.pairs.specs.inner.Findings.{finding}
use Rattle.pairs.specs.inner.ReadCell.{ReadCell}
use Rattle.refusal.specs.Refusal.{why, why_of}
use Rattle.refusal.specs.declared.Refusal.{Refusal}
use Rattle.refusal.specs.declared.Why.{Why}
use Rattle.refusal.proofs.RefusalLaws.{never-0}
use Rattle.tables.specs.Records.{cell_words}
use Rattle.tables.specs.Tables.{node_of, channel_of}
use Rattle.tables.proofs.RecordsLaws.{row_from-is, cell-from, unused-zero}
use Rattle.image_reading.specs.inner.Search.{row_holds, row_timely, Searched}
use Rattle.image_reading.specs.inner.Cells.{ChannelIn, ChannelsIn, cell_in, cell_behind}
use Rattle.image_reading.proofs.ReadLaws.{ChannelAt, ChannelsAt, channel-of, channel-next, row-got, cell-behind, cell-got}

-- ---- one row

-- the cell that was read holds at most 8 messages, and zero words after them
length-channel : (d : ℕ) (l : List ℕ) (p : ℕ) → length (channel_from d l p) ≡ field_in l p 4
unfolding channel_from
length-channel d l p = length-messages-of d (field_in l p 4) (drop (p + 4) l)

pub cell-read : {d : ℕ} {l : List ℕ} {u v p : ℕ} → ChannelIn d l u v p → {cell : List ℕ} → cell ≡ cell_in d l u v p → ReadCell cell
unfolding cell_in cell_words
cell-read {d} {l} {u} {v} {p} c e =
    rw e (record { few = short; rest = unused-zero (cond (eqb u v) [] (channel_from d l p)) (channel-eights d l (eqb u v) p) short })
  where
    go : Choice (eqb u v) → length (cond (eqb u v) [] (channel_from d l p)) ≤ 8
    go (yes! i) = rw i (omega arith)
    go (no! i) = rw i (omega (arith, c.few (eqb-false u v i), length-channel d l p))

    short : length (cond (eqb u v) [] (channel_from d l p)) ≤ 8
    short = go (choice (eqb u v))

-- pair v of row u: its channel is behind those to the nodes below v
module _ {d : ℕ} {l : List ℕ} {u q v p : ℕ} (low : 1 ≤ v) (at : ChannelAt d l u q (v - 1) p) where
  back : v - 1 + 1 ≡ v
  back = omega arith

  pub pair-channel : {n : ℕ} → ChannelsIn d n l u q → v < n + 1 → ChannelIn d l u v p
  pair-channel c h = rw back at (channel-of at c (omega arith))

  pub pair-next : {r : ℕ} → r ≡ channel_next d l u v p → ChannelAt d l u q (v + 1 - 1) r
  pair-next e = let z : v + 1 - 1 ≡ v - 1 + 1 = omega arith in rw z (channel-next at (rw back e))

  -- what is found of it, by the cell that was read
  pub pair_read : (n : ℕ) (row : List ℕ) {cell : List ℕ} {f : Finding} → cell ≡ cell_in d l u v p
      → f ≡ finding (pair_sound n u v row cell) (timely_in v row cell) → f ≡ finding (row_holds d n l row q u v) (row_timely d l row q u v)
  unfolding row_holds row_timely
  pair_read n row {cell} e t =
      let k : suc (v - 1) ≡ v = omega arith in
      let is : cell ≡ cell_behind d l u q v = rw k at (cell-behind at {cell = cell} (rw back e)) in
      t ∙ ap (λ (c : List ℕ). finding (pair_sound n u v row c) (timely_in v row c)) is

-- past the last pair
pub row-passes : (s t : ℕ → ℕ → Bool) (n u : ℕ) (base late : Result ⊤ Refusal) (v : ℕ) → BothRow s t n u base late v → n + 1 ≤ v
    → (fault_in_row 2 s u 1 n ≡ why 0 0 0) × (said_check late ≡ or_else (said_check base) (fault_in_row 18 t u 1 n))
row-passes s t n u base late v r h =
    let end = both_end s t n u base late v r (omega arith) in
    (end.0, sym (end.1 ∙ late-or-none late))

-- ---- all rows

-- the rows and cells read are those of the tables
fault-same : (k : ℕ) (s t : ℕ → ℕ → Bool) (u m v j : ℕ) → v + j ≡ m → ((i : ℕ) → i < m → s u (suc i) ≡ t u (suc i))
    → fault_in_row k s u (suc v) j ≡ fault_in_row k t u (suc v) j
unfolding fault_in_row
fault-same k s t u m v zero e h = refl
fault-same k s t u m v (suc j) e h =
    ap₂ (λ (b : Bool) (x : Why). cond b x (why k u (suc v))) (h v (omega arith))
    (fault-same k s t u m (suc v) j (omega arith) h)

-- row k + 1, whose channels start at p
module _ {h d n : ℕ} {l : List ℕ} {k p : ℕ} (at : ChannelsAt h d n l k p) (b : k < n) {row : List ℕ} (e : row ≡ row_from d n l (h + k * node_width d n)) where
  row_is : row ≡ node_of n (suc k) (tables_in h d n l).nodes
  unfolding tables_in
  row_is = row-got h d n l k e ∙ sym (row_from-is n (records_in h d n l) (records-shaped h d n l) k b)

  cell-is : (j : ℕ) → j < n → cell_behind d l (suc k) p (suc j) ≡ channel_of n (suc k) (suc j) (tables_in h d n l).channels
  unfolding tables_in
  cell-is j c = cell-got at (suc j) ∙ sym (cell-from n (records_in h d n l) (records-shaped h d n l) k j b c)

  pub row-sound : fault_in_row 2 (row_holds d n l row p) (k + 1) 1 n ≡ fault_in_row 2 (pair_at n (tables_in h d n l)) (k + 1) 1 n
  unfolding row_holds pair_at
  row-sound =
      rw (add-one k) (fault-same 2 (row_holds d n l row p) (pair_at n (tables_in h d n l)) (suc k) n 0 n (omega arith)
      (λ j c. ap₂ (pair_sound n (suc k) (suc j)) row_is (cell-is j c)))

  pub row-timely : fault_in_row 18 (row_timely d l row p) (k + 1) 1 n ≡ fault_in_row 18 (timely_at n (tables_in h d n l)) (k + 1) 1 n
  unfolding row_timely timely_at
  row-timely =
      rw (add-one k) (fault-same 18 (row_timely d l row p) (timely_at n (tables_in h d n l)) (suc k) n 0 n (omega arith)
      (λ j c. ap₂ (timely_in (suc j)) row_is (cell-is j c)))

-- the search of the next row, by the tables
module _ (s t x y : ℕ → ℕ → Bool) (n : ℕ) (late : Result ⊤ Refusal) (u : ℕ) (r : BothRows s t n late (u + 1)) (h : u < n)
    (sound : fault_in_row 2 x (u + 1) 1 n ≡ fault_in_row 2 s (u + 1) 1 n) (timely : fault_in_row 18 y (u + 1) 1 n ≡ fault_in_row 18 t (u + 1) 1 n) where
  pub rows-stop : (w : Refusal) → fault_in_row 2 x (u + 1) 1 n ≡ why_of w → why_of w ≡ or_else (fault_from 2 s n 1 n) (fault_from 18 t n 1 n)
  rows-stop w searched = all-fault s t n (u + 1) late r (omega arith) (sym sound ∙ searched) (never-0 w)

  pub rows-go : (q p : ℕ) (here next : Result ⊤ Refusal) → Searched x y n (u + 1) q (Ok (p, here)) → next ≡ result_and late here
      → BothRows s t n next (u + 1 + 1)
  rows-go q p here next searched e =
      all-next s t n (u + 1) late r (omega arith) next (sym sound ∙ searched.0)
      (ap (or_else (said_check late)) (sym timely ∙ sym searched.1) ∙ sym (ap said_check e ∙ kept-late late here) ∙ sym (late-or-none next))
