-- Saving what was restored gives the bytes back: the tables that an accepted image fills pass the check, and their image is it again.
-- Assumes that the bytes are bytes (below 256).
use Prim.Native.Nat.{ℕ, suc, ◌≤◌, ◌<◌}
use native.Mathlib.Omega.{arith}
use mathlib.Core.List.{List}
use mathlib.Core.Path.{◌≡◌, refl, sym, ◌∙◌}
use lib.ListN.{length, length-map}
use Rattle.bits.specs.Bits.{field, unpacked}
use Rattle.bits.proofs.Bytes.{below-unpacked, length-unpacked}
use Rattle.bits.proofs.Numbers.{Below}
use Rattle.image.specs.Image.{image}
use Rattle.image.specs.Places.{field_in, records_in, tables_in}
use Rattle.image.proofs.ImageBits.{same-image}
use Rattle.image.proofs.PartLaws.{records-shaped}
use Rattle.image.proofs.Whole.{Accepted, image-of-read}
use Rattle.image_reading.proofs.ShapeLaws.{records-words}
use Rattle.lent.specs.Check.{check_on}
use Rattle.lent.proofs.CheckLaws.{is-sized, check-pairs}
use Rattle.lent.proofs.SoundLoads.{sound-loads, load_inside}
use Rattle.lent.proofs.SoundTables.{Words, sound-fits as tables-fit}
use Rattle.protocol.specs.Network.{Network}
use Rattle.protocol.proofs.SoundStep.{sound-fits}
use Rattle.protocol.proofs.Soundness.{Fits}
use Rattle.refusal.specs.Outcome.{put_front, put_checked}
use Rattle.tables.specs.Cell.{message_words}
use Rattle.tables.specs.Load.{load, tables_of}
use Rattle.tables.specs.Records.{records_of}
use Rattle.tables.specs.Tables.{Tables}
use Rattle.tables.specs.inner.Fit.{Sized, TablesFit}
use Rattle.tables.proofs.RecordsLaws.{Agree, network-shaped, made-sized, tables-tell}
use Rattle.tables.proofs.TablesLaws.{tables-back}
use Rattle.image_snapshot.specs.Restore.{restore_on}
use Rattle.image_snapshot.specs.Save.{save_on}
use Rattle.image.specs.Widths.{header_length, depth_width}
use Rattle.image_snapshot.proofs.AcceptedLaws.{HeaderGood, ExaminedGood, restore-good}

-- ---- an image that was accepted, of n nodes by its header

module _ (xs : List ℕ) (bytes : Below 256 xs) (head : HeaderGood xs) (good : ExaminedGood (field xs 16 5) (unpacked xs)) where
  size : Sized (field xs 16 5) (tables_in header_length depth_width (field xs 16 5) (unpacked xs))
  unfolding tables_in
  size = made-sized (field xs 16 5) _ (records-shaped header_length depth_width (field xs 16 5) (unpacked xs)) head.low head.few

  -- the tables pass the check
  passes : (check_on (field xs 16 5) (tables_in header_length depth_width (field xs 16 5) (unpacked xs))).number ≡ 0
  passes = rw (← check-pairs (field xs 16 5) (tables_in header_length depth_width (field xs 16 5) (unpacked xs)) (is-sized _ _ size)) good.no-fault

  words : Words (tables_in header_length depth_width (field xs 16 5) (unpacked xs))
  words = records-words header_length depth_width (field xs 16 5) (unpacked xs) (below-unpacked xs) (omega arith)

  tables-fit-is : TablesFit (field xs 16 5) (tables_in header_length depth_width (field xs 16 5) (unpacked xs))
  tables-fit-is = tables-fit _ _ words passes

  p : Network
  p = load (field xs 16 5) (tables_in header_length depth_width (field xs 16 5) (unpacked xs))

  fits : Fits (field xs 16 5) p
  unfolding p
  fits = sound-fits _ _ (load_inside _ _ tables-fit-is) (sound-loads _ _ words passes)

  agree : Agree (field xs 16 5) (records_of (field xs 16 5) p) (records_in header_length depth_width (field xs 16 5) (unpacked xs))
  unfolding tables_in tables_of p
  agree =
      tables-tell (field xs 16 5) (records_of (field xs 16 5) p) (records_in header_length depth_width (field xs 16 5) (unpacked xs))
      (network-shaped _ p) (records-shaped header_length depth_width (field xs 16 5) (unpacked xs)) short (tables-back _ _ tables-fit-is)
    where
      short : (i j : ℕ) → i < field xs 16 5 → j < field xs 16 5 → length ((records_of (field xs 16 5) p).channel (suc i) (suc j)) ≤ 8
      short i j l m = unfold records_of in omega (arith, length-map (p.channel (suc i) (suc j)) message_words, fits.lengths (suc i) (suc j))

  accepted : Accepted 1 header_length depth_width (field xs 16 5) xs
  unfolding field field_in
  accepted = record {
    bytes = bytes;
    is-version = head.version;
    is-header = head.header;
    is-count = refl;
    spare = head.spare;
    inside = rw (← length-unpacked xs) good.walkable.inside;
    no_more = rw (← length-unpacked xs) good.no_more;
    long = omega (arith, head.long);
    pad = good.pad;
  }

  -- and their image is the bytes again
  image-again : image (field xs 16 5) (load (field xs 16 5) (tables_in header_length depth_width (field xs 16 5) (unpacked xs))) ≡ xs
  unfolding image p
  image-again =
      same-image (field xs 16 5) (records_of (field xs 16 5) p) (records_in header_length depth_width (field xs 16 5) (unpacked xs)) agree 16 1 32
      ∙ sym (image-of-read 1 header_length depth_width (field xs 16 5) (omega arith) (omega arith) (omega arith) xs accepted)

pub save-restored : (xs : List ℕ) → Below 256 xs → (t : Tables) → (restore_on xs t).said.number ≡ 0
    → (out : List ℕ) → save_on (field xs 16 5) (restore_on xs t).after out ≡ put_front xs out
unfolding save_on put_checked
save-restored xs bytes t zero out =
    let g = restore-good xs t zero in
    rw (g.after_is, passes xs bytes g.header g.contents, image-again xs bytes g.header g.contents)
