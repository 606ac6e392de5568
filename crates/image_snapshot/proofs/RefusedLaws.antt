-- A refused call leaves every lent byte and word as it was: a save its bytes, a restore the tables, a look at one node the row.
use Prim.Native.Nat.{ℕ, ◌*◌}
use mathlib.Core.Bool.{cond}
use mathlib.Core.List.{List}
use mathlib.Core.Path.{◌≡◌}
use borrow.Author.Tests.{eqb-true}
use lib.Dec.{eqb, leb}
use lib.ListN.{length}
use Rattle.basics.proofs.Tests.{Choice, yes!, no!, choice}
use Rattle.bits.specs.Bits.{unpacked}
use Rattle.image.specs.Image.{image}
use Rattle.image.specs.Places.{node_place}
use Rattle.image_reader.specs.Record.{record_in}
use Rattle.image_reading.specs.Examine.{examined}
use Rattle.image_reading.specs.Header.{header_of}
use Rattle.image_reading.specs.declared.Fields.{Fields}
use Rattle.lent.specs.Check.{check_on}
use Rattle.protocol.specs.Network.{is_node}
use Rattle.refusal.specs.Outcome.{Answered, outcome, put_front, put_checked}
use Rattle.refusal.specs.Refusal.{why}
use Rattle.refusal.specs.declared.Why.{Why}
use Rattle.tables.specs.Load.{load}
use Rattle.tables.specs.Tables.{Tables, sized}
use Rattle.image_snapshot.specs.ReadNode.{node_placed, node_examined, node_sized, node_headed, read_node_on}
use Rattle.image_snapshot.specs.Restore.{restore_examined, restore_of, restore_headed, restore_on}
use Rattle.image.specs.Widths.{header_length, depth_width}
use Rattle.height.specs.Words.{height_size}
use Rattle.image_snapshot.specs.Save.{save_on}

-- ---- a save

put-kept : (b out : List ℕ) → ((put_front b out).said.why.number ≡ 0 → ⊥) → (put_front b out).after ≡ out
unfolding put_front
put-kept b out z = go (choice (leb (length b) (length out))) z
  where
    go : Choice (leb (length b) (length out)) → ((put_front b out).said.why.number ≡ 0 → ⊥) → (put_front b out).after ≡ out
    go (yes! e) z = absurd (z (rw e))
    go (no! e) z = rw e

pub save-kept : (n : ℕ) (t : Tables) (out : List ℕ) → ((save_on n t out).said.why.number ≡ 0 → ⊥) → (save_on n t out).after ≡ out
unfolding save_on put_checked
save-kept n t out z = go (choice (eqb (check_on n t).number 0)) z
  where
    go : Choice (eqb (check_on n t).number 0) → ((save_on n t out).said.why.number ≡ 0 → ⊥) → (save_on n t out).after ≡ out
    go (no! e) z = rw e
    go (yes! e) z = rw e (put-kept (image n (load n t)) out (λ q. z (rw e q)))

-- ---- a restore

module _ (t : Tables) (l : List ℕ) where
  kept_of : (m : ℕ) → ((restore_of m l t).said.number ≡ 0 → ⊥) → (restore_of m l t).after ≡ t
  unfolding restore_of restore_examined
  kept_of m = go (choice (sized m t)) (choice (eqb (examined header_length depth_width m l).number 0))
    where
      go : Choice (sized m t) → Choice (eqb (examined header_length depth_width m l).number 0)
          → ((cond (sized m t) (restore_examined m l t (examined header_length depth_width m l)) (outcome (why 1 0 0) t)).said.number ≡ 0 → ⊥)
          → (cond (sized m t) (restore_examined m l t (examined header_length depth_width m l)) (outcome (why 1 0 0) t)).after ≡ t
      go (no! e) f z = rw e
      go (yes! e) (no! f) z = rw (e, f)
      go (yes! e) (yes! f) z = absurd (z (rw e (eqb-true (examined header_length depth_width m l).number 0 f)))

  kept-headed : (h : Answered Fields) → ((restore_headed l t h).said.number ≡ 0 → ⊥) → (restore_headed l t h).after ≡ t
  unfolding restore_headed
  kept-headed h z = go (choice (eqb h.why.number 0)) z
    where
      go : Choice (eqb h.why.number 0) → ((restore_headed l t h).said.number ≡ 0 → ⊥) → (restore_headed l t h).after ≡ t
      go (no! e) z = rw e
      go (yes! e) z = rw e (kept_of h.value.n (λ q. z (rw e q)))

pub restore-kept : (xs : List ℕ) (t : Tables) → ((restore_on xs t).said.number ≡ 0 → ⊥) → (restore_on xs t).after ≡ t
unfolding restore_on
restore-kept xs t z = kept-headed t (unpacked xs) (header_of xs) z

-- ---- a look at one node

module _ (h n : ℕ) (l : List ℕ) (k place : ℕ) (row : List ℕ) where
  placed-kept : ((node_placed h n l k place row).said.why.number ≡ 0 → ⊥) → (node_placed h n l k place row).after ≡ row
  unfolding node_placed record_in
  placed-kept z = go (choice (is_node n k)) (choice (eqb place (node_place h 16 n k))) z
    where
      go : Choice (is_node n k) → Choice (eqb place (node_place h 16 n k))
          → ((node_placed h n l k place row).said.why.number ≡ 0 → ⊥) → (node_placed h n l k place row).after ≡ row
      go (no! e) q z = rw e
      go (yes! e) (no! q) z = rw (e, q)
      go (yes! e) (yes! q) z = absurd (z (rw (e, q)))

  examined-kept : (c : Why) → ((node_examined h n l k place row c).said.why.number ≡ 0 → ⊥) → (node_examined h n l k place row c).after ≡ row
  unfolding node_examined
  examined-kept c z = go (choice (eqb c.number 0)) z
    where
      go : Choice (eqb c.number 0) → ((node_examined h n l k place row c).said.why.number ≡ 0 → ⊥) → (node_examined h n l k place row c).after ≡ row
      go (no! e) z = rw e
      go (yes! e) z = rw e (placed-kept (λ q. z (rw e q)))

  sized-kept : ((node_sized h n l k place row).said.why.number ≡ 0 → ⊥) → (node_sized h n l k place row).after ≡ row
  unfolding node_sized
  sized-kept z = go (choice (eqb (length row) (n * height_size))) z
    where
      go : Choice (eqb (length row) (n * height_size)) → ((node_sized h n l k place row).said.why.number ≡ 0 → ⊥) → (node_sized h n l k place row).after ≡ row
      go (no! e) z = rw e
      go (yes! e) z = rw e (examined-kept (examined header_length depth_width n l) (λ q. z (rw e q)))

pub node_kept : (xs : List ℕ) (k place : ℕ) (row : List ℕ) → ((read_node_on xs k place row).said.why.number ≡ 0 → ⊥) → (read_node_on xs k place row).after ≡ row
unfolding read_node_on node_headed
node_kept xs k place row z = go (choice (eqb (header_of xs).why.number 0)) z
  where
    go : Choice (eqb (header_of xs).why.number 0) → ((read_node_on xs k place row).said.why.number ≡ 0 → ⊥) → (read_node_on xs k place row).after ≡ row
    go (no! e) z = rw e
    go (yes! e) z = rw e (sized-kept (header_of xs).value.length (header_of xs).value.n (unpacked xs) k place row (λ q. z (rw e q)))
