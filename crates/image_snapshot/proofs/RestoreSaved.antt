-- Restoring what was saved gives the tables back, for all tables that pass the check; the tables restored into may hold anything.
-- Assumes 1 to 16 nodes, and words of 32 bits.
use Prim.Native.Nat.{ℕ, ◌≤◌}
use mathlib.Core.Bool.{true}
use mathlib.Core.Path.{◌≡◌, ap, ◌∙◌}
use Rattle.image.specs.Image.{image}
use Rattle.lent.specs.Check.{check_on}
use Rattle.lent.proofs.CheckLaws.{sound-sized}
use Rattle.lent.proofs.SoundLoads.{sound-loads, timely-loads, load_inside}
use Rattle.lent.proofs.SoundTables.{Words, sound-fits}
use Rattle.protocol.specs.Holds.{sound}
use Rattle.protocol.specs.Network.{Network, restrict}
use Rattle.protocol.specs.Times.{timely}
use Rattle.refusal.specs.Outcome.{outcome}
use Rattle.refusal.specs.Refusal.{why}
use Rattle.tables.specs.Load.{load, tables_of}
use Rattle.tables.specs.Tables.{Tables, sized}
use Rattle.tables.proofs.TablesLaws.{tables-back}
use Rattle.image_snapshot.specs.Restore.{restore_examined, restore_of, restore_headed, restore_on}
use Rattle.image_snapshot.proofs.ImageLaws.{image-header, image-tables, image-examined}

pub restore-image : (n : ℕ) → 1 ≤ n → n ≤ 16 → (p : Network) → sound n p ≡ true → restrict n p ≡ p → timely n p ≡ true
    → (t : Tables) → sized n t ≡ true
    → restore_on (image n p) t ≡ outcome (why 0 0 0) (tables_of n p)
unfolding restore_on restore_headed restore_of restore_examined
restore-image n low few p holds inside times t fit =
    rw (image-header n low few p holds inside, fit, image-examined n low few p holds inside times, image-tables n low few p holds inside)

pub restore-saved : (n : ℕ) (t : Tables) → Words t → (check_on n t).number ≡ 0 → (u : Tables) → sized n u ≡ true
    → restore_on (image n (load n t)) u ≡ outcome (why 0 0 0) t
restore-saved n t words passes u fit =
    let size = sound-sized n t passes in
    let whole = sound-fits n t words passes in
    restore-image n size.low size.few (load n t) (sound-loads n t words passes) (load_inside n t whole) (timely-loads n t words passes) u fit
    ∙ ap (outcome (why 0 0 0)) (tables-back n t whole)
