-- The count is the n to lend tables for: of what a save wrote it is that save's n, and a restore accepts tables of no other n.
-- Assumes words of 32 bits.
use Prim.Native.Nat.{ℕ}
use mathlib.Core.Bool.{true}
use mathlib.Core.List.{List}
use mathlib.Core.Path.{◌≡◌, sym, ap, ◌∙◌}
use Rattle.bits.specs.Bits.{field}
use Rattle.image.specs.Image.{image}
use Rattle.image_reading.specs.Header.{header_of}
use Rattle.lent.specs.Check.{check_on}
use Rattle.lent.proofs.CheckLaws.{sound-sized}
use Rattle.lent.proofs.SoundLoads.{sound-loads, load_inside}
use Rattle.lent.proofs.SoundTables.{Words, sound-fits}
use Rattle.protocol.specs.Network.{Node}
use Rattle.refusal.specs.Outcome.{Answered, accepted}
use Rattle.tables.specs.Load.{load}
use Rattle.tables.specs.Tables.{Tables, sized}
use Rattle.image_snapshot.specs.Count.{count_headed, count_on}
use Rattle.image_snapshot.specs.Restore.{restore_on}
use Rattle.image_snapshot.proofs.AcceptedLaws.{header-good, restore-good}
use Rattle.image_snapshot.proofs.ImageLaws.{image-header}

pub count-saved : (n : ℕ) (t : Tables) → Words t → (check_on n t).number ≡ 0 → count_on (image n (load n t)) ≡ accepted n
unfolding count_on
count-saved n t words passes =
    let size = sound-sized n t passes in
    let whole = sound-fits n t words passes in
    ap count_headed (image-header n size.low size.few (load n t) (sound-loads n t words passes) (load_inside n t whole))

-- a count that is answered is one of 1 to 16
pub count-within : (xs : List ℕ) → (count_on xs).why.number ≡ 0 → Node 16 (count_on xs).value
unfolding count_on
count-within xs zero =
    let good = header-good xs zero in
    rw good.is (record { low = good.low; high = good.few })

pub count-restored : (xs : List ℕ) (t : Tables) → (restore_on xs t).said.number ≡ 0
    → (count_on xs ≡ accepted (count_on xs).value) × (sized (count_on xs).value t ≡ true)
unfolding count_on
count-restored xs t zero =
    let good = restore-good xs t zero in
    let same : count_headed (header_of xs) ≡ accepted (field xs 16 5) = ap count_headed good.header.is in
    (same ∙ ap (λ (s : Answered ℕ). accepted s.value) (sym same), rw same good.fit)
