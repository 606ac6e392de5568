-- An accepted call leaves tables that pass the check, whatever tables that pass it was handed: neither 2 nor 18 comes after it.
-- Assumes that every word is one of 32 bits (`Words`).
use Prim.Native.Nat.{ℕ}
use mathlib.Core.Path.{◌≡◌, ap, ◌∙◌}
use Rattle.lent.specs.Check.{check_on}
use Rattle.lent.proofs.SoundLoads.{sound-loads, timely-loads, load_inside}
use Rattle.lent.proofs.SoundNetworks.{sound-check}
use Rattle.lent.proofs.CheckLaws.{sound-sized}
use Rattle.lent.proofs.SoundTables.{Words, sound-fits as tables-fit}
use Rattle.protocol.specs.Refusal.{next}
use Rattle.protocol.specs.Step.{Event}
use Rattle.protocol.proofs.Holding.{sound-holds, timely-holds}
use Rattle.protocol.proofs.SoundStep.{sound-fits, fits_next}
use Rattle.protocol.proofs.Soundness.{Fits}
use Rattle.protocol.proofs.TimelyStep.{timely-timed, timed-next}
use Rattle.refusal.specs.Refusal.{why}
use Rattle.tables.specs.Load.{load}
use Rattle.tables.specs.Tables.{Tables}
use Rattle.tables.proofs.Back.{storable}
use Rattle.election.specs.StepOn.{step_on}
use Rattle.election.proofs.CallerLaws.{Carried, carried-out}

module _ (n : ℕ) (e : Event) (t : Tables) (words : Words t) where
  loaded-fits : Carried n e t words → Fits n (load n t)
  loaded-fits c = sound-fits n (load n t) (load_inside n t (tables-fit n t words c.passes)) (sound-loads n t words c.passes)

  pub accepted-passes : (step_on n e t).said.why.number ≡ 0 → check_on n (step_on n e t).after ≡ why 0 0 0
  accepted-passes zero! =
      let c = carried-out n e t words zero! in
      let fits = fits_next n (load n t) e (loaded-fits c) in
      let timed = timed-next n (load n t) e (loaded-fits c) (timely-timed n (load n t) (loaded-fits c) (timely-loads n t words c.passes)) in
      let q = next n (load n t) e in
      let size = sound-sized n t c.passes in
      ap (check_on n) c.after_is ∙ sound-check n q (storable n q fits) (sound-holds n q fits) (timely-holds n q timed) size.low size.few
