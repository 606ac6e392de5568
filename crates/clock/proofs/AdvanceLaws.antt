-- The clock after an advance, by what the move answers.
use mathlib.Core.Path.{◌≡◌}
use Rattle.std.specs.Prelude.{Result, Ok, Err}
use Rattle.height.specs.Clock.{said_moved, clock_after}
use Rattle.height.specs.declared.Time.{Time}
use Rattle.refusal.specs.Outcome.{outcome}
use Rattle.refusal.specs.declared.Refusal.{Refusal}
use Rattle.refusal.proofs.RefusalLaws.{never-0}
use Rattle.clock.specs.Advance.{kept, advance_on}

module _ (t stamp : Time) {m : Result Time Refusal} (said : said_moved m ≡ clock_after t.0 stamp.0) where
  pub advance-to : (u : Time) → m ≡ Ok u → outcome (said_moved (Ok u)) u ≡ advance_on t stamp
  unfolding advance_on kept
  advance-to u e = rw (← said, e)

  pub advance-end : (r : Refusal) → m ≡ Err r → outcome (said_moved (Err r)) t ≡ advance_on t stamp
  unfolding advance_on kept
  advance-end r e = rw (← said, e, never-0 r)
