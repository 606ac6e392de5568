-- What a save of checked tables needs: tables of 32-bit words fit.
use Prim.Native.Nat.{ℕ, ◌<◌}
use mathlib.Core.Path.{◌≡◌}
use lib.ListN.{get_or}
use Rattle.lent.specs.Check.{check_on}
use Rattle.lent.proofs.SoundTables.{sound-fits}
use Rattle.tables.specs.Tables.{Tables}
use Rattle.tables.specs.inner.Fit.{TablesFit}

pub fits : (n : ℕ) (t : Tables) → (check_on n t).number ≡ 0 → ((i : ℕ) → get_or t.nodes i 0 < 4294967296)
    → ((i : ℕ) → get_or t.channels i 0 < 4294967296) → TablesFit n t
fits n t sound nodes channels = sound-fits n t (record { nodes = nodes; channels = channels }) sound
