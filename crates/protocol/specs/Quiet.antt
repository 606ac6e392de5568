-- Quiet, read off the network: no message waits, and each channel is up exactly when the one back is (document 01, "Lists of calls").
-- The same as by the history (crate `calls`, proofs/Leaders.antt).
use Rattle.std.specs.Prelude.{ℕ, Bool, ◌&&◌}
use Rattle.std.specs.Bool.{beq}
use Rattle.basics.specs.Functions.{every_pair}
use Rattle.protocol.specs.Holds.{is_empty}
use Rattle.protocol.specs.Network.{Network, up_to}

unfoldable pub pair_quiet : Network → ℕ → ℕ → Bool
pair_quiet p u v = is_empty (p.channel u v) && beq (up_to p u v) (up_to p v u)

unfoldable pub quiet : ℕ → Network → Bool
quiet n p = every_pair n (pair_quiet p)
