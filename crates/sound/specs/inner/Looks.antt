-- Looks at a network in lent tables.
use Rattle.std.specs.Prelude.{ℕ, length}
use Rattle.nodeset.specs.NodeSet.{set_of}
use Rattle.protocol.specs.Network.{up_to}
use Rattle.tables.specs.Load.{load}
use Rattle.tables.specs.Tables.{Tables}

-- who is up from u, as a set
unfoldable pub up_set : ℕ → Tables → ℕ → ℕ
up_set n t u = set_of n (up_to (load n t) u)

-- how many messages wait on u v
unfoldable pub waiting_on : ℕ → Tables → ℕ → ℕ → ℕ
waiting_on n t u v = length ((load n t).channel u v)
