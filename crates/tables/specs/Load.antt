-- The network that the tables hold, and the tables of a network. Outside 1 to n a loaded network is as fresh.
-- Tables without a fault are `tables_of n` of what they load to, and a grown network is what its tables load to (proofs/Back.antt).
use Rattle.std.specs.Prelude.{ℕ, Bool, List}
use Rattle.height.specs.declared.Height.{Height}
use Rattle.nodeset.specs.NodeSet.{member}
use Rattle.protocol.specs.Network.{Message, Network, fresh, at_nodes, at_pairs}
use Rattle.tables.specs.Cell.{queue}
use Rattle.tables.specs.Records.{records_of, tables_from}
use Rattle.tables.specs.Row.{clock_in, neighbors_in, forming_in, height_in}
use Rattle.tables.specs.Tables.{Tables, node_of, channel_of}

abbrev pub clock_at : ℕ → Tables → ℕ → ℕ
clock_at n t u = clock_in (node_of n u t.nodes)

abbrev pub neighbors_at : ℕ → Tables → ℕ → ℕ → Bool
neighbors_at n t u = member (neighbors_in (node_of n u t.nodes))

abbrev pub forming_at : ℕ → Tables → ℕ → ℕ → Bool
forming_at n t u = member (forming_in (node_of n u t.nodes))

abbrev pub heights_at : ℕ → Tables → ℕ → ℕ → Height
heights_at n t u = height_in (node_of n u t.nodes)

abbrev pub messages_on : ℕ → Tables → ℕ → ℕ → List Message
messages_on n t u v = queue (channel_of n u v t.channels)

unfoldable pub load : ℕ → Tables → Network
load n t = record {
  clock = at_nodes n (clock_at n t) fresh.clock;
  neighbors = at_nodes n (neighbors_at n t) fresh.neighbors;
  forming = at_nodes n (forming_at n t) fresh.forming;
  height = at_nodes n (heights_at n t) fresh.height;
  channel = at_pairs n (messages_on n t) fresh.channel;
}

unfoldable pub tables_of : ℕ → Network → Tables
tables_of n p = tables_from n (records_of n p)
