-- Groups of linked nodes as sets, by rounds: document 01, "What a station holds" (stations linked, groups, collectors).
-- A group is what is `Joined` (crate `calls`, Component), no more and no less: proofs/Partition.antt.
use Rattle.std.specs.Prelude.{ℕ, zero, suc, Bool, not, cond, ◌&&◌, ◌||◌, eqb}
use Rattle.std.specs.Int.Count.{ones}
use Rattle.height.specs.declared.Height.{Height}
use Rattle.nodeset.specs.NodeSet.{member, set_of, same_node, apart, lowest}

-- up both ways
unfoldable pub linked : (ℕ → ℕ → Bool) → ℕ → ℕ → Bool
linked ups u v = ups u v && ups v u

-- w is in s, or linked with a node of s
unfoldable pub reached : ℕ → (ℕ → ℕ → Bool) → ℕ → ℕ → Bool
reached n links s w = member s w || not (apart n (member s) (links w))

-- s and all nodes linked with a node of s
unfoldable pub one_round : ℕ → (ℕ → ℕ → Bool) → ℕ → ℕ
one_round n links s = set_of n (reached n links s)

unfoldable pub rounds : ℕ → ℕ → (ℕ → ℕ → Bool) → ℕ → ℕ
rounds zero n links s = s
rounds (suc k) n links s = rounds k n links (one_round n links s)

-- n rounds from u alone
unfoldable pub group_by : ℕ → (ℕ → ℕ → Bool) → ℕ → ℕ
group_by n links u = rounds n n links (set_of n (same_node u))

-- u's group as a set
unfoldable pub group_of : ℕ → (ℕ → ℕ → Bool) → ℕ → ℕ
group_of n ups u = group_by n (linked ups) u

-- u is the lowest member of its group
unfoldable pub is_head : ℕ → (ℕ → ℕ → Bool) → ℕ → Bool
is_head n ups u = eqb (lowest (group_of n ups u)) u

-- the lowest members of all groups, one for each
unfoldable pub heads_of : ℕ → (ℕ → ℕ → Bool) → ℕ
heads_of n ups = set_of n (is_head n ups)

-- w is in s, and a collector: its own height's leader is itself
unfoldable pub collects : (ℕ → Height) → ℕ → ℕ → Bool
collects own s w = member s w && eqb (own w).pair.lid w

-- the collectors in a set
unfoldable pub collectors_in : ℕ → (ℕ → Height) → ℕ → ℕ
collectors_in n own s = set_of n (collects own s)

-- the one node of a set; 0 where there is none, or more than one
unfoldable pub the_one : ℕ → ℕ
the_one s = cond (eqb (ones s) 1) (lowest s) 0
