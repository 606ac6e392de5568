-- Groups computed by hand: links through a third node, a channel up one way only, no links at all, a chain of 16.
use Prim.Native.Nat.{ℕ, ◌+◌}
use mathlib.Core.Bool.{Bool, ◌&&◌, ◌||◌}
use mathlib.Core.Path.{◌≡◌, refl}
use lib.Dec.{eqb}
use Rattle.nodeset.specs.NodeSet.{member, set_of, same_node, apart, least_from, lowest}
use Rattle.groups.specs.Groups.{linked, reached, one_round, rounds, group_by, group_of}

-- up from a to b
abbrev one : ℕ → ℕ → ℕ → ℕ → Bool
one a b u v = eqb u a && eqb v b

-- of 5: 4 and 2 are linked, 2 and 5 are linked, 1 to 3 is up one way only
abbrev some : ℕ → ℕ → Bool
some u v = one 4 2 u v || one 2 4 u v || one 2 5 u v || one 5 2 u v || one 1 3 u v

four-two-five : group_of 5 some 5 ≡ 26
unfolding set_of rounds one_round reached linked member same_node apart group_by group_of
four-two-five = refl

one-alone : group_of 5 some 1 ≡ 1
unfolding set_of rounds one_round reached linked member same_node apart group_by group_of
one-alone = refl

its-lowest : lowest (group_of 5 some 4) ≡ 2
unfolding set_of rounds one_round reached linked member same_node apart group_by group_of lowest least_from
its-lowest = refl

-- each linked with the next
abbrev chain : ℕ → ℕ → Bool
chain u v = eqb (u + 1) v || eqb (v + 1) u

end_to_end : group_of 16 chain 16 ≡ 65535
unfolding set_of rounds one_round reached linked member same_node apart group_by group_of
end_to_end = refl
