-- Heights as keys of the order, and the height of a node that elects itself.
-- Document 01, "What a station holds": seven numbers in this order; a smaller pair is the more recent election.
use Rattle.std.specs.Prelude.{ℕ, List, [], ◌∷◌, ◌++◌, ℤ, pos, neg_ℤ}
use Rattle.height.specs.declared.Height.{Height}
use Rattle.height.specs.declared.LeaderPair.{LeaderPair}
use Rattle.height.specs.declared.ReferenceLevel.{ReferenceLevel}

-- the reference level: search time, originator, reflection bit
unfoldable pub level_key : ReferenceLevel → List ℤ
level_key l = pos l.tau.0 ∷ pos l.oid ∷ pos l.r ∷ []

-- the leader pair: negated election time, leader
unfoldable pub pair_key : LeaderPair → List ℤ
pair_key q = q.nlts.0 ∷ pos q.lid ∷ []

-- the height: level, depth, pair, node
unfoldable pub height_key : Height → List ℤ
height_key h = level_key h.level ++ (h.delta ∷ (pair_key h.pair ++ (pos h.id ∷ [])))

abbrev pub zero_level : ReferenceLevel
zero_level = record { tau = record { 0 = 0 }; oid = 0; r = 0 }

-- the view of a node that is not in N
abbrev pub zero_height : Height
zero_height = record { level = zero_level; delta = pos 0; pair = record { nlts = record { 0 = pos 0 }; lid = 0 }; id = 0 }

-- (0, 0, 0, 0, −t, u, u): node u elects itself at the clock t
abbrev pub self_elected : ℕ → ℕ → Height
self_elected t u = record { level = zero_level; delta = pos 0; pair = record { nlts = record { 0 = neg_ℤ (pos t) }; lid = u }; id = u }
