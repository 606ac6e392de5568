-- A height as the seven words of a lent table: tau, oid, r, delta, election time without its sign, lid, id.
-- Every word decodes to a number, so loading is total; zero words are the all-zero height.
use Rattle.std.specs.Prelude.{ℕ, ◌+◌, ◌-◌, cond, List, [], ◌∷◌, get_or, ltb, ℤ, pos, negsuc, neg_ℤ, nat_abs}
use Rattle.height.specs.declared.Height.{Height}
use Rattle.height.specs.declared.LeaderPair.{LeaderPair}

-- a word of 32 bits as two's complement, and back
unfoldable pub delta_of : ℕ → ℤ
delta_of w = cond (ltb w 2147483648) (pos w) (negsuc (4294967295 - w))

unfoldable pub delta_word : ℤ → ℕ
delta_word (pos n) = n
delta_word (negsuc n) = 4294967295 - n

-- the leader pair of an election time without its sign, and a leader
abbrev pub leader_pair_of : ℕ → ℕ → LeaderPair
leader_pair_of elected lid = record { nlts = record { 0 = neg_ℤ (pos elected) }; lid = lid }

-- a height's words, and how many
abbrev pub height_size : ℕ
height_size = 7

unfoldable pub height_words : Height → List ℕ
height_words h =
    h.level.tau.0 ∷ h.level.oid ∷ h.level.r ∷ delta_word h.delta
    ∷ nat_abs h.pair.nlts.0 ∷ h.pair.lid ∷ h.id ∷ []

-- the height whose words stand from index i
unfoldable pub height_at : List ℕ → ℕ → Height
height_at ws i =
    record {
      level = record { tau = record { 0 = get_or ws i 0 }; oid = get_or ws (i + 1) 0; r = get_or ws (i + 2) 0 };
      delta = delta_of (get_or ws (i + 3) 0);
      pair = leader_pair_of (get_or ws (i + 4) 0) (get_or ws (i + 5) 0);
      id = get_or ws (i + 6) 0;
    }
