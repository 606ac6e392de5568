-- A height given in C, field by field from the seven words of a table, is the height that the tables hold there.
use Prim.Native.Nat.{ℕ, ◌+◌}
use mathlib.Core.List.{List}
use mathlib.Core.Path.{◌≡◌, refl}
use lib.ListN.{get_or}
use Rattle.height.specs.Words.{delta_of, height_at}
use Rattle.abi.specs.Report.{height_given}

pub given-words : (ws : List ℕ) (i : ℕ)
    → height_given
    record {
      search_time = get_or ws i 0;
      originator = get_or ws (i + 1) 0;
      bit = get_or ws (i + 2) 0;
      depth = delta_of (get_or ws (i + 3) 0);
      election_time = get_or ws (i + 4) 0;
      leader = get_or ws (i + 5) 0;
      station = get_or ws (i + 6) 0;
    }
    ≡ height_at ws i
unfolding height_at
given-words ws i = refl
