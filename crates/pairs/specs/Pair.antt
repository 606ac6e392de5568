-- What the lent tables hold for a pair u, v (document 01, "Returned numbers"): its words break no rule of "What a station holds" (`pair_sound`), and its
-- times make sense (`timely_in`; document 02, [3]).
-- The pair u, u has both sets, the own height and the unused cell (a clock may be any word); the pair u, v the view of v and channel u to v.
use Rattle.std.specs.Prelude.{ℕ, ◌+◌, ◌-◌, ◌*◌, Bool, cond, ◌&&◌, ◌||◌, List, eqb, leb, drop}
use Rattle.basics.specs.Functions.{all}
use Rattle.nodeset.specs.NodeSet.{member, within}
use Rattle.protocol.specs.Holds.{height_holds, message_holds, sets_hold}
use Rattle.protocol.specs.Network.{capacity}
use Rattle.protocol.specs.Times.{times_within, message_timely}
use Rattle.tables.specs.Cell.{count, slot, queue, all_zero}
use Rattle.tables.specs.Row.{clock_in, neighbors_in, forming_in, height_in}
use Rattle.tables.specs.Rows.{part}
use Rattle.height.specs.Words.{height_size}
use Rattle.tables.specs.Tables.{row_head}

-- the sets hold nodes 1 to n only, are disjoint and never hold u; the own height is one of u's; the cell u u is unused
unfoldable pub own_sound : ℕ → ℕ → List ℕ → List ℕ → Bool
own_sound n u row cell =
    within n (neighbors_in row) && within n (forming_in row) && sets_hold n u (member (neighbors_in row)) (member (forming_in row))
    && height_holds n u (height_in row u) && all_zero cell

-- the view of v: a height of v's where v is in N, else seven zero words
unfoldable pub view_sound : ℕ → ℕ → List ℕ → Bool
view_sound n v row = cond (member (neighbors_in row) v) (height_holds n v (height_in row v)) (all_zero (part (row_head + (v - 1) * height_size) height_size row))

-- at most 8 messages, none where the channel is down, each with a height of u's, and zero words after them
unfoldable pub channel_sound : ℕ → ℕ → ℕ → List ℕ → List ℕ → Bool
channel_sound n u v row cell =
    leb (count cell) capacity && (member (neighbors_in row) v || member (forming_in row) v || eqb (count cell) 0)
    && all (message_holds n u) (queue cell) && all_zero (drop (slot (count cell)) cell)

unfoldable pub pair_sound : ℕ → ℕ → ℕ → List ℕ → List ℕ → Bool
pair_sound n u v row cell = cond (eqb u v) (own_sound n u row cell) (view_sound n v row && channel_sound n u v row cell)

-- u's own height (v = u) or its view of v, within u's clock; on channel u to v no stamp above that clock, no time above its stamp
unfoldable pub timely_in : ℕ → List ℕ → List ℕ → Bool
timely_in v row cell = times_within (clock_in row) (height_in row v) && all (message_timely (clock_in row)) (queue cell)
