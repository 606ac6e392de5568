-- Document 01's marked cases a to i, one table, and the rows of `readings`, proved by computing them: each start network is sound
-- with its times within its clocks, and rules, sets sent to, clocks and own heights come out as the tables say. And times at their limits.
use mathlib.Core.Bool.{true}
use mathlib.Core.List.{map}
use mathlib.Core.Path.{◌≡◌, refl}
use Rattle.basics.specs.Functions.{every, every_pair, all, update}
use Rattle.height.specs.Height.{level_key, pair_key, height_key}
use Rattle.height.specs.Order.{before, same}
use Rattle.nodeset.specs.NodeSet.{set_of}
use Rattle.protocol.specs.Cases.{Case, cases, readings, Limit, limits, outcome_of}
use Rattle.protocol.specs.Holds.{level_holds, delta_holds, leader_pair_holds, height_holds, message_holds, not_in_both}
use Rattle.protocol.specs.Holds.{sets_hold, own_holds, view_holds, channel_holds, pair_holds, sound}
use Rattle.protocol.specs.Quiet.{pair_quiet, quiet}
use Rattle.protocol.specs.Refusal.{misnamed, late, has_room, crowded, returned, accepts, answer, next}
use Rattle.protocol.specs.Rules.{absent, down_rule, larger, largest, deltas, of_level, one_level_rule, equal_pairs_rule, receipt_rule}
use Rattle.protocol.specs.Sink.{above, sink}
use Rattle.protocol.specs.Step.{carried, local_up, local_down, local_ignored, local_taken, post, commit, step}
use Rattle.protocol.specs.Times.{times_within, message_timely, pair_timely, timely}

pub cases-hold : (map outcome_of cases ≡ map (λ (c : Case). c.expected) cases) × (map outcome_of readings ≡ map (λ (c : Case). c.expected) readings)
unfolding before same level_key pair_key height_key set_of every every_pair all update level_holds delta_holds leader_pair_holds height_holds message_holds not_in_both
    sets_hold own_holds view_holds channel_holds pair_holds sound times_within message_timely pair_timely timely above
    sink absent down_rule larger largest deltas of_level one_level_rule equal_pairs_rule receipt_rule carried local_up local_down local_ignored
    local_taken post commit step misnamed late has_room crowded returned accepts answer next pair_quiet quiet
cases-hold = (refl, refl)

-- each kind of time at its limit makes sense, and one beyond it does not, though no rule is broken
pub limits-hold : (map (λ (l : Limit). timely 2 l.network) limits ≡ map (λ (l : Limit). l.in_time) limits)
    × (map (λ (l : Limit). sound 2 l.network) limits ≡ map (λ (l : Limit). true) limits)
unfolding before same height_key level_key pair_key every every_pair all update level_holds delta_holds leader_pair_holds height_holds message_holds not_in_both sets_hold
    own_holds view_holds channel_holds pair_holds sound times_within message_timely pair_timely timely
limits-hold = (refl, refl)
