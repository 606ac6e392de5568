-- A list of calls with an accepted restore of an older save behind a younger one, on the tables of two nodes: allowed, computed call by call
-- from the contracts' definitions, and quiet at its end. So the hypotheses of demand 3, (b) and (c) among them, have inhabitants; and those of causal clocks.
use Prim.Native.Nat.{ℕ, ◌<◌}
use native.Mathlib.Omega.{arith}
use mathlib.Core.Bool.{true}
use mathlib.Core.List.{List, [], ◌∷◌, ◌++◌, map}
use mathlib.Core.Path.{◌≡◌, refl, ap}
use lib.ListN.{set, replicate}
use Rattle.basics.specs.Functions.{every, every_pair, all, update}
use Rattle.bits.specs.Bits.{bits, number, unpacked, packed, field, total, spread, gathered}
use Rattle.calls.specs.Component.{Quiescent, OneLeader}
use Rattle.calls.specs.History.{Entry, entry, up_in, waiting}
use Rattle.calls.specs.Run.{Call, event, save, restore, Saved, start_of_run}
use Rattle.election.specs.StepOn.{step_at, step_checked, step_on}
use Rattle.groups.specs.Group.{group_named, group_on}
use Rattle.groups.specs.Groups.{linked, reached, one_round, rounds, group_by, group_of, is_head, heads_of, collects, collectors_in}
use Rattle.groups.specs.Heads.{heads_on}
use Rattle.groups.specs.Quiet.{quiet_on}
use Rattle.height.specs.Height.{zero_level, level_key, pair_key, height_key}
use Rattle.height.specs.Order.{before, same}
use Rattle.height.specs.Words.{delta_of, delta_word, height_words, height_at}
use Rattle.image.specs.Image.{header_bits, node_bits, message_bits, channel_bits, channels_bits, network_bits, padded, bytes_of, image_of, image}
use Rattle.image.specs.Places.{channels_next, channels_place, channels_from_place, channel_place, records_in, tables_in}
use Rattle.image.specs.inner.Parts.{image_end}
use Rattle.image.specs.Places.{field_in, node_place, height_from, messages_of, channel_from, walked, channel_next}
use Rattle.image.specs.Widths.{field_place, record_bits, extended_of, record_of, height_width, message_width, node_width}
use Rattle.image_reading.specs.Examine.{after_walk, examined}
use Rattle.image_reading.specs.Header.{header_holds, header_of}
use Rattle.image_reading.specs.Walk.{channel_step, onward, steps, channels_from_walk, channels_walk, walk, ends_at}
use Rattle.image_snapshot.specs.Restore.{restore_examined, restore_of, restore_headed, restore_on}
use Rattle.image_snapshot.specs.Save.{save_on}
use Rattle.lent.specs.Check.{pair_at, fault_in_row, fault_from, first_fault, check_on, first_untimely, contents_on, timely_at}
use Rattle.nodeset.specs.NodeSet.{member, set_of, within, same_node, apart, least_from, lowest}
use Rattle.pairs.specs.Pair.{own_sound, view_sound, channel_sound, pair_sound, timely_in}
use Rattle.protocol.specs.Answer.{Said, carried_out, said_refused}
use Rattle.protocol.specs.Holds.{level_holds, delta_holds, leader_pair_holds, height_holds, message_holds, not_in_both, sets_hold}
use Rattle.protocol.specs.Network.{Node, own}
use Rattle.protocol.specs.Quiet.{pair_quiet, quiet}
use Rattle.protocol.specs.Refusal.{misnamed, late, has_room, crowded, returned, accepts, answer, next}
use Rattle.protocol.specs.Rules.{absent, down_rule, larger, largest, deltas, of_level, one_level_rule, equal_pairs_rule, receipt_rule}
use Rattle.protocol.specs.Sink.{above, sink}
use Rattle.protocol.specs.Step.{up, down, receive, carried, local_up, local_down, local_ignored, local_taken, post, commit, step}
use Rattle.protocol.specs.Times.{times_within, message_timely}
use Rattle.refusal.specs.Outcome.{accepted, outcome, put_front, refused_with, put_checked}
use Rattle.refusal.specs.Refusal.{why}
use Rattle.tables.specs.Cell.{message_at, messages_at, queue, all_zero, message_words}
use Rattle.tables.specs.Load.{load, tables_of}
use Rattle.tables.specs.Records.{records_of, row_words, slot_words, cell_words, tables_from}
use Rattle.tables.specs.Row.{height_in}
use Rattle.tables.specs.Rows.{row_at, rows}
use Rattle.tables.specs.Tables.{Tables, sized}
use Rattle.runs.specs.OnTables.{tables_after, put_out, on_tables, fresh_tables, after, Allowed}
use Rattle.runs.specs.inner.Replies.{Reply, to_event, to_save, to_restore, reply, replies}
use Rattle.runs.proofs.AllowedLists.{refused-allowed}
use Rattle.runs.proofs.CausalRuns.{AcceptedAt, clock_left, SentByCall, CausalCalls, causal-calls}
use Rattle.runs.proofs.Demand3.{tables_at, network_at, history_after, Resumed, Demand3, demand-3}
use Rattle.runs.proofs.Desk.{CollectorSaid, desk}
use Rattle.runs.proofs.Lists.{fair-append, plain-fair}
use Rattle.runs.proofs.ReadOff.{quiet-by-history}
use Rattle.runs.proofs.SavedComesBack.{ComesBack, saved-comes-back}

-- ---- the calls

-- U 1 2, U 2 1, M 1 2: node 2 adopts 1, and two of its messages wait
abbrev pub meet : List Call
meet = event 2 (up 1 2) ∷ event 2 (up 2 1) ∷ event 2 (receive 1 2) ∷ []

-- M 2 1, M 2 1, M 1 2: quiet, 1 leads
abbrev pub settle : List Call
settle = event 2 (receive 2 1) ∷ event 2 (receive 2 1) ∷ event 2 (receive 1 2) ∷ []

-- both ends go down; then a down that is refused, an event said to be of three nodes, and a save without room
abbrev pub separate : List Call
separate = event 2 (down 1 2) ∷ event 2 (down 2 1) ∷ event 2 (down 2 1) ∷ event 3 (up 1 2) ∷ save 2 [] ∷ []

-- 120 lent bytes
abbrev pub room : List ℕ
room = replicate 120 0

-- what the two saves write: 101 and 69 bytes
abbrev pub older : List ℕ
older =
    16 ∷ 32 ∷ 16 ∷ 0 ∷ 0 ∷ 0 ∷ 0 ∷ 1 ∷ 0 ∷ 0 ∷ 0 ∷ 2 ∷ 0 ∷ 0 ∷ 0 ∷ 0 ∷ 0 ∷ 0 ∷ 0 ∷ 0 ∷ 0 ∷ 0 ∷ 0 ∷ 33 ∷ 0 ∷ 0 ∷ 0 ∷
    0 ∷ 0 ∷ 0 ∷ 0 ∷ 0 ∷ 0 ∷ 0 ∷ 0 ∷ 0 ∷ 0 ∷ 0 ∷ 0 ∷ 2 ∷ 0 ∷ 1 ∷ 0 ∷ 0 ∷ 0 ∷ 0 ∷ 0 ∷ 0 ∷ 0 ∷ 0 ∷ 0 ∷ 0 ∷ 0 ∷ 0 ∷ 0 ∷
    33 ∷ 0 ∷ 0 ∷ 0 ∷ 0 ∷ 0 ∷ 0 ∷ 4 ∷ 0 ∷ 0 ∷ 0 ∷ 0 ∷ 34 ∷ 2 ∷ 0 ∷ 0 ∷ 0 ∷ 0 ∷ 0 ∷ 0 ∷ 0 ∷ 0 ∷ 0 ∷ 0 ∷ 0 ∷ 66 ∷ 0 ∷
    0 ∷ 0 ∷ 1 ∷ 0 ∷ 0 ∷ 0 ∷ 0 ∷ 0 ∷ 0 ∷ 4 ∷ 0 ∷ 0 ∷ 0 ∷ 0 ∷ 34 ∷ 0 ∷ 0 ∷ 0 ∷ 2 ∷ []

abbrev pub younger : List ℕ
younger =
    16 ∷ 32 ∷ 16 ∷ 0 ∷ 0 ∷ 0 ∷ 0 ∷ 3 ∷ 0 ∷ 2 ∷ 0 ∷ 0 ∷ 0 ∷ 0 ∷ 0 ∷ 0 ∷ 0 ∷ 0 ∷ 0 ∷ 0 ∷ 0 ∷ 0 ∷ 0 ∷ 33 ∷ 0 ∷ 0 ∷ 0 ∷
    0 ∷ 0 ∷ 0 ∷ 4 ∷ 0 ∷ 0 ∷ 0 ∷ 0 ∷ 34 ∷ 0 ∷ 0 ∷ 0 ∷ 3 ∷ 0 ∷ 1 ∷ 0 ∷ 0 ∷ 0 ∷ 0 ∷ 0 ∷ 0 ∷ 0 ∷ 0 ∷ 0 ∷ 0 ∷ 0 ∷ 0 ∷ 0 ∷
    33 ∷ 0 ∷ 0 ∷ 0 ∷ 0 ∷ 0 ∷ 0 ∷ 4 ∷ 0 ∷ 0 ∷ 0 ∷ 0 ∷ 34 ∷ 0 ∷ []

-- the older image with node 1 in its own N
abbrev pub damaged : List ℕ
damaged = set older 9 1

-- up to the younger save and the end of the links; then no image at all and a damaged one, both refused
abbrev pub first : List Call
first = meet ++ (save 2 room ∷ (settle ++ (save 2 room ∷ separate)))

abbrev pub behind : List Call
behind = first ++ (restore [] ∷ restore damaged ∷ [])

-- then the older save, and on from there
abbrev pub calls : List Call
calls = behind ++ (restore older ∷ settle)

-- another list: two saves of the same bytes behind U 1 2 and U 2 1 in either order; then an event, and these bytes are restored
abbrev pub blank : List ℕ
blank = put_out (save_on 2 (fresh_tables 2) room)

abbrev pub both : List ℕ
both = put_out (save_on 2 (tables_at 2 (event 2 (up 1 2) ∷ event 2 (up 2 1) ∷ [])) room)

abbrev pub twice : List Call
twice =
    save 2 room ∷ event 2 (up 1 2) ∷ event 2 (up 2 1) ∷ save 2 room ∷ restore blank ∷ event 2 (up 2 1) ∷ event 2 (up 1 2) ∷ save 2 room
    ∷ event 2 (receive 1 2) ∷ restore both ∷ []

-- a third list: U 1 2 alone
abbrev pub passing : List Call
passing = event 2 (up 1 2) ∷ []

-- ---- what they answer

abbrev pub meeting : List Reply
meeting = to_event (carried_out 85 2 0 zero_level) ∷ to_event (carried_out 85 1 0 zero_level) ∷ to_event (carried_out 65 1 1 zero_level) ∷ []

abbrev pub settling : List Reply
settling = to_event (carried_out 82 2 0 zero_level) ∷ to_event (carried_out 81 0 0 zero_level) ∷ to_event (carried_out 81 0 0 zero_level) ∷ []

abbrev pub separating : List Reply
separating =
    to_event (carried_out 69 0 0 zero_level) ∷ to_event (carried_out 69 0 0 zero_level) ∷ to_event (said_refused (why 5 0 0))
    ∷ to_event (said_refused (why 1 0 0)) ∷ to_save (outcome (refused_with 0 (why 14 0 0)) []) ∷ []

abbrev pub answers : List Reply
answers =
    meeting ++ (to_save (outcome (accepted 101) (older ++ replicate 19 0))
    ∷ (settling ++ (to_save (outcome (accepted 69) (younger ++ replicate 51 0))
    ∷ (separating ++ (to_restore (why 10 0 0) ∷ to_restore (why 2 1 1) ∷ to_restore (why 0 0 0) ∷ settling)))))

-- ---- what is shown

-- computed from the definitions of the contracts, call by call
pub record Computed : Type 0 where
  pub answered : replies (fresh_tables 2) calls ≡ answers
  -- the accepted saves, newest first; the older put these bytes out
  pub saves-are : map (λ (s : Saved Tables). s.bytes) (after 2 behind).saves ≡ younger ∷ older ∷ []
  pub put-out : put_out (save_on 2 (tables_at 2 meet) room) ≡ older
  pub save-accepted : (save_on 2 (tables_at 2 meet) room).said.why.number ≡ 0
  pub no-image : (restore_on [] (tables_at 2 first)).said.number ≡ 10
  pub at-fault : (restore_on damaged (tables_at 2 (first ++ (restore [] ∷ [])))).said.number ≡ 2
  -- the accepted events, newest first, each with what was said and its node's clock; those behind the older save are gone
  pub history-is : history_after 2 calls
      ≡ entry (receive 1 2) (carried_out 81 0 0 zero_level) 3 ∷ entry (receive 2 1) (carried_out 81 0 0 zero_level) 3
      ∷ entry (receive 2 1) (carried_out 82 2 0 zero_level) 2 ∷ entry (receive 1 2) (carried_out 65 1 1 zero_level) 2
      ∷ entry (up 2 1) (carried_out 85 1 0 zero_level) 1 ∷ entry (up 1 2) (carried_out 85 2 0 zero_level) 1 ∷ []
  -- of the two saves that wrote the same bytes the last one counts
  pub last-counts : map (λ (e : Entry). e.event) (history_after 2 twice) ≡ up 1 2 ∷ up 2 1 ∷ []
  -- at the end it is the network of the younger save again, and quiet
  pub ends-as-younger : put_out (save_on 2 (tables_at 2 calls) room) ≡ younger
  pub ends-quiet : quiet 2 (network_at 2 calls) ≡ true
  -- what the desk is told at the end; with two messages on their way behind the first calls; and when both nodes are alone again
  pub quiet-said : quiet_on 2 (tables_at 2 calls) ≡ accepted 1
  pub group-said : group_on 2 2 (tables_at 2 calls) ≡ accepted (record { members = 3; collectors = 1 })
  pub one-group : heads_on 2 (tables_at 2 calls) ≡ accepted 1
  pub not_yet : quiet_on 2 (tables_at 2 meet) ≡ accepted 0
  pub apart-again : heads_on 2 (tables_at 2 behind) ≡ accepted 3
  pub no_third : group_on 2 3 (tables_at 2 calls) ≡ refused_with (record { members = 0; collectors = 0 }) (why 3 0 0)
  -- a list without restores, as document 01 has it for the bench: node 2 ignores (I 73) what node 1 sent, and has clock 2; then it has an up
  pub ignored : (step_on 2 (receive 1 2) (tables_at 2 passing)).said ≡ carried_out 73 0 0 zero_level
  pub ignored-clock : clock_left 2 passing 2 (receive 1 2) ≡ 2
  pub up-then : (step_on 2 (up 2 1) (tables_at 2 (passing ++ (event 2 (receive 1 2) ∷ [])))).said ≡ carried_out 85 1 0 zero_level

-- and by the theorems: the list is allowed, the restore is accepted and goes on as the older save, and at the end the history is quiet and one node leads
pub record TakenBack : Type 0 where
  pub allowed : Allowed 2 calls
  pub comes_back : ComesBack 2 (tables_at 2 meet) older behind
  pub resumed : Resumed 2 behind older
  pub quiet_then : Quiescent 2 (up_in (history_after 2 calls)) (waiting (history_after 2 calls))
  pub one-leader : (u : ℕ) → Node 2 u → OneLeader 2 (up_in (history_after 2 calls)) (own (network_at 2 calls)) u
  pub one-said : (u : ℕ) → Node 2 u → CollectorSaid 2 calls u

-- causal clocks on the other list: the message ignored was sent by a call with a smaller clock, and node 2's next event has a larger one
pub record InOrder : Type 0 where
  pub ignored-sent : SentByCall 2 passing 1 2 2
  pub ignored-before : 2 < clock_left 2 (passing ++ (event 2 (receive 1 2) ∷ [])) 2 (up 2 1)

-- ---- the proof

pub computed : Computed
unfolding bits number unpacked packed field total spread gathered step_at step_checked step_on level_key pair_key height_key before same delta_of
    delta_word height_words height_at header_bits node_bits message_bits channel_bits channels_bits network_bits padded bytes_of image_of image field_in
    height_from messages_of channel_from walked channel_next channels_next channels_place channels_from_place channel_place image_end records_in
    tables_in records_of row_words slot_words cell_words tables_from field_place record_bits extended_of record_of height_width message_width node_width pair_at
    fault_in_row fault_from first_fault first_untimely contents_on check_on timely_at timely_in times_within message_timely member set_of within
    own_sound view_sound channel_sound pair_sound every every_pair all update level_holds
    delta_holds leader_pair_holds height_holds message_holds not_in_both sets_hold misnamed late has_room crowded returned accepts answer next absent
    down_rule larger largest deltas of_level one_level_rule equal_pairs_rule receipt_rule above sink carried local_up local_down local_ignored
    local_taken post commit step after_walk examined header_holds header_of channel_step onward steps channels_from_walk channels_walk walk ends_at
    restore_examined restore_of restore_headed restore_on put_front put_checked save_on message_at messages_at queue all_zero message_words
    load tables_of height_in row_at rows sized reply tables_after node_place pair_quiet quiet same_node apart least_from lowest linked reached one_round
    rounds group_by group_of is_head heads_of collects collectors_in quiet_on heads_on group_named group_on
computed = record {
  answered = refl;
  saves-are = refl;
  put-out = refl;
  save-accepted = refl;
  no-image = refl;
  at-fault = refl;
  history-is = refl;
  last-counts = refl;
  ends-as-younger = refl;
  ends-quiet = refl;
  quiet-said = refl;
  group-said = refl;
  one-group = refl;
  not_yet = refl;
  apart-again = refl;
  no_third = refl;
  ignored = refl;
  ignored-clock = refl;
  up-then = refl;
}

first-allowed : Allowed 2 first
unfolding all
first-allowed = plain-fair on_tables (start_of_run (fresh_tables 2)) first refl

behind-allowed : Allowed 2 behind
behind-allowed =
    refused-allowed 2 (first ++ (restore [] ∷ []))
    (refused-allowed 2 first first-allowed [] (λ z. absurd (omega (arith, computed.no-image, z)))) damaged
    (λ z. absurd (omega (arith, computed.at-fault, z)))

back : ComesBack 2 (tables_at 2 meet) older behind
back =
    rw computed.put-out at
    (saved-comes-back 2 (omega arith) (omega arith) meet (settle ++ (save 2 room ∷ (separate ++ (restore [] ∷ restore damaged ∷ [])))) 2 room
    behind-allowed computed.save-accepted)

calls-allowed : Allowed 2 calls
unfolding all
calls-allowed =
    fair-append on_tables (start_of_run (fresh_tables 2)) (behind ++ (restore older ∷ [])) settle back.allowed (plain-fair on_tables _ settle refl)

demanded : Demand3 2 calls
demanded = demand-3 2 (omega arith) (omega arith) calls calls-allowed

pub taken_back : TakenBack
taken_back = record {
  allowed = calls-allowed;
  comes_back = back;
  resumed = demanded.resumed behind settle older refl (rw back.restored);
  quiet_then = quiet-by-history 2 calls demanded computed.ends-quiet;
  one-leader = demanded.one-leader (quiet-by-history 2 calls demanded computed.ends-quiet);
  one-said = (desk 2 (omega arith) (omega arith) calls calls-allowed).collector computed.quiet-said;
}

pub in_order : InOrder
unfolding all
in_order =
    let calls : CausalCalls 2 (passing ++ (event 2 (receive 1 2) ∷ event 2 (up 2 1) ∷ []))
    = causal-calls 2 (omega arith) (omega arith) (passing ++ (event 2 (receive 1 2) ∷ event 2 (up 2 1) ∷ [])) refl in
    let heard : AcceptedAt 2 passing 2 (receive 1 2) = ap (λ (s : Said). s.why.number) computed.ignored in
    let risen : AcceptedAt 2 (passing ++ (event 2 (receive 1 2) ∷ [])) 2 (up 2 1) = ap (λ (s : Said). s.why.number) computed.up-then in
    record {
      ignored-sent = rw computed.ignored-clock at (calls.received passing (event 2 (up 2 1) ∷ []) 2 1 2 refl heard);
      ignored-before = rw computed.ignored-clock at (calls.own passing [] [] 2 2 (receive 1 2) (up 2 1) refl heard risen refl);
    }
