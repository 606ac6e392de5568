-- A small plot worked out: its sketch is read, what follows makes it quiet, and its drawing has the one arrow, down to the collector.
-- So none of the theorems about drawings is about nothing.
use Prim.Native.Nat.{ℕ}
use mathlib.Core.Bool.{true, false}
use mathlib.Core.List.{List, [], ◌∷◌, ◌++◌, flat_map}
use mathlib.Core.Path.{◌≡◌, refl}
use lib.ListN.{length}
use Rattle.basics.specs.Functions.{every, every_pair, all, update}
use Rattle.calls.specs.History.{advance, grown}
use Rattle.commands.specs.Commands.{number_of}
use Rattle.dot.specs.Graph.{edge, node_line, edge_line, edge_lines, text_of, graph_of}
use Rattle.dot.specs.Sketch.{sketch_with, starts_with, nodes_at, digits_at, number_at, edge_at, numbered, starts_with_edge, edges_at, edges_of, nodes_in, edges_in, sketch_of}
use Rattle.dot.specs.declared.Edge.{Edge}
use Rattle.height.specs.Height.{level_key, pair_key, height_key}
use Rattle.height.specs.Order.{before, same}
use Rattle.nodeset.specs.NodeSet.{set_of, same_node}
use Rattle.protocol.specs.Holds.{level_holds, delta_holds, leader_pair_holds, height_holds, message_holds, not_in_both, sets_hold}
use Rattle.protocol.specs.Network.{own}
use Rattle.protocol.specs.Quiet.{pair_quiet, quiet}
use Rattle.protocol.specs.Refusal.{misnamed, late, has_room, crowded, returned, accepts, answer, next}
use Rattle.protocol.specs.Rules.{absent, down_rule, larger, largest, deltas, of_level, one_level_rule, equal_pairs_rule, receipt_rule}
use Rattle.protocol.specs.Sink.{above, sink}
use Rattle.protocol.specs.Step.{Event, up, receive, carried, local_up, local_down, local_ignored, local_taken, post, commit, step}
use Rattle.refusal.specs.Outcome.{accepted, refused_with}
use Rattle.refusal.specs.Refusal.{why}
use Rattle.text.specs.Text.{digits, in_turn}
use Rattle.drawing.specs.Draw.{digits_to, drawing_length}
use Rattle.drawing.specs.Drawing.{points, arrow_to, arrows_of, drawing}
use Rattle.drawing.specs.Links.{is_link, names, named_by, links_hold, ups_of}

-- a sketch of two linked nodes
abbrev plan : List ℕ
plan =
    103 ∷ 114 ∷ 97 ∷ 112 ∷ 104 ∷ 32 ∷ 112 ∷ 108 ∷ 111 ∷ 116 ∷ 32 ∷ 123 ∷ 10 ∷ 32 ∷ 32 ∷ 49 ∷ 59 ∷ 10 ∷ 32 ∷ 32 ∷ 50 ∷ 59
    ∷ 10 ∷ 32 ∷ 32 ∷ 49 ∷ 32 ∷ 45 ∷ 45 ∷ 32 ∷ 50 ∷ 59 ∷ 10 ∷ 125 ∷ 10 ∷ []

abbrev link : List Edge
link = edge 1 2 ∷ []

-- its ups, and the receipts that settle it
abbrev settled : List Event
settled = ups_of link ++ (receive 1 2 ∷ receive 2 1 ∷ receive 2 1 ∷ receive 1 2 ∷ [])

-- its drawing
abbrev picture : List ℕ
picture =
    100 ∷ 105 ∷ 103 ∷ 114 ∷ 97 ∷ 112 ∷ 104 ∷ 32 ∷ 112 ∷ 108 ∷ 111 ∷ 116 ∷ 32 ∷ 123 ∷ 10 ∷ 32 ∷ 32 ∷ 49 ∷ 59 ∷ 10 ∷ 32 ∷ 32
    ∷ 50 ∷ 59 ∷ 10 ∷ 32 ∷ 32 ∷ 50 ∷ 32 ∷ 45 ∷ 62 ∷ 32 ∷ 49 ∷ 59 ∷ 10 ∷ 125 ∷ 10 ∷ []

-- no arrow
abbrev unlinked : List ℕ
unlinked =
    100 ∷ 105 ∷ 103 ∷ 114 ∷ 97 ∷ 112 ∷ 104 ∷ 32 ∷ 112 ∷ 108 ∷ 111 ∷ 116 ∷ 32 ∷ 123 ∷ 10 ∷ 32 ∷ 32 ∷ 49 ∷ 59 ∷ 10 ∷ 32 ∷ 32
    ∷ 50 ∷ 59 ∷ 10 ∷ 125 ∷ 10 ∷ []

-- two links, the second line's arrow first: by the station that it leaves
abbrev crossed : List ℕ
crossed =
    100 ∷ 105 ∷ 103 ∷ 114 ∷ 97 ∷ 112 ∷ 104 ∷ 32 ∷ 112 ∷ 108 ∷ 111 ∷ 116 ∷ 32 ∷ 123 ∷ 10 ∷ 32 ∷ 32 ∷ 49 ∷ 59 ∷ 10 ∷ 32 ∷ 32
    ∷ 50 ∷ 59 ∷ 10 ∷ 32 ∷ 32 ∷ 51 ∷ 59 ∷ 10 ∷ 32 ∷ 32 ∷ 52 ∷ 59 ∷ 10 ∷ 32 ∷ 32 ∷ 51 ∷ 32 ∷ 45 ∷ 62 ∷ 32 ∷ 50 ∷ 59 ∷ 10 ∷ 32
    ∷ 32 ∷ 52 ∷ 32 ∷ 45 ∷ 62 ∷ 32 ∷ 49 ∷ 59 ∷ 10 ∷ 125 ∷ 10 ∷ []

pub record Worked : Type 0 where
  pub text : plan ≡ graph_of 2 link
  pub taken : sketch_of plan ≡ accepted (sketch_with 2 link)
  pub holds : links_hold 2 [] link ≡ true
  pub drawn-at-once : drawing 2 (grown 2 (ups_of link)).network ≡ picture
  -- quiet, with collector 1
  pub quiet_then : quiet 2 (grown 2 settled).network ≡ true
  pub collector : (own (grown 2 settled).network 2).pair.lid ≡ 1
  pub drawn-then : drawing 2 (grown 2 settled).network ≡ picture
  -- a channel that is up one way only is not drawn
  pub one_way : drawing 2 (grown 2 (up 1 2 ∷ [])).network ≡ unlinked
  pub by_first : drawing 4 (grown 4 (ups_of (edge 4 1 ∷ edge 3 2 ∷ []))).network ≡ crossed
  -- 17: each of its reasons
  pub to-nought : links_hold 2 [] (edge 0 1 ∷ []) ≡ false
  pub beyond : links_hold 2 [] (edge 1 3 ∷ []) ≡ false
  pub itself : links_hold 2 [] (edge 2 2 ∷ []) ≡ false
  pub again : links_hold 2 [] (edge 1 2 ∷ edge 1 2 ∷ []) ≡ false
  pub turned : links_hold 2 [] (edge 1 2 ∷ edge 2 1 ∷ []) ≡ false
  -- and links in any order of their ends and lines
  pub either_end : links_hold 3 [] (edge 2 1 ∷ edge 1 3 ∷ edge 3 2 ∷ []) ≡ true
  -- numbers are 0 to 99: what is beyond them is no sketch, what links to them is one
  pub any-number : sketch_of (graph_of 2 (edge 0 99 ∷ [])) ≡ accepted (sketch_with 2 (edge 0 99 ∷ []))
  pub no_number : sketch_of (graph_of 2 (edge 1 100 ∷ [])) ≡ refused_with (sketch_with 0 []) (why 16 0 0)
  -- 1 to 16 nodes
  pub none : sketch_of (graph_of 0 []) ≡ refused_with (sketch_with 0 []) (why 16 0 0)
  pub sixteen : sketch_of (graph_of 16 []) ≡ accepted (sketch_with 16 [])
  pub seventeen : sketch_of (graph_of 17 []) ≡ refused_with (sketch_with 0 []) (why 16 0 0)
  -- the shortest and the longest drawing
  pub least : drawing_length 1 ≡ 22
  pub reached : length picture ≡ drawing_length 2
  pub most : drawing_length 16 ≡ 1409

pub worked : Worked
unfolding digits in_turn flat_map node_line edge_line edge_lines text_of starts_with nodes_at digits_at number_at number_of edge_at numbered starts_with_edge edges_at
    edges_of nodes_in edges_in sketch_of is_link names named_by links_hold ups_of points arrow_to arrows_of drawing digits_to drawing_length advance answer next
    misnamed late has_room crowded returned accepts absent down_rule larger largest deltas of_level one_level_rule equal_pairs_rule receipt_rule above sink
    carried local_up local_down local_ignored local_taken post commit step every every_pair all update level_key pair_key height_key before same pair_quiet
    quiet set_of same_node level_holds delta_holds leader_pair_holds height_holds message_holds not_in_both sets_hold
worked = record {
  text = refl;
  taken = refl;
  holds = refl;
  drawn-at-once = refl;
  quiet_then = refl;
  collector = refl;
  drawn-then = refl;
  one_way = refl;
  by_first = refl;
  to-nought = refl;
  beyond = refl;
  itself = refl;
  again = refl;
  turned = refl;
  either_end = refl;
  any-number = refl;
  no_number = refl;
  none = refl;
  sixteen = refl;
  seventeen = refl;
  least = refl;
  reached = refl;
  most = refl;
}
