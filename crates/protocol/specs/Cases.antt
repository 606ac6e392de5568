-- The plots worked by hand: document 01's marked cases a to i as one table, with exactly its numbers.
-- Each row: n, the start network, the events, and what must come of them. Then `readings`: more rows, for other wrong readings; and `limits`: times at
-- their limits.
use Rattle.std.specs.Prelude.{ℕ, Bool, true, false, cond, ◌||◌, List, [], ◌∷◌, ◌++◌, map, eqb, ℤ, pos, negsuc, neg_ℤ}
use Rattle.basics.specs.Functions.{update, after_all, say_all}
use Rattle.height.specs.Height.{zero_height}
use Rattle.height.specs.declared.Height.{Height}
use Rattle.protocol.specs.Answer.{Said}
use Rattle.protocol.specs.Holds.{sound}
use Rattle.protocol.specs.Network.{Network, fresh}
use Rattle.protocol.specs.Quiet.{quiet}
use Rattle.protocol.specs.Refusal.{answer, next}
use Rattle.protocol.specs.Step.{Event, up, down, receive}
use Rattle.protocol.specs.Times.{timely}

-- ---- a start network, node by node

-- (τ, originator, bit, depth; negated time, leader; station)
abbrev pub h : ℕ → ℕ → ℕ → ℤ → ℤ → ℕ → ℕ → Height
h tau oid r delta nlts lid id =
    record { level = record { tau = record { 0 = tau }; oid = oid; r = r }; delta = delta; pair = record { nlts = record { 0 = nlts }; lid = lid }; id = id }

abbrev pub is_in : List ℕ → ℕ → Bool
is_in [] v = false
is_in (x ∷ xs) v = eqb v x || is_in xs v

-- each height at the node that it belongs to
abbrev pub views_of : List Height → ℕ → Height
views_of [] = λ v. zero_height
views_of (x ∷ xs) = update (views_of xs) x.id x

-- node u with this clock, N, F, and these heights, its own and its views
abbrev pub with_node : ℕ → ℕ → List ℕ → List ℕ → List Height → Network → Network
with_node u clock N F heights p = record {
  clock = update p.clock u clock;
  neighbors = update p.neighbors u (is_in N);
  forming = update p.forming u (is_in F);
  height = update p.height u (views_of heights);
  channel = p.channel;
}

-- one more message on channel u to v
abbrev pub with_message : ℕ → ℕ → Height → ℕ → Network → Network
with_message u v height stamp p = record {
  clock = p.clock;
  neighbors = p.neighbors;
  forming = p.forming;
  height = p.height;
  channel = update p.channel u (update (p.channel u) v (p.channel u v ++ (record { height = height; timestamp = stamp } ∷ [])));
}

-- ---- the table

pub record Held : Type 0 where
  pub node : ℕ
  pub clock : ℕ
  pub own : Height

pub record Expected : Type 0 where
  pub start_sound : Bool  -- the start network breaks no rule
  pub start_timely : Bool  -- and its times are within its clocks
  pub rules : List ℕ  -- the letter of each answer
  pub sets : List ℕ  -- the set that each event sent to
  pub held : List Held  -- clocks and own heights at the end
  pub is_quiet : Bool

pub record Case : Type 0 where
  pub nodes : ℕ
  pub start : Network
  pub events : List Event
  pub expected : Expected

abbrev pub held : ℕ → ℕ → Height → Held
held node clock own = record { node = node; clock = clock; own = own }

-- from a sound start: rules, sets, what is held, quiet or not
abbrev pub expect : List ℕ → List ℕ → List Held → Bool → Expected
expect rules sets hs q = record { start_sound = true; start_timely = true; rules = rules; sets = sets; held = hs; is_quiet = q }

-- ---- the cases

-- fresh n = 2: a. U 1 2, U 2 1, M 1 2
abbrev pub a : List Event
a = up 1 2 ∷ up 2 1 ∷ receive 1 2 ∷ []

-- e. n = 3, F empty: node 2 has clock 9 and N = {1, 3}, node 3 clock 6 and N = {2}; node 1 leads
abbrev pub three_in_a_row : Network
three_in_a_row =
    with_node 1 5 (2 ∷ []) [] (h 0 0 0 (pos 0) (pos 0) 1 1 ∷ h 0 0 0 (pos 1) (pos 0) 1 2 ∷ [])
    (with_node 2 9 (1 ∷ 3 ∷ []) [] (h 0 0 0 (pos 0) (pos 0) 1 1 ∷ h 0 0 0 (pos 1) (pos 0) 1 2 ∷ h 0 0 0 (pos 2) (pos 0) 1 3 ∷ [])
    (with_node 3 6 (2 ∷ []) [] (h 0 0 0 (pos 1) (pos 0) 1 2 ∷ h 0 0 0 (pos 2) (pos 0) 1 3 ∷ []) fresh))

-- i. n = 7: node 5 has clock 7, N = {7} and F = {6}; the message from 6 waits
abbrev pub search_at_five : Network
search_at_five =
    with_node 5 7 (7 ∷ []) (6 ∷ []) (h 0 0 0 (pos 3) (pos 0) 1 5 ∷ h 0 0 0 (pos 4) (pos 0) 1 7 ∷ [])
    (with_node 6 8 [] (5 ∷ []) (h 8 6 0 (pos 0) (pos 0) 1 6 ∷ [])
    (with_node 7 4 (5 ∷ []) [] (h 0 0 0 (pos 3) (pos 0) 1 5 ∷ h 0 0 0 (pos 4) (pos 0) 1 7 ∷ [])
    (with_message 6 5 (h 8 6 0 (pos 0) (pos 0) 1 6) 8 fresh)))

-- letters: A 65, E 69, F 70, P 80, Q 81, R 82, S 83, U 85; sets: node k at 2 to the power k - 1
abbrev pub cases : List Case
cases =
    -- a: node 2 has clock 2 and (0,0,0,1; 0,1; 2), rule A
    record {
      nodes = 2;
      start = fresh;
      events = a;
      expected = expect (85 ∷ 85 ∷ 65 ∷ []) (2 ∷ 1 ∷ 1 ∷ []) (held 2 2 (h 0 0 0 (pos 1) (pos 0) 1 2) ∷ []) false;
    }
    -- b: then M 2 1: rule R, clock 2
    ∷ record {
      nodes = 2;
      start = fresh;
      events = a ++ (receive 2 1 ∷ []);
      expected = expect (85 ∷ 85 ∷ 65 ∷ 82 ∷ []) (2 ∷ 1 ∷ 1 ∷ 2 ∷ []) (held 1 2 (h 0 0 0 (pos 0) (pos 0) 1 1) ∷ []) false;
    }
    -- c: then M 2 1, M 1 2: Q, Q; both clocks 3; quiet, collector 1
    ∷ record {
      nodes = 2;
      start = fresh;
      events = a ++ (receive 2 1 ∷ receive 2 1 ∷ receive 1 2 ∷ []);
      expected = expect (85 ∷ 85 ∷ 65 ∷ 82 ∷ 81 ∷ 81 ∷ []) (2 ∷ 1 ∷ 1 ∷ 2 ∷ 0 ∷ 0 ∷ [])
          (held 1 3 (h 0 0 0 (pos 0) (pos 0) 1 1) ∷ held 2 3 (h 0 0 0 (pos 1) (pos 0) 1 2) ∷ []) true;
    }
    -- d: then D 1 2: clock 4, (0,0,0,0; −4,1; 1), rule E
    ∷ record {
      nodes = 2;
      start = fresh;
      events = a ++ (receive 2 1 ∷ receive 2 1 ∷ receive 1 2 ∷ down 1 2 ∷ []);
      expected = expect (85 ∷ 85 ∷ 65 ∷ 82 ∷ 81 ∷ 81 ∷ 69 ∷ []) (2 ∷ 1 ∷ 1 ∷ 2 ∷ 0 ∷ 0 ∷ 0 ∷ [])
          (held 1 4 (h 0 0 0 (pos 0) (negsuc 3) 1 1) ∷ []) false;
    }
    -- e: D 2 1: (10,2,0,0; 0,1; 2), S
    ∷ record {
      nodes = 3;
      start = three_in_a_row;
      events = down 2 1 ∷ [];
      expected = expect (83 ∷ []) (4 ∷ []) (held 2 10 (h 10 2 0 (pos 0) (pos 0) 1 2) ∷ []) false;
    }
    -- f: node 3 receives it with stamp 10: clock 11, (10,2,1,0; 0,1; 3), F
    ∷ record {
      nodes = 3;
      start = three_in_a_row;
      events = down 2 1 ∷ receive 2 3 ∷ [];
      expected = expect (83 ∷ 70 ∷ []) (4 ∷ 2 ∷ []) (held 3 11 (h 10 2 1 (pos 0) (pos 0) 1 3) ∷ []) false;
    }
    -- g: node 2 receives that: clock 12, (0,0,0,0; −12,2; 2), E
    ∷ record {
      nodes = 3;
      start = three_in_a_row;
      events = down 2 1 ∷ receive 2 3 ∷ receive 3 2 ∷ [];
      expected = expect (83 ∷ 70 ∷ 69 ∷ []) (4 ∷ 2 ∷ 4 ∷ []) (held 2 12 (h 0 0 0 (pos 0) (negsuc 11) 2 2) ∷ []) false;
    }
    -- h: node 3 receives that: (0,0,0,1; −12,2; 3), A
    ∷ record {
      nodes = 3;
      start = three_in_a_row;
      events = down 2 1 ∷ receive 2 3 ∷ receive 3 2 ∷ receive 2 3 ∷ [];
      expected = expect (83 ∷ 70 ∷ 69 ∷ 65 ∷ []) (4 ∷ 2 ∷ 4 ∷ 2 ∷ []) (held 3 13 (h 0 0 0 (pos 1) (negsuc 11) 2 3) ∷ []) false;
    }
    -- i: node 5 receives (8,6,0,0; 0,1; 6) from 6 with stamp 8: clock 9, (8,6,0,−1; 0,1; 5), P
    ∷ record {
      nodes = 7;
      start = search_at_five;
      events = receive 6 5 ∷ [];
      expected = expect (80 ∷ []) (96 ∷ []) (held 5 9 (h 8 6 0 (negsuc 0) (pos 0) 1 5) ∷ []) false;
    }
    ∷ []

-- ---- more, for wrong readings that a to i do not tell apart

-- rule P where a view of another level has the smaller depth: the smallest depth among views with the largest level counts
abbrev pub deeper_elsewhere : Network
deeper_elsewhere =
    with_node 1 7 (2 ∷ []) (3 ∷ []) (h 0 0 0 (negsuc 5) (pos 0) 2 1 ∷ h 0 0 0 (negsuc 4) (pos 0) 2 2 ∷ [])
    (with_node 2 4 (1 ∷ []) [] (h 0 0 0 (negsuc 5) (pos 0) 2 1 ∷ h 0 0 0 (negsuc 4) (pos 0) 2 2 ∷ [])
    (with_node 3 8 [] (1 ∷ []) (h 8 3 0 (pos 0) (pos 0) 2 3 ∷ [])
    (with_message 3 1 (h 8 3 0 (pos 0) (pos 0) 2 3) 8 fresh)))

-- rule E at a node with a forming neighbor, which must hear it
abbrev pub last_link_lost : Network
last_link_lost =
    with_node 1 3 (2 ∷ []) (3 ∷ []) (h 0 0 0 (pos 1) (pos 0) 2 1 ∷ h 0 0 0 (pos 0) (pos 0) 2 2 ∷ [])
    (with_node 2 3 (1 ∷ []) [] (h 0 0 0 (pos 1) (pos 0) 2 1 ∷ h 0 0 0 (pos 0) (pos 0) 2 2 ∷ []) fresh)

-- rule S on a receipt: the one level has bit 1 and another's number
abbrev pub reflected_to_another : Network
reflected_to_another =
    with_node 1 6 (2 ∷ []) [] (h 5 3 0 (pos 2) (pos 0) 3 1 ∷ h 5 3 0 (pos 3) (pos 0) 3 2 ∷ [])
    (with_node 2 7 (1 ∷ []) [] (h 5 3 0 (pos 2) (pos 0) 3 1 ∷ h 5 3 1 (pos 0) (pos 0) 3 2 ∷ [])
    (with_message 2 1 (h 5 3 1 (pos 0) (pos 0) 3 2) 7 fresh))

-- rule R at a node with two neighbors: only the sender hears it
abbrev pub old_leader_heard : Network
old_leader_heard =
    with_node 1 5 (2 ∷ 3 ∷ []) [] (h 0 0 0 (pos 0) (negsuc 3) 1 1 ∷ h 0 0 0 (pos 1) (negsuc 3) 1 2 ∷ h 0 0 0 (pos 1) (negsuc 3) 1 3 ∷ [])
    (with_node 2 3 [] (1 ∷ []) (h 0 0 0 (pos 0) (pos 0) 2 2 ∷ [])
    (with_node 3 5 (1 ∷ []) [] (h 0 0 0 (pos 0) (negsuc 3) 1 1 ∷ h 0 0 0 (pos 1) (negsuc 3) 1 3 ∷ [])
    (with_message 2 1 (h 0 0 0 (pos 0) (pos 0) 2 2) 3 fresh)))

-- a message with this stamp waits at node 2, which has this clock and nobody in its sets
abbrev pub passing_by : ℕ → ℕ → Network
passing_by stamp clock =
    with_node 1 stamp [] (2 ∷ []) (h 0 0 0 (pos 0) (pos 0) 1 1 ∷ [])
    (with_node 2 clock [] [] (h 0 0 0 (pos 0) (pos 0) 2 2 ∷ []) (with_message 1 2 (h 0 0 0 (pos 0) (pos 0) 1 1) stamp fresh))

-- it is received there: the letter (I 73, or the dash 45 where it is refused), and the clock afterwards
abbrev pub ignoring : ℕ → ℕ → ℕ → ℕ → Case
ignoring stamp clock letter left = record {
  nodes = 2;
  start = passing_by stamp clock;
  events = receive 1 2 ∷ [];
  expected = expect (letter ∷ []) (0 ∷ []) (held 2 left (h 0 0 0 (pos 0) (pos 0) 2 2) ∷ []) false;
}

abbrev pub readings : List Case
readings =
    record {
      nodes = 3;
      start = deeper_elsewhere;
      events = receive 3 1 ∷ [];
      expected = expect (80 ∷ []) (6 ∷ []) (held 1 9 (h 8 3 0 (negsuc 0) (pos 0) 2 1) ∷ []) false;
    }
    ∷ record {
      nodes = 3;
      start = last_link_lost;
      events = down 1 2 ∷ [];
      expected = expect (69 ∷ []) (4 ∷ []) (held 1 4 (h 0 0 0 (pos 0) (negsuc 3) 1 1) ∷ []) false;
    }
    ∷ record {
      nodes = 3;
      start = reflected_to_another;
      events = receive 2 1 ∷ [];
      expected = expect (83 ∷ []) (2 ∷ []) (held 1 8 (h 8 1 0 (pos 0) (pos 0) 3 1) ∷ []) false;
    }
    ∷ record {
      nodes = 3;
      start = old_leader_heard;
      events = receive 2 1 ∷ [];
      expected = expect (82 ∷ []) (2 ∷ []) (held 1 6 (h 0 0 0 (pos 0) (negsuc 3) 1 1) ∷ []) false;
    }
    -- document 01's bench listing: an ignored message (document 02, [5]), and none behind it; station 2 ends with clock 2
    ∷ record {
      nodes = 2;
      start = fresh;
      events = up 1 2 ∷ receive 1 2 ∷ receive 1 2 ∷ [];
      expected = expect (85 ∷ 73 ∷ 45 ∷ []) (2 ∷ 0 ∷ 0 ∷ []) (held 1 1 (h 0 0 0 (pos 0) (pos 0) 1 1) ∷ held 2 2 (h 0 0 0 (pos 0) (pos 0) 2 2) ∷ []) false;
    }
    -- past the stamp, or past the own clock where that is the later one; 7 by either
    ∷ ignoring 5 2 73 6
    ∷ ignoring 2 5 73 6
    ∷ ignoring 4294967294 0 73 4294967295
    ∷ ignoring 4294967295 0 45 0
    ∷ ignoring 1 4294967294 73 4294967295
    ∷ ignoring 1 4294967295 45 4294967295
    -- the listing's events with a later stamp
    ∷ record {
      nodes = 3;
      start = fresh;
      events = up 1 3 ∷ up 1 2 ∷ receive 1 2 ∷ [];
      expected = expect (85 ∷ 85 ∷ 73 ∷ []) (4 ∷ 2 ∷ 0 ∷ []) (held 1 2 (h 0 0 0 (pos 0) (pos 0) 1 1) ∷ held 2 3 (h 0 0 0 (pos 0) (pos 0) 2 2) ∷ []) false;
    }
    ∷ []

-- ---- times at their limits, and one beyond them (document 02, [3])

-- nodes 1 and 2 linked, with the clocks 5 and 9: node 1's own height and view, the stamp of its message, and node 2's message, stamped 7
abbrev pub linked_two : Height → Height → ℕ → Height → Network
linked_two own view stamp message =
    with_node 1 5 (2 ∷ []) [] (own ∷ view ∷ [])
    (with_node 2 9 (1 ∷ []) [] (h 0 0 0 (pos 0) (pos 0) 1 1 ∷ h 0 0 0 (pos 0) (pos 0) 2 2 ∷ [])
    (with_message 1 2 (h 0 0 0 (pos 0) (pos 0) 1 1) stamp (with_message 2 1 message 7 fresh)))

-- a height of node k with this search time and this election time
abbrev pub timed : ℕ → ℕ → ℕ → Height
timed tau election k = h tau (cond (eqb tau 0) 0 1) 0 (pos 0) (neg_ℤ (pos election)) k k

pub record Limit : Type 0 where
  pub network : Network
  pub in_time : Bool

abbrev pub limit : Network → Bool → Limit
limit p t = record { network = p; in_time = t }

-- own search time, own election time, those of a view, a stamp, and both times of a message that is stamped before its sender's clock
abbrev pub limits : List Limit
limits =
    limit (linked_two (timed 5 0 1) (timed 0 0 2) 5 (timed 0 0 2)) true
    ∷ limit (linked_two (timed 6 0 1) (timed 0 0 2) 5 (timed 0 0 2)) false
    ∷ limit (linked_two (timed 0 5 1) (timed 0 0 2) 5 (timed 0 0 2)) true
    ∷ limit (linked_two (timed 0 6 1) (timed 0 0 2) 5 (timed 0 0 2)) false
    ∷ limit (linked_two (timed 0 0 1) (timed 5 0 2) 5 (timed 0 0 2)) true
    ∷ limit (linked_two (timed 0 0 1) (timed 6 0 2) 5 (timed 0 0 2)) false
    ∷ limit (linked_two (timed 0 0 1) (timed 0 5 2) 5 (timed 0 0 2)) true
    ∷ limit (linked_two (timed 0 0 1) (timed 0 6 2) 5 (timed 0 0 2)) false
    ∷ limit (linked_two (timed 0 0 1) (timed 0 0 2) 5 (timed 7 0 2)) true
    ∷ limit (linked_two (timed 0 0 1) (timed 0 0 2) 6 (timed 0 0 2)) false
    ∷ limit (linked_two (timed 0 0 1) (timed 0 0 2) 5 (timed 8 0 2)) false
    ∷ limit (linked_two (timed 0 0 1) (timed 0 0 2) 5 (timed 0 7 2)) true
    ∷ limit (linked_two (timed 0 0 1) (timed 0 0 2) 5 (timed 0 8 2)) false
    ∷ []

-- ---- what comes of a case

abbrev pub held_in : Network → Held → Held
held_in p x = held x.node (p.clock x.node) (p.height x.node x.node)

abbrev pub said_in : Case → List Said
said_in c = say_all (next c.nodes) (answer c.nodes) c.start c.events

abbrev pub end_of : Case → Network
end_of c = after_all (next c.nodes) c.start c.events

abbrev pub outcome_of : Case → Expected
outcome_of c = record {
  start_sound = sound c.nodes c.start;
  start_timely = timely c.nodes c.start;
  rules = map (λ s. s.value.rule) (said_in c);
  sets = map (λ s. s.value.sent_to) (said_in c);
  held = map (held_in (end_of c)) c.expected.held;
  is_quiet = quiet c.nodes (end_of c);
}
