-- Runs that tell the claim of causal clocks from other claims, computed: a message ignored, one lost in a down, and two on one channel. So the hypotheses of
-- `Causal` and the cases of `HappensBefore` have inhabitants.
use mathlib.Core.List.{[], ◌∷◌, map}
use mathlib.Core.Path.{◌≡◌, refl}
use Rattle.basics.specs.Functions.{every, update}
use Rattle.height.specs.Height.{zero_level, level_key, pair_key, height_key}
use Rattle.height.specs.Order.{before, same}
use Rattle.nodeset.specs.NodeSet.{member, set_of}
use Rattle.protocol.specs.Answer.{carried_out}
use Rattle.protocol.specs.Refusal.{misnamed, late, has_room, crowded, returned, accepts, answer, next}
use Rattle.protocol.specs.Rules.{absent, down_rule, larger, largest, deltas, of_level, one_level_rule, equal_pairs_rule, receipt_rule}
use Rattle.protocol.specs.Sink.{above, sink}
use Rattle.protocol.specs.Step.{up, down, receive, carried, local_up, local_down, local_ignored, local_taken, post, commit, step}
use Rattle.calls.specs.Causal.{unheard, SentBefore, Causal, HappensBefore, at_one_node, sent_to_received, in_a_row}
use Rattle.calls.specs.History.{Entry, History, entry, advance, grown}
use Rattle.calls.proofs.CausalClocks.{grown-causal}

-- U 1 3, U 1 2, and M 1 2, which node 2 ignores
abbrev pub first : Entry
first = entry (up 1 3) (carried_out 85 4 0 zero_level) 1

abbrev pub second : Entry
second = entry (up 1 2) (carried_out 85 2 0 zero_level) 2

abbrev pub passed_by : Entry
passed_by = entry (receive 1 2) (carried_out 73 0 0 zero_level) 3

abbrev pub run : History
run = passed_by ∷ second ∷ first ∷ []

pub record Worked : Type 0 where
  -- refused events do not enter
  pub history-is : (grown 3 (up 1 3 ∷ up 1 2 ∷ up 1 2 ∷ receive 1 2 ∷ receive 1 2 ∷ [])).history ≡ run
  -- the second up sent the message, and by the theorem its clock is smaller
  pub sent : unheard (second ∷ first ∷ []) 1 2 ≡ second ∷ []
  pub claimed : SentBefore (second ∷ first ∷ []) 1 2 passed_by.clock
  -- the first up happens before the receipt, by both kinds of step in a row
  pub at-node-1 : HappensBefore run first second
  pub to-node-2 : HappensBefore run second passed_by
  pub in_a_row : HappensBefore run first passed_by
  -- a down loses what waits: the message received behind it is that of the up behind it
  pub lost : unheard (grown 2 (up 1 2 ∷ down 1 2 ∷ up 1 2 ∷ [])).history 1 2 ≡ entry (up 1 2) (carried_out 85 2 0 zero_level) 3 ∷ []
  pub behind-a-down : map (λ (e : Entry). e.clock) (grown 2 (up 1 2 ∷ down 1 2 ∷ up 1 2 ∷ receive 1 2 ∷ [])).history ≡ 4 ∷ 3 ∷ 2 ∷ 1 ∷ []
  -- of two that wait the older is received: node 2's clock is then 2, which is not above the newer one's
  pub two-wait : unheard (grown 2 (up 1 2 ∷ up 2 1 ∷ receive 2 1 ∷ [])).history 1 2
      ≡ entry (up 1 2) (carried_out 85 2 0 zero_level) 1 ∷ entry (receive 2 1) (carried_out 82 2 0 zero_level) 2 ∷ []
  -- with an event of the other node between them, two at one node still follow each other
  pub not-neighbours : HappensBefore (grown 2 (up 1 2 ∷ up 2 1 ∷ receive 2 1 ∷ [])).history (entry (up 1 2) (carried_out 85 2 0 zero_level) 1)
      (entry (receive 2 1) (carried_out 82 2 0 zero_level) 2)
  pub older-received : map (λ (e : Entry). e.clock) (grown 2 (up 1 2 ∷ up 2 1 ∷ receive 2 1 ∷ receive 1 2 ∷ [])).history ≡ 2 ∷ 2 ∷ 1 ∷ 1 ∷ []

history : (grown 3 (up 1 3 ∷ up 1 2 ∷ up 1 2 ∷ receive 1 2 ∷ receive 1 2 ∷ [])).history ≡ run
unfolding advance answer next misnamed late has_room crowded returned accepts absent down_rule larger largest deltas of_level one_level_rule equal_pairs_rule
    receipt_rule above sink carried local_up local_down local_ignored local_taken post commit step every update level_key pair_key height_key before same set_of
history = refl

sending : unheard (second ∷ first ∷ []) 1 2 ≡ second ∷ []
unfolding member
sending = refl

pub worked : Worked
unfolding advance answer next misnamed late has_room crowded returned accepts absent down_rule larger largest deltas of_level one_level_rule equal_pairs_rule
    receipt_rule above sink carried local_up local_down local_ignored local_taken post commit step every update level_key pair_key height_key before same set_of member
worked =
    let causal : Causal run = rw history at (grown-causal 3 (up 1 3 ∷ up 1 2 ∷ up 1 2 ∷ receive 1 2 ∷ receive 1 2 ∷ [])).causal in
    let here = at_one_node (passed_by ∷ []) [] [] refl refl in
    let there = sent_to_received [] (second ∷ first ∷ []) [] 1 2 refl refl sending in
    record {
      history-is = history;
      sent = sending;
      claimed = (causal [] (second ∷ first ∷ []) passed_by refl).received 1 2 refl;
      at-node-1 = here;
      to-node-2 = there;
      in_a_row = in_a_row here there;
      lost = refl;
      behind-a-down = refl;
      two-wait = refl;
      not-neighbours = at_one_node [] (entry (up 2 1) (carried_out 85 1 0 zero_level) 1 ∷ []) [] refl refl;
      older-received = refl;
    }
