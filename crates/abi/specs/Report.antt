-- The structs of include/election.h, read as what the calls say (crates height, protocol, lent, groups, image_snapshot, drawing, histories).
-- Field by field. `sent` of an event's answer is not in what it says: it is the ones of the set. Nor is `collector` of a group's.
use Rattle.std.specs.Prelude.{ℕ}
use Rattle.groups.specs.declared.Group.{Group}
use Rattle.height.specs.Comparison.{Comparison, sign_at}
use Rattle.height.specs.Words.{leader_pair_of}
use Rattle.height.specs.declared.Height.{Height}
use Rattle.histories.specs.ListOn.{extent}
use Rattle.histories.specs.declared.Extent.{Extent}
use Rattle.image_reader.specs.declared.NodeRecord.{NodeRecord}
use Rattle.protocol.specs.Answer.{Said}
use Rattle.refusal.specs.Outcome.{Answered}
use Rattle.refusal.specs.Refusal.{why}
use Rattle.refusal.specs.declared.Why.{Why}
use Rattle.abi.specs.declared.AnswerReport.{AnswerReport}
use Rattle.abi.specs.declared.CheckReport.{CheckReport}
use Rattle.abi.specs.declared.GivenHeight.{GivenHeight}
use Rattle.abi.specs.declared.GroupReport.{GroupReport}
use Rattle.abi.specs.declared.NodeReport.{NodeReport}
use Rattle.abi.specs.declared.ComparisonReport.{ComparisonReport}
use Rattle.abi.specs.declared.ListReport.{ListReport}
use Rattle.abi.specs.declared.SaveReport.{SaveReport}
use Rattle.abi.specs.declared.ValueReport.{ValueReport}

abbrev pub said_report : AnswerReport → Said
said_report a = record {
  why = why a.number a.fault_at a.fault_with;
  value = record {
    rule = a.rule;
    sent_to = a.sent_to;
    adopted_from = a.adopted_from;
    level_taken = record { tau = record { 0 = a.level_tau }; oid = a.level_originator; r = a.level_bit };
  };
}

abbrev pub said_check_report : CheckReport → Why
said_check_report a = why a.number a.fault_at a.fault_with

abbrev pub said_save_report : SaveReport → Answered ℕ
said_save_report a = record { why = why a.number a.fault_at a.fault_with; value = a.size }

abbrev pub said_list_report : ListReport → Answered Extent
said_list_report a = record { why = why a.number a.fault_at a.fault_with; value = extent a.size a.histories }

abbrev pub said_node_report : NodeReport → Answered NodeRecord
said_node_report a = record {
  why = why a.number a.fault_at a.fault_with;
  value = record { clock = record { 0 = a.clock }; neighbors = a.linked; forming = a.forming };
}

abbrev pub said_value_report : ValueReport → Answered ℕ
said_value_report a = record { why = why a.number a.fault_at a.fault_with; value = a.value }

abbrev pub said_group_report : GroupReport → Answered Group
said_group_report a = record {
  why = why a.number a.fault_at a.fault_with;
  value = record { members = a.members; collectors = a.collectors };
}

-- a height as given: depth with its sign, election time without
abbrev pub height_given : GivenHeight → Height
height_given h = record {
  level = record { tau = record { 0 = h.search_time }; oid = h.originator; r = h.bit };
  delta = h.depth;
  pair = leader_pair_of h.election_time h.leader;
  id = h.station;
}

abbrev pub said_comparison_report : ComparisonReport → Comparison
said_comparison_report a = sign_at a.order a.place
