-- What an answer says, in document 01's numbers and values: "Returned numbers", and the end of "The three events".
-- Every promise about an answer goes through `said`; it is injective (proofs/Said.antt).
use Rattle.std.specs.Prelude.{ℕ, Result, Ok, Err}
use Rattle.refusal.specs.declared.Refusal.{Refusal}
use Rattle.height.specs.Height.{zero_level}
use Rattle.height.specs.declared.ReferenceLevel.{ReferenceLevel}
use Rattle.refusal.specs.Outcome.{Answered, accepted, refused_with}
use Rattle.refusal.specs.Refusal.{why_of}
use Rattle.refusal.specs.declared.Why.{Why}
use Rattle.protocol.specs.declared.Done.{Done}
use Rattle.protocol.specs.declared.Rule.TheVariants.{ChannelUp, ElectSelf, StartNewRefLevel, NoChange, Ignored}
use Rattle.protocol.specs.declared.Rule.TheVariants.{ReflectRefLevel, PropagateLargestRefLevel, AdoptLpIfPriority, Reply}
use Rattle.protocol.specs.declared.Rule.{Rule}

-- what an accepted event did; all zero, with the dash, where it is refused
pub record Effect : Type 0 where
  pub rule : ℕ  -- the rule's letter, or the dash
  pub sent_to : ℕ  -- the set sent to
  pub adopted_from : ℕ  -- for A the node adopted from, else 0
  pub level_taken : ReferenceLevel  -- for P the level taken, else zero

abbrev pub Said : Type 0
Said = Answered Effect

-- carried out: the rule's letter in ASCII, the set sent to, the node adopted from, the level taken
abbrev pub carried_out : ℕ → ℕ → ℕ → ReferenceLevel → Said
carried_out letter set v l = accepted (record { rule = letter; sent_to = set; adopted_from = v; level_taken = l })

-- refused; 45 is the dash
abbrev pub said_refused : Why → Said
said_refused w = refused_with (record { rule = 45; sent_to = 0; adopted_from = 0; level_taken = zero_level }) w

-- U, E, S, Q, I, F, P, A, R
abbrev pub said_rule : Rule → ℕ → Said
said_rule ChannelUp set = carried_out 85 set 0 zero_level
said_rule ElectSelf set = carried_out 69 set 0 zero_level
said_rule StartNewRefLevel set = carried_out 83 set 0 zero_level
said_rule NoChange set = carried_out 81 set 0 zero_level
said_rule Ignored set = carried_out 73 set 0 zero_level
said_rule ReflectRefLevel set = carried_out 70 set 0 zero_level
said_rule (PropagateLargestRefLevel l) set = carried_out 80 set 0 l
said_rule (AdoptLpIfPriority v) set = carried_out 65 set v zero_level
said_rule Reply set = carried_out 82 set 0 zero_level

-- an event carried out, or why not
abbrev pub Answer : Type 0
Answer = Result Done Refusal

abbrev pub said : Answer → Said
said (Ok done) = said_rule done.rule done.sent_to
said (Err why) = said_refused (why_of why)
