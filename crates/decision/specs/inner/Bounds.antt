-- Bounds that the leaves ask of each other: of the new height, and of the rule.
use Rattle.std.specs.Prelude.{ℕ, Result, Ok, Err}
use Rattle.height.specs.inner.Stored.{Negated}
use Rattle.protocol.specs.Network.{Node}
use Rattle.protocol.specs.declared.Rule.TheVariants.{ChannelUp, ElectSelf, StartNewRefLevel, NoChange, Ignored}
use Rattle.protocol.specs.declared.Rule.TheVariants.{ReflectRefLevel, PropagateLargestRefLevel, AdoptLpIfPriority, Reply}
use Rattle.protocol.specs.declared.Rule.{Rule}
use Rattle.height.specs.declared.Height.{Height}
use Rattle.refusal.specs.declared.Refusal.{Refusal}

-- the new height's election time is a negated time
abbrev pub NegatedAfter : Result Height Refusal → Type 0
NegatedAfter (Ok h) = Negated h.pair.nlts.0
NegatedAfter (Err r) = Unit {0}

-- a rule that adopts names a node
abbrev pub AdoptsNode : ℕ → Rule → Type 0
AdoptsNode n ChannelUp = Unit {0}
AdoptsNode n ElectSelf = Unit {0}
AdoptsNode n StartNewRefLevel = Unit {0}
AdoptsNode n NoChange = Unit {0}
AdoptsNode n Ignored = Unit {0}
AdoptsNode n ReflectRefLevel = Unit {0}
AdoptsNode n (PropagateLargestRefLevel l) = Unit {0}
AdoptsNode n (AdoptLpIfPriority w) = Node n w
AdoptsNode n Reply = Unit {0}
