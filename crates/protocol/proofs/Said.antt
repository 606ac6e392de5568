-- `said` is injective: every number and value of an answer is in what it says.
-- A refusal is told by its number and pair (crate `refusal`).
use Prim.Native.Nat.{ℕ}
use mathlib.Core.Bool.{cond}
use mathlib.Core.Path.{◌≡◌, refl, sym, ap, ◌∙◌}
use lib.Dec.{eqb}
use Rattle.refusal.specs.Refusal.{why_of}
use Rattle.refusal.specs.declared.Refusal.{Refusal}
use Rattle.refusal.proofs.RefusalLaws.{reason_from, reason-back, never-0}
use Rattle.std.specs.Prelude.{Ok, Err}
use Rattle.protocol.specs.Answer.{Said, Answer, carried_out, said_rule, said_refused, said}
use Rattle.protocol.specs.declared.Done.{Done}
use Rattle.protocol.specs.declared.Rule.TheVariants.{ChannelUp, ElectSelf, StartNewRefLevel, NoChange, Ignored}
use Rattle.protocol.specs.declared.Rule.TheVariants.{ReflectRefLevel, PropagateLargestRefLevel, AdoptLpIfPriority, Reply}
use Rattle.protocol.specs.declared.Rule.{Rule}

-- an accepted answer says 0, its letter and its set
pub rule-said : (rule : Rule) (set : ℕ)
    → said_rule rule set ≡ carried_out (said_rule rule 0).value.rule set (said_rule rule 0).value.adopted_from (said_rule rule 0).value.level_taken
rule-said ChannelUp set = refl
rule-said ElectSelf set = refl
rule-said StartNewRefLevel set = refl
rule-said NoChange set = refl
rule-said Ignored set = refl
rule-said ReflectRefLevel set = refl
rule-said (PropagateLargestRefLevel l) set = refl
rule-said (AdoptLpIfPriority v) set = refl
rule-said Reply set = refl

-- ---- the answer from what it says

rule_from : Said → Rule
rule_from s =
    cond (eqb s.value.rule 85) ChannelUp (cond (eqb s.value.rule 69) ElectSelf (cond (eqb s.value.rule 83) StartNewRefLevel
    (cond (eqb s.value.rule 81) NoChange (cond (eqb s.value.rule 73) Ignored (cond (eqb s.value.rule 70) ReflectRefLevel
    (cond (eqb s.value.rule 80) (PropagateLargestRefLevel s.value.level_taken) (cond (eqb s.value.rule 65) (AdoptLpIfPriority s.value.adopted_from) Reply)))))))

answer_from : Said → Answer
answer_from s = cond (eqb s.why.number 0) (Ok (record { rule = rule_from s; sent_to = s.value.sent_to })) (Err (reason_from s.why))

done-back : (rule : Rule) (set : ℕ) → answer_from (said_rule rule set) ≡ Ok (record { rule = rule; sent_to = set })
unfolding answer_from rule_from
done-back ChannelUp set = refl
done-back ElectSelf set = refl
done-back StartNewRefLevel set = refl
done-back NoChange set = refl
done-back Ignored set = refl
done-back ReflectRefLevel set = refl
done-back (PropagateLargestRefLevel l) set = refl
done-back (AdoptLpIfPriority v) set = refl
done-back Reply set = refl

refused-back : (why : Refusal) → answer_from (said_refused (why_of why)) ≡ Err why
unfolding answer_from
refused-back why = rw (never-0 why, reason-back why)

answer_back : (a : Answer) → answer_from (said a) ≡ a
answer_back (Ok d) = done-back d.rule d.sent_to
answer_back (Err why) = refused-back why

pub said-injective : (a b : Answer) → said a ≡ said b → a ≡ b
said-injective a b e = sym (answer_back a) ∙ (ap answer_from e ∙ answer_back b)
