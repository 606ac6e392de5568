-- What an answer says, field by field: of one that carries out a rule, and of a refusal.
use mathlib.Core.Path.{◌≡◌, ap, ◌∙◌}
use Rattle.std.specs.Prelude.{Result, Ok, Err}
use Rattle.protocol.specs.Answer.{Said, carried_out, said_rule, said_refused, said}
use Rattle.protocol.specs.declared.Done.{Done}
use Rattle.protocol.proofs.Said.{rule-said}
use Rattle.refusal.specs.Refusal.{why_of}
use Rattle.refusal.specs.declared.Refusal.{Refusal}

module _ (a : Result Done Refusal) (d : Done) (e : a ≡ Ok d) where
  done-said : said a ≡ carried_out (said_rule d.rule 0).value.rule d.sent_to (said_rule d.rule 0).value.adopted_from (said_rule d.rule 0).value.level_taken
  done-said = ap said e ∙ rule-said d.rule d.sent_to

  pub done-number : (said a).why.number ≡ 0
  done-number = ap (λ (s : Said). s.why.number) done-said

  pub done-letter : (said a).value.rule ≡ (said_rule d.rule 0).value.rule
  done-letter = ap (λ (s : Said). s.value.rule) done-said

  pub done-set : (said a).value.sent_to ≡ d.sent_to
  done-set = ap (λ (s : Said). s.value.sent_to) done-said

module _ (a : Result Done Refusal) (why : Refusal) (e : a ≡ Err why) where
  refused-said : said a ≡ said_refused (why_of why)
  refused-said = ap said e

  pub refused-number : (said a).why.number ≡ (why_of why).number
  refused-number = ap (λ (s : Said). s.why.number) refused-said

  pub refused-letter : (said a).value.rule ≡ 45
  refused-letter = ap (λ (s : Said). s.value.rule) refused-said

  pub refused-set : (said a).value.sent_to ≡ 0
  refused-set = ap (λ (s : Said). s.value.sent_to) refused-said
