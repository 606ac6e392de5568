-- `decision::rule::of_down` meets its contract: a set of nodes 1 to n is the number 0 exactly where no node is in it.
use Prim.Native.Nat.{ℕ, ◌<◌, ◌^◌}
use borrow.Author.Tests.{not-true}
use lib.Pow.{pow_pos}
use mathlib.Core.Bool.{true, false, not}
use mathlib.Core.Path.{◌≡◌, ap, sym, ◌∙◌}
use Rattle.basics.specs.Functions.{every}
use Rattle.basics.proofs.FunctionsLaws.{every-at, every-all}
use Rattle.basics.proofs.Tests.{not-true-is-false}
use Rattle.nodeset.specs.NodeSet.{member}
use Rattle.nodeset.proofs.Members.{none-in-zero, same-members}
use Rattle.protocol.specs.Rules.{absent, down_rule}
use Rattle.decision.proofs.rule.of_down.Goals as goal

none-absent : (n : ℕ) {s : ℕ} → s ≡ 0 → every n (absent (member s)) ≡ true
unfolding absent
none-absent n e = every-all n _ (λ k l u. ap not (ap (λ (x : ℕ). member x k) e ∙ none-in-zero k))

absent_none : (n s : ℕ) → s < 2 ^ n → every n (absent (member s)) ≡ true → s ≡ 0
unfolding absent
absent_none n s h e = same-members n s 0 h (pow_pos n) (λ k l u. not-true _ (every-at n _ e k l u) ∙ sym (none-in-zero k))

-- the set is not empty
inhabited : (n s : ℕ) → s < 2 ^ n → (s ≡ 0 → ⊥) → every n (absent (member s)) ≡ false
inhabited n s h ne = not-true-is-false _ (λ e. ne (absent_none n s h e))

pub returns-then-set-eq0 : goal.returns-then-set-eq0
unfolding down_rule
returns-then-set-eq0 c = rw (none-absent c.args.views.n c.if-set-eq0.true)

pub returns-then-is_sink : goal.returns-then-is_sink
unfolding down_rule
returns-then-is_sink c = rw (inhabited c.args.views.n c.args.set c.requires.1 c.if-set-eq0.false, ← c.is_sink.ensures, c.if-is_sink.true)

pub returns : goal.returns
unfolding down_rule
returns c = rw (inhabited c.args.views.n c.args.set c.requires.1 c.if-set-eq0.false, ← c.is_sink.ensures, c.if-is_sink.false)
