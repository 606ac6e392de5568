-- `decision::outcome::height_after` meets its contract: the height of the rule at hand, which A and P alone can refuse.
use Prim.Native.Nat.{ℕ}
use mathlib.Core.Bool.{Bool}
use mathlib.Core.Path.{◌≡◌, refl}
use native.Mathlib.Omega.{arith}
use Rattle.std.specs.Prelude.{Ok}
use Rattle.height.specs.declared.Height.{Height}
use Rattle.height.specs.declared.ReferenceLevel.{ReferenceLevel}
use Rattle.height.proofs.WordsLaws.{negated_word}
use Rattle.protocol.specs.declared.Rule.TheVariants.{ChannelUp, ElectSelf, StartNewRefLevel, NoChange, Ignored}
use Rattle.protocol.specs.declared.Rule.TheVariants.{ReflectRefLevel, PropagateLargestRefLevel, AdoptLpIfPriority, Reply}
use Rattle.protocol.specs.declared.Rule.{Rule}
use Rattle.decision.specs.inner.After.{after_rule}
use Rattle.decision.proofs.outcome.height_after.Goals as goal

-- the rules of the last arm, U, Q, I and R, leave u's height
kept : (n : ℕ) (N : ℕ → Bool) (row : ℕ → Height) (u v t : ℕ) (rule : Rule)
    → (rule ≡ ElectSelf → ⊥) → (rule ≡ StartNewRefLevel → ⊥) → (rule ≡ ReflectRefLevel → ⊥)
    → ((l : ReferenceLevel) → rule ≡ PropagateLargestRefLevel l → ⊥) → ((x : ℕ) → rule ≡ AdoptLpIfPriority x → ⊥)
    → Ok (row u) ≡ after_rule n N row u v t rule
unfolding after_rule
kept n N row u v t ChannelUp e s f p a = refl
kept n N row u v t ElectSelf e s f p a = absurd (e refl)
kept n N row u v t StartNewRefLevel e s f p a = absurd (s refl)
kept n N row u v t NoChange e s f p a = refl
kept n N row u v t Ignored e s f p a = refl
kept n N row u v t ReflectRefLevel e s f p a = absurd (f refl)
kept n N row u v t (PropagateLargestRefLevel l) e s f p a = absurd (p l refl)
kept n N row u v t (AdoptLpIfPriority w) e s f p a = absurd (a w refl)
kept n N row u v t Reply e s f p a = refl

pub adopted-requires : goal.adopted-requires
adopted-requires c =
    rw c.in-AdoptLpIfPriority.is at c.requires.4

pub returns-in-ElectSelf : goal.returns-in-ElectSelf
unfolding after_rule
returns-in-ElectSelf c =
    let d = c.args.d in
    let e = c.self_elected.ensures in
    (rw (c.in-ElectSelf.is, e), rw e (negated_word d.clock.0 (omega arith)))

pub returns-in-StartNewRefLevel : goal.returns-in-StartNewRefLevel
unfolding after_rule
returns-in-StartNewRefLevel c = (rw (c.in-StartNewRefLevel.is, c.started.ensures.0), c.started.ensures.1)

pub returns-in-ReflectRefLevel : goal.returns-in-ReflectRefLevel
unfolding after_rule
returns-in-ReflectRefLevel c = (rw (c.in-ReflectRefLevel.is, c.reflected.ensures.0), c.reflected.ensures.1)

pub returns-in-PropagateLargestRefLevel : goal.returns-in-PropagateLargestRefLevel
returns-in-PropagateLargestRefLevel c = (rw c.in-PropagateLargestRefLevel.is c.propagated.ensures.0, c.propagated.ensures.1)

pub returns-in-AdoptLpIfPriority : goal.returns-in-AdoptLpIfPriority
returns-in-AdoptLpIfPriority c = (rw c.in-AdoptLpIfPriority.is c.adopted.ensures.0, c.adopted.ensures.1)

pub returns-in_default : goal.returns-in_default
returns-in_default c =
    let n = c.in_default in (
      rw c.of.ensures.0
          (kept _ _ _ _ _ _ c.args.d.rule n.not-ElectSelf n.not-StartNewRefLevel n.not-ReflectRefLevel n.not-PropagateLargestRefLevel n.not-AdoptLpIfPriority),
      c.of.ensures.1,
    )
