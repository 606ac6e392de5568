-- `decision::outcome::sent_to` meets its contract: U and R send to v alone, Q and I to nobody, every other rule to all of both sets.
use Prim.Native.Nat.{ℕ}
use mathlib.Core.Bool.{Bool}
use mathlib.Core.Logic.{◌⊎◌, inl, inr}
use mathlib.Core.Path.{◌≡◌, refl, sym, ◌∙◌}
use Rattle.nodeset.specs.NodeSet.{same_node, set_of}
use Rattle.nodeset.specs.inner.Operations.{in_either}
use Rattle.nodeset.proofs.Members.{set_of-none, set_of-ext}
use Rattle.protocol.specs.Step.{sends}
use Rattle.protocol.specs.declared.Rule.TheVariants.{ChannelUp, ElectSelf, StartNewRefLevel, NoChange, Ignored}
use Rattle.protocol.specs.declared.Rule.TheVariants.{ReflectRefLevel, PropagateLargestRefLevel, AdoptLpIfPriority, Reply}
use Rattle.protocol.specs.declared.Rule.{Rule}
use Rattle.decision.specs.inner.After.{sends_to}
use Rattle.decision.proofs.outcome.sent_to.Goals as goal

-- the rules of the last arm, E, S, F, P and A
sends-all : (v : ℕ) (rule : Rule) → (rule ≡ ChannelUp → ⊥) → (rule ≡ NoChange → ⊥) → (rule ≡ Ignored → ⊥) → (rule ≡ Reply → ⊥)
    → (w : ℕ) (up : Bool) → sends v rule w up ≡ up
sends-all v ChannelUp u q i r w up = absurd (u refl)
sends-all v ElectSelf u q i r w up = refl
sends-all v StartNewRefLevel u q i r w up = refl
sends-all v NoChange u q i r w up = absurd (q refl)
sends-all v Ignored u q i r w up = absurd (i refl)
sends-all v ReflectRefLevel u q i r w up = refl
sends-all v (PropagateLargestRefLevel l) u q i r w up = refl
sends-all v (AdoptLpIfPriority x) u q i r w up = refl
sends-all v Reply u q i r w up = absurd (r refl)

module _ (v : ℕ) (rule : Rule) (N F : ℕ) where
  alone : (rule ≡ ChannelUp) ⊎ (rule ≡ Reply) → set_of 16 (same_node v) ≡ set_of 16 (sends_to v rule N F)
  unfolding sends_to same_node
  alone (inl e) = rw e refl
  alone (inr e) = rw e refl

  nobody : (rule ≡ NoChange) ⊎ (rule ≡ Ignored) → 0 ≡ set_of 16 (sends_to v rule N F)
  unfolding sends_to
  nobody (inl e) = rw e (sym (set_of-none 16 _ (λ w l h. refl)))
  nobody (inr e) = rw e (sym (set_of-none 16 _ (λ w l h. refl)))

pub returns-in-ChannelUp : goal.returns-in-ChannelUp
returns-in-ChannelUp c = c.single.ensures ∙ alone _ _ _ _ c.in-ChannelUp.is

pub returns-in-NoChange : goal.returns-in-NoChange
returns-in-NoChange c = nobody _ _ _ _ c.in-NoChange.is

pub returns-in_default : goal.returns-in_default
unfolding sends_to in_either
returns-in_default c =
    let n = c.in_default in
    c.union.ensures
    ∙ set_of-ext 16 _ _ (λ w l h. sym (sends-all c.args.v c.args.d.rule n.not-ChannelUp n.not-NoChange n.not-Ignored n.not-Reply w _))
