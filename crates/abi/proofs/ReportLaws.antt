-- What a rule says by its case: where it carries no node and no level, its letter and its set are all.
use Prim.Native.Nat.{ℕ}
use mathlib.Core.List.{[], ◌∷◌}
use mathlib.Core.Path.{◌≡◌, refl}
use denote.Enum.Declared.{tag_of}
use types.Run.{OneOf, miss}
use Rattle.height.specs.Height.{zero_level}
use Rattle.height.specs.declared.ReferenceLevel.{ReferenceLevel}
use Rattle.protocol.specs.Answer.{carried_out, said_rule}
use Rattle.protocol.specs.declared.Rule.TheVariants.{ChannelUp, ElectSelf, StartNewRefLevel, NoChange, Ignored}
use Rattle.protocol.specs.declared.Rule.TheVariants.{ReflectRefLevel, PropagateLargestRefLevel, AdoptLpIfPriority, Reply}
use Rattle.protocol.specs.declared.Rule.{Rule}
use Rattle.protocol.specs.contracts.Rule as rules

-- ---- events

-- neither A nor P
abbrev pub Bare : Rule → Type 0
Bare rule = OneOf (0 ∷ 1 ∷ 2 ∷ 3 ∷ 4 ∷ 5 ∷ 8 ∷ []) (tag_of rules.the_type rule)

bare-said : (rule : Rule) (set : ℕ) → Bare rule → carried_out (said_rule rule set).value.rule set 0 zero_level ≡ said_rule rule set
bare-said ChannelUp set k = refl
bare-said ElectSelf set k = refl
bare-said StartNewRefLevel set k = refl
bare-said NoChange set k = refl
bare-said Ignored set k = refl
bare-said ReflectRefLevel set k = refl
bare-said (PropagateLargestRefLevel l) set k = absurd (miss (0 ∷ 1 ∷ 2 ∷ 3 ∷ 4 ∷ 5 ∷ 8 ∷ []) 6 tt k)
bare-said (AdoptLpIfPriority v) set k = absurd (miss (0 ∷ 1 ∷ 2 ∷ 3 ∷ 4 ∷ 5 ∷ 8 ∷ []) 7 tt k)
bare-said Reply set k = refl

module _ (rule : Rule) (set letter : ℕ) (e : letter ≡ (said_rule rule set).value.rule) (l : ReferenceLevel) where
  pub adopted : {v : ℕ} → rule ≡ AdoptLpIfPriority v → l ≡ zero_level → carried_out letter set v l ≡ said_rule rule set
  adopted q z = rw (e, z, q) refl

  pub propagated : rule ≡ PropagateLargestRefLevel l → carried_out letter set 0 l ≡ said_rule rule set
  propagated q = rw (e, q) refl

  pub bare : Bare rule → l ≡ zero_level → carried_out letter set 0 l ≡ said_rule rule set
  bare k z = rw (e, z) (bare-said rule set k)
