-- The tests that the walks make at a node, from what the looks answer, are those of the definitions.
use Prim.Native.Nat.{ℕ, ◌-◌}
use mathlib.Core.Bool.{Bool, ◌&&◌, beq}
use mathlib.Core.List.{List, [], ◌∷◌}
use mathlib.Core.Path.{◌≡◌, refl, ap, ap₂, ◌∙◌}
use lib.Dec.{eqb, eqb-suc-zero}
use lib.ListN.{get_or, length}
use Rattle.nodeset.specs.NodeSet.{member}
use Rattle.protocol.specs.Network.{Node, Message, up_to, own}
use Rattle.protocol.specs.Quiet.{pair_quiet}
use Rattle.tables.specs.Tables.{Tables}
use Rattle.groups.specs.Groups.{collects}
use Rattle.sound.specs.inner.Looks.{waiting_on}
use Rattle.groups.specs.inner.Words.{in_words, SetWords}
use Rattle.protocol.specs.Holds.{is_empty}
use Rattle.tables.specs.Load.{load}
use Rattle.groups.proofs.LinkLaws.{in-words}

pub empty-is : (ms : List Message) → eqb (length ms) 0 ≡ is_empty ms
empty-is [] = refl
empty-is (m ∷ ms) = eqb-suc-zero (length ms)

module _ (n : ℕ) (t : Tables) where
  pub collect-test : (s w lid : ℕ) (a : Bool) → lid ≡ (own (load n t) w).pair.lid → a ≡ member s w → (a && eqb lid w) ≡ collects (own (load n t)) s w
  unfolding collects
  collect-test s w lid a e p = ap₂ (λ (x : Bool) (y : ℕ). x && eqb y w) p e

  module _ (ups : List ℕ) (read : SetWords n (up_to (load n t)) ups) where
    up-found : (u v out : ℕ) (a : Bool) → Node n u → Node n v → out ≡ get_or ups (u - 1) 0 → a ≡ member out v → a ≡ up_to (load n t) u v
    unfolding in_words
    up-found u v out a x y e q = q ∙ ap (λ (s : ℕ). member s v) e ∙ in-words n (up_to (load n t)) ups read u v x y

    pub quiet-test : (u v out back waits : ℕ) (a b : Bool) → Node n u → Node n v → out ≡ get_or ups (u - 1) 0 → back ≡ get_or ups (v - 1) 0
        → waits ≡ waiting_on n t u v → a ≡ member out v → b ≡ member back u
        → (eqb waits 0 && beq a b) ≡ pair_quiet (load n t) u v
    unfolding pair_quiet waiting_on
    quiet-test u v out back waits a b x y e f w p r =
        ap₂ ◌&&◌ (ap (λ (k : ℕ). eqb k 0) w ∙ empty-is ((load n t).channel u v))
        (ap₂ beq (up-found u v out a x y e p) (up-found v u back b y x f r))
