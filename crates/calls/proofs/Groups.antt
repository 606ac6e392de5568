-- Groups, chains and collectors, whatever is up and whatever the heights are: being of one group goes both ways and on, a chain stays inside
-- the group and falls to its end, and a group has one collector for all its members.
use Prim.Native.Nat.{ℕ}
use mathlib.Core.Bool.{Bool, true}
use mathlib.Core.Path.{◌≡◌, refl, sym, ◌∙◌}
use Rattle.height.specs.Height.{height_key}
use Rattle.height.specs.Order.{before}
use Rattle.height.specs.declared.Height.{Height}
use Rattle.height.proofs.OrderLaws.{before-trans}
use Rattle.calls.specs.Component.{Linked, Joined, alone, link, Descending, arrived, falls, Leader, OneLeader}

module _ (n : ℕ) (ups : ℕ → ℕ → Bool) where
  pub joined-trans : {u v w : ℕ} → Joined n ups u v → Joined n ups v w → Joined n ups u w
  joined-trans alone k = k
  joined-trans (link l j) k = link l (joined-trans j k)

  turned : {u v : ℕ} → Linked n ups u v → Linked n ups v u
  turned l = record {
    two = record { one = l.two.other; other = l.two.one; differ = λ q. l.two.differ (sym q) };
    forth = l.back;
    back = l.forth;
  }

  pub joined-sym : {u v : ℕ} → Joined n ups u v → Joined n ups v u
  joined-sym alone = alone
  joined-sym (link l j) = joined-trans (joined-sym j) (link (turned l) alone)

  module _ (own : ℕ → Height) where
    -- a chain stays inside the group
    pub chain-joined : {u w : ℕ} → Descending n ups own u w → Joined n ups u w
    chain-joined arrived = alone
    chain-joined (falls l b d) = link l (chain-joined d)

    below : (u : ℕ) {v w : ℕ} → before (height_key (own v)) (height_key (own u)) ≡ true → Descending n ups own v w
        → before (height_key (own w)) (height_key (own u)) ≡ true
    below u b arrived = b
    below u {v = v} b (falls {v = x} l c d) =
        below u (before-trans (height_key (own x)) (height_key (own v)) (height_key (own u)) c b) d

    -- and falls: its end is below its start
    pub chain-falls : {u w : ℕ} → Descending n ups own u w → (u ≡ w → ⊥) → before (height_key (own w)) (height_key (own u)) ≡ true
    chain-falls arrived e = absurd (e refl)
    chain-falls {u = u} (falls l b d) e = below u b d

    -- one collector for all of a group
    pub same-collector : {u v : ℕ} → Joined n ups u v → (a : OneLeader n ups own u) (b : OneLeader n ups own v) → a.leader ≡ b.leader
    same-collector j a b = sym (a.only b.leader (joined-trans j b.member) b.leads)

    -- and no two
    pub no_second : {u : ℕ} → OneLeader n ups own u → (v w : ℕ) → Joined n ups u v → Joined n ups u w → Leader own v → Leader own w → v ≡ w
    no_second o v w j k a b = o.only v j a ∙ sym (o.only w k b)
