-- An event at a node with another: what its rule has to show so that the invariant is kept.
use Prim.Native.Nat.{ℕ}
use mathlib.Core.Bool.{Bool, true, false}
use mathlib.Core.Logic.{inl, inr}
use mathlib.Core.Path.{◌≡◌, refl, sym, ◌∙◌}
use borrow.Author.Tests.{eq-eqb, ne_eqb}
use Rattle.basics.specs.Functions.{update}
use Rattle.basics.proofs.FunctionsLaws.{update-at, update-off, update_all}
use Rattle.basics.proofs.Tests.{clash, SameOrNot, equal?, not-both}
use Rattle.height.specs.declared.Height.{Height}
use Rattle.protocol.specs.Network.{Network, up_to}
use Rattle.protocol.specs.Rules.{down_rule}
use Rattle.protocol.specs.Step.{Event, up, down, receive, home, peer, height_after, sends, Local, carried, cleared, commit}
use Rattle.protocol.specs.declared.Rule.{Rule}
use Rattle.protocol.proofs.Channels.{cleared-off, cleared-is, cleared-all}
use Rattle.protocol.proofs.Invariant.{PostedBy, NodeInv, side_of, Inv, news, LinkAfter, commit-inv, SameBut}
use Rattle.protocol.proofs.LinkLaws.{Informed, tells, silent, spoken, speak, drained}
use Rattle.protocol.proofs.RuleCases.{down_cases, Sending, to_all, to_one, to_none, Kept}

-- what w hears of the rule at u, w not the event's own v
informed : (v : ℕ) (old h : Height) (r : Rule) → Sending v old h r → (w : ℕ) (b : Bool) → (w ≡ v → ⊥) → Informed old h (sends v r w b) b
informed v old h r (to_all f) w b d = tells (f w b)
informed v old h r (to_one e f) w b d = silent (f w b ∙ ne_eqb w v d) e
informed v old h r (to_none e f) w b d = silent (f w b) e

pub informed-v : (v : ℕ) (old h : Height) (r : Rule) → Sending v old h r → Informed old h (sends v r v true) true
informed-v v old h r (to_all f) = tells (f v true)
informed-v v old h r (to_one e f) = tells (f v true ∙ eq-eqb v v refl)
informed-v v old h r (to_none e f) = silent (f v true) e

-- after a down nothing goes to v
pub down-silent : (n u v : ℕ) (N : ℕ → Bool) (row : ℕ → Height) → sends v (down_rule n N row u) v false ≡ false
down-silent n u v N row = down_cases n N row u (λ r. sends v r v false ≡ false) refl (λ _. refl) (λ _. refl)

-- the event e touches no channel but those between its two nodes
cleared-apart : (p : Network) (e : Event) (a b : ℕ) → (a ≡ home e → b ≡ peer e → ⊥) → (a ≡ peer e → b ≡ home e → ⊥)
    → cleared p e a b ≡ p.channel a b
cleared-apart p (up u v) a b h k = refl
cleared-apart p (down u v) a b h k = cleared-off p (down u v) a b (not-both a u b v h) refl
cleared-apart p (receive v u) a b h k = cleared-off p (receive v u) a b refl (not-both a v b u k)

-- ---- an event at u with the other node v: what its rule has yet to show

module _ (e : Event) where
  abbrev u : ℕ
  u = home e

  abbrev v : ℕ
  v = peer e

  module _ (n : ℕ) (p : Network) (inv : Inv n p) (other : u ≡ v → ⊥) where
    -- u's sets and heights before the rule
    pub record Changed (N F : ℕ → Bool) (row : ℕ → Height) : Type 0 where
      pub same : SameBut p u v N F row
      pub sender : N v ≡ true → (row v).id ≡ v

    module _ (N F : ℕ → Bool) (row : ℕ → Height) (k : Changed N F row) where
      pub seen : (w : ℕ) → N w ≡ true → (row w).id ≡ w
      seen w i = go (equal? w v)
        where
          go : SameOrNot w v → (row w).id ≡ w
          go (inl q) = rw q (k.sender (rw q at i))
          go (inr d) = rw (k.same.same_h w d) ((inv.nodes u).seen w (rw (k.same.same_n w d) at i))

      pub mine : (row u).id ≡ u
      mine = rw (k.same.same_h u other) (inv.nodes u).mine

      pub self_n : N u ≡ false
      self_n = k.same.same_n u other ∙ (inv.nodes u).self_n

      pub self_f : F u ≡ false
      self_f = k.same.same_f u other ∙ (inv.nodes u).self_f

      pub carried_keeps : (t : ℕ) (r : Rule) → Kept n N row u v t r (height_after n N row u v t r)
          → LinkAfter p u (carried n N F row u v t r) (cleared p e) v
          → Inv n (commit p u (carried n N F row u v t r) (cleared p e))
      unfolding carried news drained spoken
      carried_keeps t r kept at-v =
          commit-inv p u l (cleared p e) n inv settled
          (λ a b. cleared-all (PostedBy a) (p.channel a b) (cleared p e a b) (cleared-is p e a b) (inv.posted a b))
          (λ a b d f. cleared-apart p e a b (λ q _. d q) (λ _ q. f q)) (λ b d. around b d (equal? b v))
        where
          l : Local
          l = carried n N F row u v t r

          h : Height
          h = height_after n N row u v t r

          settled : NodeInv n u N F (update row u h)
          settled = record {
            awake = kept.awake;
            mine = rw (update-at row u h) kept.own;
            seen = update_all (λ a x. N a ≡ true → x.id ≡ a) row u h (λ i. clash i self_n) (λ a d. seen a);
            self_n = self_n;
            self_f = self_f;
          }

          around : (b : ℕ) → (b ≡ u → ⊥) → SameOrNot b v → LinkAfter p u l (cleared p e) b
          around b d (inl q) = rw q at-v
          around b d (inr f) =
              rw (
                update-at row u h,
                update-off row u h b d,
                k.same.same_n b f,
                k.same.same_f b f,
                k.same.same_h b f,
                cleared-apart p e u b (λ _ q. f q) (λ q _. other q),
                cleared-apart p e b u (λ q _. d q) (λ q _. f q),
              )
              (speak (side_of p u b) (side_of p b u) (record { height = h; timestamp = t }) (sends v r b (up_to p u b))
              (rw (k.same.same_h u other) at kept.falls)
              (rw (k.same.same_h u other) at (informed v (row u) h r kept.sending b (up_to p u b) f)) (inv.links u b (λ q. d (sym q))))
