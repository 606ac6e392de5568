-- Following arrows in the drawing of a quiet grown plot leads to the collector of the group: there is a way to it, no arrow leaves it,
-- and an arrow leaves every other member of the group.
use Prim.Native.Nat.{ℕ}
use mathlib.Core.Bool.{true, false}
use mathlib.Core.List.{List}
use mathlib.Core.Logic.{inl, inr}
use mathlib.Core.Path.{◌≡◌, refl, sym, subst, fun_ext, ◌∙◌}
use lib.IntN.{ℤ}
use Rattle.basics.proofs.Tests.{clash, not-true-is-false, SameOrNot, equal?}
use Rattle.calls.specs.Component.{Linked, Joined, alone, link, Descending, arrived, falls, OneLeader}
use Rattle.calls.specs.History.{grown}
use Rattle.calls.proofs.Groups.{joined-trans, chain-falls, same-collector}
use Rattle.calls.proofs.Leaders.{quiet-quiescent}
use Rattle.calls.proofs.Theorems.{grown-told, grown-led}
use Rattle.height.specs.Height.{height_key}
use Rattle.height.specs.Order.{before}
use Rattle.height.proofs.OrderLaws.{before-asym, before-irrefl, before-trans}
use Rattle.protocol.specs.Network.{Node, Network, up_to, own}
use Rattle.protocol.specs.Quiet.{quiet}
use Rattle.protocol.specs.Step.{Event}
use Rattle.drawing.specs.Drawing.{points}
use Rattle.drawing.proofs.Arrows.{points-if, arrow-links}

-- ---- the statement

-- from u arrows lead to w, one behind the other
pub data Follows (n : ℕ) (p : Network) : ℕ → ℕ → Type 0 where
  here : {u : ℕ} → Follows n p u u
  along : {u v w : ℕ} → Node n v → points p u v ≡ true → Follows n p v w → Follows n p u w

-- of u's group with its one collector: a way of arrows leads from u to it, no arrow leaves it, and one leaves every other member; so whichever arrows
-- are followed from u, they end at the collector
pub record Led (n : ℕ) (p : Network) (u : ℕ) : Type 0 where
  pub one : OneLeader n (up_to p) (own p) u
  pub way : Follows n p u one.leader
  pub end : (w : ℕ) → Node n w → points p one.leader w ≡ false
  pub onward : (w : ℕ) → Joined n (up_to p) u w → (w ≡ one.leader → ⊥) → (x : ℕ) × (Node n x × (points p w x ≡ true))
  pub ends : (w : ℕ) → Follows n p u w → ((x : ℕ) → Node n x → points p w x ≡ false) → w ≡ one.leader

-- ---- the proof

module _ (n : ℕ) (p : Network) where
  -- each step of a chain is an arrow
  step-points : {u v : ℕ} → Linked n (up_to p) u v → before (height_key (own p v)) (height_key (own p u)) ≡ true → points p u v ≡ true
  step-points {u = u} {v = v} l b = points-if p u v (record { forth = l.forth; back = l.back; lower = b })

  chain-follows : {u w : ℕ} → Descending n (up_to p) (own p) u w → Follows n p u w
  chain-follows arrived = here
  chain-follows (falls l b d) = along l.two.other (step-points l b) (chain-follows d)

  first_step : {u w : ℕ} → Descending n (up_to p) (own p) u w → (u ≡ w → ⊥) → (x : ℕ) × (Node n x × (points p u x ≡ true))
  first_step arrived d = absurd (d refl)
  first_step (falls {v = v} l b k) d = (v, (l.two.other, step-points l b))

  member-node : {u w : ℕ} → Node n u → Joined n (up_to p) u w → Node n w
  member-node a alone = a
  member-node a (link l j) = member-node l.two.other j

  -- arrows lead inside the group, and down
  follows-joined : {u w : ℕ} → Node n u → Follows n p u w → Joined n (up_to p) u w
  follows-joined a here = alone
  follows-joined {u = u} a (along {v = v} b h f) = link (arrow-links n p u v a b h).0 (follows-joined b f)

  below : (k : List ℤ) {v w : ℕ} → Node n v → before (height_key (own p v)) k ≡ true → Follows n p v w → before (height_key (own p w)) k ≡ true
  below k a b here = b
  below k {v = v} a b (along {v = x} c h f) =
      below k c (before-trans (height_key (own p x)) (height_key (own p v)) k (arrow-links n p v x a c h).1 b) f

  -- arrows never run in a ring, whatever the network is
  pub no-ring : (u v : ℕ) → Node n u → Node n v → points p u v ≡ true → Follows n p v u → ⊥
  no-ring u v a b h f =
      clash (below (height_key (own p u)) b (arrow-links n p u v a b h).1 f) (before-irrefl (height_key (own p u)))

  module _ (led : (u : ℕ) → Node n u → OneLeader n (up_to p) (own p) u) (u : ℕ) (node : Node n u) where
    abbrev first : OneLeader n (up_to p) (own p) u
    first = led u node

    -- an arrow from the collector would lead down to a member whose chain leads down to the collector
    no_end : (w : ℕ) → Node n w → points p first.leader w ≡ false
    no_end w a =
        not-true-is-false (points p first.leader w) (λ h.
        let c = first.leader in
        let k = arrow-links n p c w first.node a h in
        let joined : Joined n (up_to p) u w = joined-trans n (up_to p) first.member (link k.0 alone) in
        let is : c ≡ (led w a).leader = same-collector n (up_to p) (own p) joined first (led w a) in
        let chain : Descending n (up_to p) (own p) w c = subst (λ (x : ℕ). Descending n (up_to p) (own p) w x) (sym is) (led w a).chain in
        let below = chain-falls n (up_to p) (own p) chain (λ e. k.0.two.differ (sym e)) in
        clash k.1 (before-asym (height_key (own p c)) (height_key (own p w)) below))

    goes_on : (w : ℕ) → Joined n (up_to p) u w → (w ≡ first.leader → ⊥) → (x : ℕ) × (Node n x × (points p w x ≡ true))
    goes_on w j d =
        let a = member-node node j in
        let is : first.leader ≡ (led w a).leader = same-collector n (up_to p) (own p) j first (led w a) in
        first_step (led w a).chain (λ e. d (e ∙ sym is))

    at-end : (w : ℕ) → Follows n p u w → ((x : ℕ) → Node n x → points p w x ≡ false) → w ≡ first.leader
    at-end w f none = go (equal? w first.leader)
      where
        go : SameOrNot w first.leader → w ≡ first.leader
        go (inl e) = e
        go (inr d) = let on = goes_on w (follows-joined node f) d in clash on.1.1 (none on.0 on.1.0)

    all-led : Led n p u
    all-led = record { one = first; way = chain-follows first.chain; end = no_end; onward = goes_on; ends = at-end }

-- quiet, read off the network: one collector
quiet-led : (n : ℕ) (es : List Event) → quiet n (grown n es).network ≡ true → (u : ℕ) → Node n u
    → OneLeader n (up_to (grown n es).network) (own (grown n es).network) u
quiet-led n es q u node =
    let p = (grown n es).network in
    let h = (grown n es).history in
    let told = grown-told n es in
    subst (λ ups. OneLeader n ups (own p) u) (fun_ext (λ a. fun_ext (λ b. told.ups a b))) (grown-led n es (quiet-quiescent n p h told q) u node)

pub arrows-lead : (n : ℕ) (es : List Event) → quiet n (grown n es).network ≡ true → (u : ℕ) → Node n u → Led n (grown n es).network u
arrows-lead n es q u node = all-led n (grown n es).network (quiet-led n es q) u node
