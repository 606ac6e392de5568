-- The invariant `Inv`, which holds of every network grown from the fresh one (Good.antt), and what an event has to show to keep it.
use Prim.Native.Nat.{ℕ}
use mathlib.Core.Bool.{Bool, true, false}
use mathlib.Core.List.{List}
use mathlib.Core.Logic.{inl, inr}
use mathlib.Core.Path.{◌≡◌, refl, sym, ◌∙◌}
use Rattle.basics.specs.Functions.{update}
use Rattle.basics.proofs.AllOf.{AllOf}
use Rattle.basics.proofs.FunctionsLaws.{update-at, update-off, row_at, row-off}
use Rattle.basics.proofs.Tests.{SameOrNot, equal?}
use Rattle.height.specs.declared.Height.{Height}
use Rattle.protocol.specs.Network.{Message, Network}
use Rattle.protocol.specs.Sink.{sink}
use Rattle.protocol.specs.Step.{Local, post, commit}
use Rattle.protocol.proofs.Channels.{post-all}
use Rattle.protocol.proofs.LinkLaws.{Side, Link, flip, drained}

-- a message of u's
pub record PostedBy (u : ℕ) (m : Message) : Type 0 where
  pub sender : m.height.id ≡ u

-- node u
pub record NodeInv (n u : ℕ) (N F : ℕ → Bool) (row : ℕ → Height) : Type 0 where
  pub awake : sink n N row u ≡ false
  pub mine : (row u).id ≡ u
  pub seen : (v : ℕ) → N v ≡ true → (row v).id ≡ v
  pub self_n : N u ≡ false
  pub self_f : F u ≡ false

abbrev pub side_of : Network → ℕ → ℕ → Side
side_of p a b = record {
  neighbors = p.neighbors a b;
  forming = p.forming a b;
  own = p.height a a;
  view = p.height a b;
  outgoing = p.channel a b;
}

pub record Inv (n : ℕ) (p : Network) : Type 0 where
  pub nodes : (u : ℕ) → NodeInv n u (p.neighbors u) (p.forming u) (p.height u)
  pub posted : (u v : ℕ) → AllOf (PostedBy u) (p.channel u v)
  pub links : (a b : ℕ) → (a ≡ b → ⊥) → Link (side_of p a b) (side_of p b a)

-- ---- the network after an event at u that leaves l there, sent over the channels ch

module _ (p : Network) (u : ℕ) (l : Local) (ch : ℕ → ℕ → List Message) where
  unfoldable pub news : Message
  news = record { height = l.row u; timestamp = l.clock }

  -- u's side towards b afterwards
  abbrev pub side_after : ℕ → Side
  side_after b = record {
    neighbors = l.neighbors b;
    forming = l.forming b;
    own = l.row u;
    view = l.row b;
    outgoing = post (l.sent b) news (ch u b);
  }

  -- the link between u and b afterwards
  abbrev pub LinkAfter : ℕ → Type 0
  LinkAfter b = Link (side_after b) (drained (side_of p b u) (ch b u))

  abbrev after : Network
  after = commit p u l ch

  side-at : (b : ℕ) → side_of after u b ≡ side_after b
  unfolding commit news
  side-at b = simp row_at

  side-off : (a b : ℕ) → (a ≡ u → ⊥) → side_of after a b ≡ drained (side_of p a b) (ch a b)
  unfolding commit drained
  side-off a b d = simp row-off

  commit-nodes : (n : ℕ) → Inv n p → NodeInv n u l.neighbors l.forming l.row
      → (a : ℕ) → SameOrNot a u → NodeInv n a (after.neighbors a) (after.forming a) (after.height a)
  unfolding commit
  commit-nodes n inv settled a (inl e) = simp (e, update-at) settled
  commit-nodes n inv settled a (inr d) = simp update-off (inv.nodes a)

  commit-posted : (l.row u).id ≡ u → ((a b : ℕ) → AllOf (PostedBy a) (ch a b)) → (a b : ℕ) → SameOrNot a u → AllOf (PostedBy a) (after.channel a b)
  unfolding commit news
  commit-posted mine posted a b (inl e) =
      simp (e, row_at) (post-all (PostedBy u) (l.sent b) news (ch u b) (record { sender = mine }) (posted u b))
  commit-posted mine posted a b (inr d) = simp row-off (posted a b)

  commit-links : (n : ℕ) → Inv n p
      → ((a b : ℕ) → (a ≡ u → ⊥) → (b ≡ u → ⊥) → ch a b ≡ p.channel a b)
      → ((b : ℕ) → (b ≡ u → ⊥) → LinkAfter b)
      → (a b : ℕ) → (a ≡ b → ⊥) → Link (side_of after a b) (side_of after b a)
  unfolding drained
  commit-links n inv elsewhere around a b ne = go (equal? a u) (equal? b u)
    where
      at-u : (b : ℕ) → (b ≡ u → ⊥) → Link (side_of after u b) (side_of after b u)
      at-u b d = rw (side-at b, side-off b u d) (around b d)

      go : SameOrNot a u → SameOrNot b u → Link (side_of after a b) (side_of after b a)
      go (inl e) (inl f) = absurd (ne (e ∙ sym f))
      go (inl e) (inr d) = rw e (at-u b d)
      go (inr d) (inl e) = rw e (flip (side_of after u a) (side_of after a u) (at-u a d))
      go (inr d) (inr f) = rw (side-off a b d, side-off b a f, elsewhere a b d f, elsewhere b a f d) (inv.links a b ne)

  -- what is left to show of an event: its node, the channels before it sends, and the links of its node
  pub commit-inv : (n : ℕ) → Inv n p → NodeInv n u l.neighbors l.forming l.row
      → ((a b : ℕ) → AllOf (PostedBy a) (ch a b))
      → ((a b : ℕ) → (a ≡ u → ⊥) → (b ≡ u → ⊥) → ch a b ≡ p.channel a b)
      → ((b : ℕ) → (b ≡ u → ⊥) → LinkAfter b)
      → Inv n (commit p u l ch)
  commit-inv n inv settled posted elsewhere around = record {
    nodes = λ a. commit-nodes n inv settled a (equal? a u);
    posted = λ a b. commit-posted settled.mine posted a b (equal? a u);
    links = commit-links n inv elsewhere around;
  }

-- ---- u's sets and heights before the rule: as they were but at v

pub record SameBut (p : Network) (u v : ℕ) (N F : ℕ → Bool) (row : ℕ → Height) : Type 0 where
  pub same_n : (w : ℕ) → (w ≡ v → ⊥) → N w ≡ p.neighbors u w
  pub same_f : (w : ℕ) → (w ≡ v → ⊥) → F w ≡ p.forming u w
  pub same_h : (w : ℕ) → (w ≡ v → ⊥) → row w ≡ p.height u w

module _ (p : Network) (u v : ℕ) where
  -- a message that is ignored
  pub same-all : SameBut p u v (p.neighbors u) (p.forming u) (p.height u)
  same-all = record { same_n = λ w d. refl; same_f = λ w d. refl; same_h = λ w d. refl }

  -- an up
  pub same-forming : SameBut p u v (p.neighbors u) (update (p.forming u) v true) (p.height u)
  same-forming = record { same_n = λ w d. refl; same_f = update-off (p.forming u) v true; same_h = λ w d. refl }

  -- a down, and a message that is taken
  pub same-updated : (x : Bool) (g : Height)
      → SameBut p u v (update (p.neighbors u) v x) (update (p.forming u) v false) (update (p.height u) v g)
  same-updated x g = record {
    same_n = update-off (p.neighbors u) v x;
    same_f = update-off (p.forming u) v false;
    same_h = update-off (p.height u) v g;
  }
