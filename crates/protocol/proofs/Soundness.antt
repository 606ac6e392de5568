-- A sound network, by facts (`Fits`): within the ranges, sets apart, empty where a channel is down, as fresh outside 1 to n.
-- What an event has to show to keep it so (`commit-fits`); the fresh network is so.
use Prim.Native.Nat.{ℕ, ◌<◌, ◌≤◌}
use native.Mathlib.Omega.{arith}
use mathlib.Core.Bool.{Bool, true, false, ◌||◌}
use mathlib.Core.List.{List, []}
use mathlib.Core.Logic.{◌⊎◌, inl, inr}
use mathlib.Core.Path.{◌≡◌, refl, sym}
use lib.ListN.{length}
use borrow.Author.Tests.{eqb-true, eq-eqb, ne_eqb}
use Rattle.basics.proofs.AllOf.{AllOf, none}
use Rattle.basics.proofs.FunctionsLaws.{update-at, update-off, row_at, row-off}
use Rattle.basics.proofs.Tests.{not-true-is-false, clash, Choice, yes!, no!, choice, SameOrNot, equal?}
use Rattle.height.specs.Clock.{last_time}
use Rattle.height.specs.Height.{zero_height}
use Rattle.height.specs.declared.Height.{Height}
use Rattle.protocol.specs.Network.{Node, Message, Network, up_to, fresh_height, fresh}
use Rattle.protocol.specs.Step.{sends, Local, post, commit}
use Rattle.protocol.specs.declared.Rule.TheVariants.{AdoptLpIfPriority, ElectSelf, ReflectRefLevel, Ignored}
use Rattle.protocol.specs.declared.Rule.TheVariants.{PropagateLargestRefLevel, NoChange, Reply, StartNewRefLevel, ChannelUp}
use Rattle.protocol.specs.declared.Rule.{Rule}
use Rattle.protocol.proofs.Channels.{length-post, post-all, Cleared, cleared-short, cleared-nil, cleared-all}
use Rattle.protocol.proofs.Ranges.{HeightFits}
use Rattle.protocol.proofs.RangesAfter.{zero-level, zero-delta}

-- ---- nodes and channels

-- one node within the ranges, and as fresh if it is outside 1 to n
pub record Ranged (n u c : ℕ) (N F : ℕ → Bool) (row : ℕ → Height) : Type 0 where
  pub clock-le : c ≤ last_time
  pub own : Node n u → HeightFits n u (row u)
  pub views : (v : ℕ) → N v ≡ true → HeightFits n v (row v)
  pub blank : (v : ℕ) → (v ≡ u → ⊥) → N v ≡ false → row v ≡ zero_height
  pub in_n : (v : ℕ) → N v ≡ true → Node n v
  pub in_f : (v : ℕ) → F v ≡ true → Node n v
  pub self_n : N u ≡ false
  pub self_f : F u ≡ false
  pub apart : (v : ℕ) → N v ≡ true → F v ≡ false
  pub outside : (Node n u → ⊥) → (c ≡ 0) × ((v : ℕ) → N v ≡ false) × ((v : ℕ) → F v ≡ false) × (row u ≡ fresh.height u u)

-- a message of u's
pub record MessageFits (n u : ℕ) (m : Message) : Type 0 where
  pub height : HeightFits n u m.height
  pub timestamp-le : m.timestamp ≤ last_time

pub record Fits (n : ℕ) (p : Network) : Type 0 where
  pub nodes : (u : ℕ) → Ranged n u (p.clock u) (p.neighbors u) (p.forming u) (p.height u)
  pub messages : (u v : ℕ) → AllOf (MessageFits n u) (p.channel u v)
  pub lengths : (u v : ℕ) → length (p.channel u v) ≤ 8
  pub idle : (u v : ℕ) → up_to p u v ≡ false → p.channel u v ≡ []

-- no channel leads from a node to itself
pub diagonal : (n : ℕ) (p : Network) → Fits n p → (u : ℕ) → p.channel u u ≡ []
diagonal n p fits u = fits.idle u u (rw ((fits.nodes u).self_n, (fits.nodes u).self_f))

-- ---- the network after an event at u that leaves l there, sent over the channels ch

module _ (n : ℕ) (p : Network) (u : ℕ) (l : Local) (ch : ℕ → ℕ → List Message) (fits : Fits n p) where
  pub commit-fits : Ranged n u l.clock l.neighbors l.forming l.row → Node n u
      → ((a b : ℕ) → Cleared (p.channel a b) (ch a b)) → ((b : ℕ) → l.sent b ≡ true → length (ch u b) < 8)
      → ((b : ℕ) → (l.neighbors b || l.forming b) ≡ false → (ch u b ≡ []) × (l.sent b ≡ false))
      → Fits n (commit p u l ch)
  unfolding commit post
  commit-fits mine st clear space quiet = record {
    nodes = λ a. nodes a (equal? a u);
    messages = λ a b. messages a b (equal? a u);
    lengths = λ a b. lengths a b (equal? a u) (choice (l.sent b));
    idle = λ a b. idle a b (equal? a u);
  }
    where
      q : Network
      q = commit p u l ch

      news : Message
      news = record { height = l.row u; timestamp = l.clock }

      nodes : (a : ℕ) → SameOrNot a u → Ranged n a (q.clock a) (q.neighbors a) (q.forming a) (q.height a)
      nodes a (inl e) = simp (e, update-at) mine
      nodes a (inr d) = simp update-off (fits.nodes a)

      fit : (a b : ℕ) → AllOf (MessageFits n a) (ch a b)
      fit a b = cleared-all (MessageFits n a) (p.channel a b) (ch a b) (clear a b) (fits.messages a b)

      messages : (a b : ℕ) → SameOrNot a u → AllOf (MessageFits n a) (q.channel a b)
      messages a b (inl e) =
          let s : MessageFits n u news = record { height = mine.own st; timestamp-le = mine.clock-le } in
          simp (e, row_at) (post-all (MessageFits n u) (l.sent b) news (ch u b) s (fit u b))
      messages a b (inr d) = simp row-off (fit a b)

      short : (a b : ℕ) → length (ch a b) ≤ 8
      short a b = cleared-short (p.channel a b) (ch a b) 8 (clear a b) (fits.lengths a b)

      lengths : (a b : ℕ) → SameOrNot a u → Choice (l.sent b) → length (q.channel a b) ≤ 8
      lengths a b (inl e) (yes! s) = simp (e, row_at, s) (omega (arith, space b s, length-post true news (ch u b)))
      lengths a b (inl e) (no! s) = simp (e, row_at, s) (short u b)
      lengths a b (inr d) s = simp row-off (short a b)

      idle : (a b : ℕ) → SameOrNot a u → up_to q a b ≡ false → q.channel a b ≡ []
      idle a b (inl e) h = let z = quiet b (simp (e, row_at) at h) in simp (e, row_at, z.1) z.0
      idle a b (inr d) h =
          simp row-off (cleared-nil (p.channel a b) (ch a b) (clear a b) (fits.idle a b (simp row-off at h)))

-- ---- whom a rule sends to

pub sends-in : (v : ℕ) (r : Rule) (b : ℕ) (x : Bool) → sends v r b x ≡ true → (x ≡ true) ⊎ (b ≡ v)
sends-in v ChannelUp b x e = inr (eqb-true b v e)
sends-in v ElectSelf b x e = inl e
sends-in v StartNewRefLevel b x e = inl e
sends-in v NoChange b x e = clash e refl
sends-in v Ignored b x e = clash e refl
sends-in v ReflectRefLevel b x e = inl e
sends-in v Reply b x e = inr (eqb-true b v e)
sends-in v (PropagateLargestRefLevel l) b x e = inl e
sends-in v (AdoptLpIfPriority w) b x e = inl e

-- nothing goes to a node in neither set, other than v
pub sends-down : (v : ℕ) (r : Rule) (b : ℕ) → (b ≡ v → ⊥) → sends v r b false ≡ false
sends-down v r b d = not-true-is-false (sends v r b false) (λ e. go (sends-in v r b false e))
  where
    go : (false ≡ true) ⊎ (b ≡ v) → ⊥
    go (inl e) = clash e refl
    go (inr e) = d e

pub either : (a b : Bool) {X : Type 0} → (a || b) ≡ true → (a ≡ true → X) → (b ≡ true → X) → X
either true b e f g = f refl
either false b e f g = g e

-- ---- the fresh network

pub fresh-fits : (n : ℕ) → Fits n fresh
fresh-fits n = record {
  nodes = λ u. record {
    clock-le = omega arith;
    own = λ st. rw (eq-eqb u u refl) (own u st);
    views = λ v i. clash i refl;
    blank = λ v d i. rw (ne_eqb u v (λ q. d (sym q)));
    in_n = λ v i. clash i refl;
    in_f = λ v i. clash i refl;
    self_n = refl;
    self_f = refl;
    apart = λ v i. clash i refl;
    outside = λ d. (refl, (λ v. refl), (λ v. refl), refl);
  };
  messages = λ u v. none;
  lengths = λ u v. omega arith;
  idle = λ u v i. refl;
}
  where
    own : (u : ℕ) → Node n u → HeightFits n u (fresh_height u)
    own u st = record {
      level = zero-level n;
      delta = zero-delta;
      pair = record { election = 0; nlts-is = refl; election-le = omega arith; lid-low = st.low; lid-high = st.high };
      id = refl;
    }
