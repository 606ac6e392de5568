-- In a quiet network that keeps the invariant, each component has exactly one leader, and a falling path leads to it.
-- Up and waiting are the network's own here; HistoryLaws.antt shows that the history says the same. Assumes the invariant.
use Prim.Native.Nat.{ℕ, zero, suc, ◌<◌}
use native.Mathlib.Omega.{arith}
use mathlib.Core.Bool.{Bool, true, false}
use mathlib.Core.List.{List, []}
use mathlib.Core.Logic.{◌⊎◌, inl, inr}
use mathlib.Core.Path.{◌≡◌, refl, sym, subst, ◌∙◌}
use lib.IntN.{ℤ}
use lib.ListN.{length}
use borrow.Author.Tests.{ne_eqb}
use Rattle.basics.specs.Functions.{every}
use Rattle.basics.proofs.FunctionsLaws.{Found, every-not}
use Rattle.basics.proofs.Tests.{clash, Choice, yes!, no!, choice, equal?}
use Rattle.height.specs.Height.{height_key, level_key, pair_key}
use Rattle.height.specs.Order.{before, same}
use Rattle.height.proofs.OrderLaws.{before-total, before-irrefl, before-trans, same_refl}
use Rattle.nodeset.specs.inner.Operations.{size_of}
use Rattle.protocol.specs.Network.{Node, Two, Network, up_to, own}
use Rattle.protocol.specs.Sink.{above, sink}
use Rattle.protocol.proofs.Channels.{no_length}
use Rattle.protocol.proofs.Invariant.{side_of, Inv}
use Rattle.protocol.proofs.LinkLaws.{Link}
use Rattle.protocol.proofs.RuleLaws.{PairLe}
use Rattle.calls.specs.Component.{Quiescent, Linked, Joined, alone, link, Descending, arrived, falls, Leader, OneLeader}
use Rattle.calls.proofs.CountLaws.{size_of-lt}

abbrev pub held : Network → ℕ → ℕ → ℕ
held p u v = length (p.channel u v)

swapped : (n u v : ℕ) → Two n u v → Two n v u
swapped n u v t = record { one = t.other; other = t.one; differ = λ q. t.differ (sym q) }

module _ (n : ℕ) (p : Network) (inv : Inv n p) (quiet : Quiescent n (up_to p) (held p)) where
  empty : (u v : ℕ) → Two n u v → p.channel u v ≡ []
  empty u v t = no_length (p.channel u v) (quiet.empty u v t)

  -- ---- linked nodes have equal leader pairs

  abbrev pair_of : ℕ → List ℤ
  pair_of u = pair_key (p.height u u).pair

  pairs-equal : (u v : ℕ) → Linked n (up_to p) u v → pair_of u ≡ pair_of v
  unfolding pair_key
  pairs-equal u v l = go (choice (p.neighbors u v)) (choice (p.neighbors v u))
    where
      k : Link (side_of p u v) (side_of p v u)
      k = inv.links u v l.two.differ

      e₁ : p.channel u v ≡ []
      e₁ = empty u v l.two

      e₂ : p.channel v u ≡ []
      e₂ = empty v u (swapped n u v l.two)

      both : PairLe (own p u) (own p v) → PairLe (own p v) (own p u) → pair_of u ≡ pair_of v
      both a b = before-total (pair_of u) (pair_of v) refl b a

      go : Choice (p.neighbors u v) → Choice (p.neighbors v u) → pair_of u ≡ pair_of v
      go (no! a) b = let z = k.there.asked (rw a at l.forth) l.back e₂ e₁ in both z.0 z.1
      go (yes! a) (no! b) = let z = k.here.asked (rw b at l.back) l.forth e₁ e₂ in both z.1 z.0
      go (yes! a) (yes! b) = both (k.there.known a l.back e₂).1 (k.here.known b l.forth e₁).1

  same-leader : (u v : ℕ) → Linked n (up_to p) u v → (own p u).pair.lid ≡ (own p v).pair.lid
  unfolding pair_key
  same-leader u v l = let e = pairs-equal u v l in cc

  joined-leader : (u v : ℕ) → Joined n (up_to p) u v → (own p u).pair.lid ≡ (own p v).pair.lid
  joined-leader u v alone = refl
  joined-leader u v (link {v = w} l j) = same-leader u w l ∙ joined-leader w v j

  -- ---- a node that is not its own leader has a lower linked node

  abbrev below : ℕ → ℕ → Bool
  below w u = before (height_key (p.height w w)) (height_key (p.height u u))

  record Lower (u : ℕ) : Type 0 where
    to : ℕ
    linked : Linked n (up_to p) u to
    lower : below to u ≡ true

  -- not a sink and not its own leader: some view fails the test
  failing : (u : ℕ) → (Leader (own p) u → ⊥) → Found n (above (p.neighbors u) (p.height u) u)
  unfolding sink
  failing u h = go (choice (every n (above (p.neighbors u) (p.height u) u)))
    where
      go : Choice (every n (above (p.neighbors u) (p.height u) u)) → Found n (above (p.neighbors u) (p.height u) u)
      go (yes! e) = clash (rw (e, ne_eqb (p.height u u).pair.lid u h)) (inv.nodes u).awake
      go (no! e) = every-not n (above (p.neighbors u) (p.height u) u) e

  -- two nodes have different heights, as these end in their numbers
  apart : (u w : ℕ) → Two n u w → below u w ≡ false → below w u ≡ true
  unfolding height_key level_key pair_key
  apart u w t h = go (choice (below w u))
    where
      go : Choice (below w u) → below w u ≡ true
      go (yes! e) = e
      go (no! e) =
          let k = before-total (height_key (p.height u u)) (height_key (p.height w w)) refl h e in
          let s : (p.height u u).id ≡ (p.height w w).id = cc in
          absurd (t.differ (sym (inv.nodes u).mine ∙ (s ∙ (inv.nodes w).mine)))

  lower : (u : ℕ) → Node n u → (Leader (own p) u → ⊥) → Lower u
  unfolding above
  lower u node h = go (choice (p.neighbors u w))
    where
      f : Found n (above (p.neighbors u) (p.height u) u)
      f = failing u h

      w : ℕ
      w = f.at

      go : Choice (p.neighbors u w) → Lower u
      go (no! i) = clash (rw i) f.fails
      go (yes! i) = record { to = w; linked = l; lower = apart u w t not-above }
        where
          t : Two n u w
          t = record {
            one = node;
            other = record { low = f.low; high = f.high };
            differ = λ q. clash i (subst (λ x. p.neighbors u x ≡ false) q (inv.nodes u).self_n);
          }

          forth : up_to p u w ≡ true
          forth = rw i

          back : up_to p w u ≡ true
          back = sym (quiet.paired u w t) ∙ forth

          l : Linked n (up_to p) u w
          l = record { two = t; forth = forth; back = back }

          view : p.height u w ≡ p.height w w
          view = ((inv.links u w t.differ).there.known i back (empty w u (swapped n u w t))).0

          agree : same (pair_of w) (pair_of u) ≡ true
          agree = rw (pairs-equal u w l) (same_refl (pair_of w))

          not-above : below u w ≡ false
          not-above = rw (i, view, agree) at f.fails

  -- ---- going down ends at a leader: fewer nodes are lower at each move

  rank : ℕ → ℕ
  rank u = size_of n (λ x. below x u)

  rank_falls : (u w : ℕ) → Node n w → below w u ≡ true → rank w < rank u
  unfolding rank
  rank_falls u w node e =
      size_of-lt n (λ x. below x w) (λ x. below x u)
      (λ x h. before-trans (height_key (p.height x x)) (height_key (p.height w w)) (height_key (p.height u u)) h e)
      w node (before-irrefl (height_key (p.height w w))) e

  record Reached (u : ℕ) : Type 0 where
    leader : ℕ
    node : Node n leader
    leads : Leader (own p) leader
    member : Joined n (up_to p) u leader
    path : Descending n (up_to p) (own p) u leader

  descend : (k u : ℕ) → rank u < k → Node n u → Reached u
  descend zero u h node = absurd (omega arith)
  descend (suc k) u h node =
      go (λ (w : ℕ) (q : rank w < k) (s : Node n w). descend k w q s) (equal? (p.height u u).pair.lid u)
    where
      go : ((w : ℕ) → rank w < k → Node n w → Reached w) → (Leader (own p) u) ⊎ (Leader (own p) u → ⊥) → Reached u
      go ih (inl e) = record { leader = u; node = node; leads = e; member = alone; path = arrived }
      go ih (inr d) =
          let x = lower u node d in
          let r = rank_falls u x.to x.linked.two.other x.lower in
          let g = ih x.to (omega arith) x.linked.two.other in
          record {
            leader = g.leader;
            node = g.node;
            leads = g.leads;
            member = link x.linked g.member;
            path = falls x.linked x.lower g.path;
          }

  -- equal pairs over a component make two leaders one
  pub one-leader : (u : ℕ) → Node n u → OneLeader n (up_to p) (own p) u
  one-leader u node =
      let g = descend (suc (rank u)) u (omega arith) node in
      record {
        leader = g.leader;
        node = g.node;
        leads = g.leads;
        member = g.member;
        chain = g.path;
        only = λ w j c. sym c ∙ (sym (joined-leader u w j) ∙ (joined-leader u g.leader g.member ∙ g.leads));
      }
