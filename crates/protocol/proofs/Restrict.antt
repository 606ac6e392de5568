-- Functions of nodes and of pairs cut down to 1 to n; a sound network is as fresh outside: its numbers at the nodes determine it.
-- Assumes, of the network, that it is sound, by facts (Soundness.antt).
use Prim.Native.Nat.{ℕ}
use mathlib.Core.Bool.{false}
use mathlib.Core.List.{[]}
use mathlib.Core.Logic.{inl, inr}
use mathlib.Core.Path.{◌≡◌, sym, fun_ext}
use borrow.Author.Tests.{ne_eqb}
use Rattle.basics.proofs.Tests.{not-true-is-false, Choice, yes!, no!, choice, SameOrNot, equal?}
use Rattle.protocol.specs.Network.{Node, Network, is_node, fresh, at_nodes, at_pairs, restrict}
use Rattle.protocol.proofs.NodeLaws.{is-node, no_node}
use Rattle.protocol.proofs.Soundness.{Fits}

-- ---- functions that agree outside 1 to n

pub pairs_is : {A : Type 0} (n : ℕ) (f g : ℕ → ℕ → A)
    → ((u v : ℕ) → (Node n u → ⊥) → g u v ≡ f u v)
    → ((u v : ℕ) → Node n u → (Node n v → ⊥) → g u v ≡ f u v)
    → at_pairs n f g ≡ f
pairs_is n f g out_u out_v = fun_ext λ u. fun_ext λ v. go u v (choice (is_node n u)) (choice (is_node n v))
  where
    go : (u v : ℕ) → Choice (is_node n u) → Choice (is_node n v) → at_pairs n f g u v ≡ f u v
    go u v (no! e) d = rw e (out_u u v (no_node n u e))
    go u v (yes! e) (no! d) = rw (e, d) (out_v u v (is-node n u e) (no_node n v d))
    go u v (yes! e) (yes! d) = rw (e, d)

pub nodes-is : {A : Type 0} (n : ℕ) (f g : ℕ → A) → ((u : ℕ) → (Node n u → ⊥) → g u ≡ f u) → at_nodes n f g ≡ f
nodes-is n f g out = fun_ext λ u. go u (choice (is_node n u))
  where
    go : (u : ℕ) → Choice (is_node n u) → at_nodes n f g u ≡ f u
    go u (no! e) = rw e (out u (no_node n u e))
    go u (yes! e) = rw e

-- ---- functions that agree at the nodes

pub same_nodes : {A : Type 0} (n : ℕ) (f g d : ℕ → A) → ((u : ℕ) → Node n u → f u ≡ g u) → at_nodes n f d ≡ at_nodes n g d
same_nodes n f g d h = fun_ext λ u. go u (choice (is_node n u))
  where
    go : (u : ℕ) → Choice (is_node n u) → at_nodes n f d u ≡ at_nodes n g d u
    go u (yes! s) = rw s (h u (is-node n u s))
    go u (no! s) = rw s

pub same-pairs : {A : Type 0} (n : ℕ) (f g d : ℕ → ℕ → A) → ((u v : ℕ) → Node n u → Node n v → f u v ≡ g u v) → at_pairs n f d ≡ at_pairs n g d
same-pairs n f g d h = fun_ext λ u. fun_ext λ v. go u v (choice (is_node n u)) (choice (is_node n v))
  where
    go : (u v : ℕ) → Choice (is_node n u) → Choice (is_node n v) → at_pairs n f d u v ≡ at_pairs n g d u v
    go u v (no! s) t = rw s
    go u v (yes! s) (no! t) = rw (s, t)
    go u v (yes! s) (yes! t) = rw (s, t) (h u v (is-node n u s) (is-node n v t))

-- ---- a sound network

pub restrict-is : (n : ℕ) (p : Network) → Fits n p → restrict n p ≡ p
unfolding restrict
restrict-is n p fits = λ i. record {
  clock = clocks i;
  neighbors = links i;
  forming = forms i;
  height = heights i;
  channel = channels i;
}
  where
    -- a node outside 1 to n holds nothing
    off : (u : ℕ) → (Node n u → ⊥)
        → (p.clock u ≡ 0) × ((v : ℕ) → p.neighbors u v ≡ false) × ((v : ℕ) → p.forming u v ≡ false) × (p.height u u ≡ fresh.height u u)
    off u d = (fits.nodes u).outside d

    -- and nothing is held of it
    not_n : (u v : ℕ) → (Node n v → ⊥) → p.neighbors u v ≡ false
    not_n u v d = not-true-is-false (p.neighbors u v) (λ e. d ((fits.nodes u).in_n v e))

    not_f : (u v : ℕ) → (Node n v → ⊥) → p.forming u v ≡ false
    not_f u v d = not-true-is-false (p.forming u v) (λ e. d ((fits.nodes u).in_f v e))

    clocks : at_nodes n p.clock fresh.clock ≡ p.clock
    clocks = nodes-is n p.clock fresh.clock (λ u d. sym (off u d).0)

    links : at_pairs n p.neighbors fresh.neighbors ≡ p.neighbors
    links = pairs_is n p.neighbors fresh.neighbors (λ u v d. sym ((off u d).1 v)) (λ u v s d. sym (not_n u v d))

    forms : at_pairs n p.forming fresh.forming ≡ p.forming
    forms = pairs_is n p.forming fresh.forming (λ u v d. sym ((off u d).2 v)) (λ u v s d. sym (not_f u v d))

    blank : (u v : ℕ) → (u ≡ v → ⊥) → p.neighbors u v ≡ false → fresh.height u v ≡ p.height u v
    blank u v d e = rw (ne_eqb u v d) (sym ((fits.nodes u).blank v (λ q. d (sym q)) e))

    out_u : (u v : ℕ) → (Node n u → ⊥) → SameOrNot u v → fresh.height u v ≡ p.height u v
    out_u u v d (inl e) = rw (← e) (sym (off u d).3)
    out_u u v d (inr e) = blank u v e ((off u d).1 v)

    out_v : (u v : ℕ) → Node n u → (Node n v → ⊥) → SameOrNot u v → fresh.height u v ≡ p.height u v
    out_v u v s d (inl e) = absurd (d (rw e at s))
    out_v u v s d (inr e) = blank u v e (not_n u v d)

    heights : at_pairs n p.height fresh.height ≡ p.height
    heights = pairs_is n p.height fresh.height (λ u v d. out_u u v d (equal? u v)) (λ u v s d. out_v u v s d (equal? u v))

    still : (u v : ℕ) → p.neighbors u v ≡ false → p.forming u v ≡ false → [] ≡ p.channel u v
    still u v a b = sym (fits.idle u v (rw (a, b)))

    channels : at_pairs n p.channel fresh.channel ≡ p.channel
    channels =
        pairs_is n p.channel fresh.channel (λ u v d. still u v ((off u d).1 v) ((off u d).2 v))
        (λ u v s d. still u v (not_n u v d) (not_f u v d))
