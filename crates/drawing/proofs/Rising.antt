-- Ups alone, each on a channel that is down: each is carried out by rule U and sends to its other node alone, whatever came before.
-- Assumes at most 16 nodes.
use Prim.Native.Nat.{ℕ, zero, suc, ◌+◌, ◌-◌, ◌≤◌}
use native.Mathlib.Omega.{arith}
use mathlib.Core.Bool.{Bool, true, false, not, ◌&&◌, ◌||◌, or-true}
use mathlib.Core.List.{List, [], ◌∷◌}
use mathlib.Core.Logic.{inl, inr}
use mathlib.Core.Path.{◌≡◌, refl, sym, ap, ◌∙◌}
use borrow.Author.Tests.{eq-eqb, ne_eqb, le-leb, le-ltb}
use lib.Dec.{eqb, leb, ltb}
use lib.ListN.{length}
use Rattle.basics.specs.Functions.{update, all}
use Rattle.basics.proofs.FunctionsLaws.{every-all, every-pair-at, update-at, update-off, row_at, row-off}
use Rattle.basics.proofs.Tests.{clash, and_right, SameOrNot, equal?}
use Rattle.calls.specs.History.{State, advance}
use Rattle.calls.proofs.Good.{Good, good-advance}
use Rattle.calls.proofs.Theorems.{good-steady}
use Rattle.height.specs.Height.{zero_level}
use Rattle.nodeset.specs.NodeSet.{digit, set_of, same_node}
use Rattle.nodeset.specs.inner.Operations.{size_of}
use Rattle.nodeset.proofs.Members.{one_more, size_of-ext}
use Rattle.protocol.specs.Answer.{Said, carried_out}
use Rattle.protocol.specs.Holds.{is_empty, message_holds, channel_holds, view_holds, pair_holds, sound}
use Rattle.protocol.specs.Network.{Message, Network, Two, up_to, capacity}
use Rattle.protocol.specs.Refusal.{misnamed, late, has_room, crowded, returned, accepts, answer, next}
use Rattle.protocol.specs.Step.{up, local, local_up, carried, commit, step}

-- what an accepted up of u v says
abbrev pub raised_to : ℕ → ℕ → Said
raised_to n v = carried_out 85 (set_of n (same_node v)) 0 zero_level

-- f, with u v besides
abbrev pub raise : (ℕ → ℕ → Bool) → ℕ → ℕ → ℕ → ℕ → Bool
raise f u v a b = eqb a u && eqb b v || f a b

-- exactly the channels of f are up, and no clock is past its node's channels
pub record Rising (n : ℕ) (s : State) (f : ℕ → ℕ → Bool) : Type 0 where
  pub good : Good n s
  pub ups : (u v : ℕ) → up_to s.network u v ≡ f u v
  pub clocks : (u : ℕ) → s.network.clock u ≤ size_of n (f u)

size-most : (n : ℕ) (f : ℕ → Bool) → size_of n f ≤ n
unfolding size_of
size-most zero f = omega arith
size-most (suc n) f = go (f 1) (size-most n (λ k. f (suc k)))
  where
    go : (b : Bool) → size_of n (λ k. f (suc k)) ≤ n → digit b + size_of n (λ k. f (suc k)) ≤ suc n
    go true h = omega arith
    go false h = omega arith

-- ---- a network that breaks no rule: a channel that is down is empty

is-empty : (ms : List Message) → is_empty ms ≡ true → length ms ≡ 0
is-empty [] h = refl
is-empty (m ∷ ms) h = clash h refl

down-empty : (n : ℕ) (p : Network) → sound n p ≡ true → (u v : ℕ) → Two n u v → up_to p u v ≡ false → length (p.channel u v) ≡ 0
unfolding sound pair_holds channel_holds
down-empty n p h u v two down =
    let pair = every-pair-at n (pair_holds n p) h u two.one.low two.one.high v two.other.low two.other.high in
    let both : (view_holds n p u v && channel_holds n p u v) ≡ true = rw (ne_eqb u v two.differ) at pair in
    let holds = and_right (view_holds n p u v) (channel_holds n p u v) both in
    let last : (up_to p u v || is_empty (p.channel u v)) ≡ true =
    and_right (leb (length (p.channel u v)) capacity && all (message_holds n u) (p.channel u v)) (up_to p u v || is_empty (p.channel u v)) holds in
    is-empty (p.channel u v) (rw down at last)

-- ---- one up

module _ (n : ℕ) (few : n ≤ 16) (s : State) (f : ℕ → ℕ → Bool) (r : Rising n s f) (u v : ℕ) (two : Two n u v) (new : f u v ≡ false) where
  abbrev p : Network
  p = s.network

  down : up_to p u v ≡ false
  down = r.ups u v ∙ new

  in-time : late (local n p (up u v)) ≡ false
  unfolding late local_up carried
  in-time = le-ltb 4294967295 (suc (p.clock u)) (omega (arith, r.clocks u, size-most n (f u)))

  room : (w : ℕ) → has_room (local n p (up u v)) (p.channel u) w ≡ true
  unfolding has_room local_up carried
  room w = go (equal? w v)
    where
      go : SameOrNot w v → (not (eqb w v) || ltb (length (p.channel u w)) capacity) ≡ true
      go (inl e) =
          let empty = down-empty n p (good-steady n s r.good).breaks-no-rule u v two down in
          rw (e, empty, eq-eqb v v refl) refl
      go (inr d) = rw (ne_eqb w v d) refl

  named : misnamed n (up u v) ≡ false
  unfolding misnamed
  named = rw (
    le-leb 1 u two.one.low,
    le-leb u n two.one.high,
    le-leb 1 v two.other.low,
    le-leb v n two.other.high,
    ne_eqb u v two.differ,
  ) refl

  nothing-refused : returned n p (up u v) ≡ 0
  unfolding returned crowded local_up carried
  nothing-refused = rw (named, down, in-time, every-all n (has_room (local n p (up u v)) (p.channel u)) (λ w a b. room w)) refl

  is-accepted : accepts n p (up u v) ≡ true
  unfolding accepts
  is-accepted = rw nothing-refused refl

  pub up-said : answer n p (up u v) ≡ raised_to n v
  unfolding answer local_up carried same_node
  up-said = rw is-accepted refl

  after : next n p (up u v) ≡ step n p (up u v)
  unfolding next
  after = rw is-accepted refl

  -- which channels are up then
  up-after : (a b : ℕ) → up_to (step n p (up u v)) a b ≡ raise f u v a b
  unfolding step commit local_up carried
  up-after a b = go (equal? a u)
    where
      at-v : (c : ℕ) → (p.neighbors u c || update (p.forming u) v true c) ≡ (eqb c v || f u c)
      at-v c = here (equal? c v)
        where
          here : SameOrNot c v → (p.neighbors u c || update (p.forming u) v true c) ≡ (eqb c v || f u c)
          here (inl e) = rw (e, update-at (p.forming u) v true, eq-eqb v v refl) (or-true (p.neighbors u v))
          here (inr d) = rw (update-off (p.forming u) v true c d, ne_eqb c v d) (r.ups u c)

      go : SameOrNot a u
          → (update p.neighbors u (p.neighbors u) a b || update p.forming u (update (p.forming u) v true) a b) ≡ (eqb a u && eqb b v || f a b)
      go (inl e) =
          rw (e, row_at p.neighbors u (p.neighbors u) b, row_at p.forming u (update (p.forming u) v true) b, eq-eqb u u refl) (at-v b)
      go (inr d) =
          rw (row-off p.neighbors u (p.neighbors u) a b d, row-off p.forming u (update (p.forming u) v true) a b d, ne_eqb a u d) (r.ups a b)

  -- one channel more at u
  size-after : size_of n (raise f u v u) ≡ size_of n (f u) + 1
  size-after =
      let k = v - 1 in
      let at : suc k ≡ v = omega (arith, two.other.low) in
      let off : f u (suc k) ≡ false = ap (f u) at ∙ new in
      let on : raise f u v u (suc k) ≡ true = rw (at, eq-eqb u u refl, eq-eqb v v refl) refl in
      let rest : (j : ℕ) → (j ≡ suc k → ⊥) → raise f u v u j ≡ f u j = λ j d. rw (eq-eqb u u refl, ne_eqb j v (λ e. d (e ∙ sym at))) refl in
      (one_more n k (f u) (raise f u v u) (omega (arith, two.other.low, two.other.high)) off on rest).1

  clock-after : (a : ℕ) → (step n p (up u v)).clock a ≤ size_of n (raise f u v a)
  unfolding step commit local_up carried
  clock-after a = go (equal? a u)
    where
      go : SameOrNot a u → update p.clock u (suc (p.clock u)) a ≤ size_of n (raise f u v a)
      go (inl e) = rw (e, update-at p.clock u (suc (p.clock u))) (omega (arith, r.clocks u, size-after))
      go (inr d) =
          let same : size_of n (raise f u v a) ≡ size_of n (f a) = size_of-ext n (raise f u v a) (f a) (λ k l h. rw (ne_eqb a u d) refl) in
          rw (update-off p.clock u (suc (p.clock u)) a d) (omega (arith, r.clocks a, same))

  pub up-rises : Rising n (advance n s (up u v)) (raise f u v)
  unfolding advance
  up-rises = record {
    good = good-advance n s (up u v) r.good;
    ups = λ a b. ap (λ (q : Network). up_to q a b) after ∙ up-after a b;
    clocks = λ a. omega (arith, ap (λ (q : Network). q.clock a) after, clock-after a);
  }
