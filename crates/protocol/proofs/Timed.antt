-- Times that make sense, by facts (`Timed`), and what an event has to show to keep them (`row-timed`, `commit-timed`).
use Prim.Native.Nat.{ℕ, max, ◌≤◌}
use native.Mathlib.Omega.{arith}
use mathlib.Core.List.{List, ◌∷◌}
use mathlib.Core.Logic.{inl, inr}
use mathlib.Core.Path.{◌≡◌, refl}
use lib.Dec.{eqb}
use lib.IntN.{pos}
use Rattle.basics.specs.Functions.{update}
use Rattle.basics.proofs.AllOf.{AllOf, none, all_head, all_weaker}
use Rattle.basics.proofs.FunctionsLaws.{update-at, update-off, row_at, row-off}
use Rattle.basics.proofs.Tests.{SameOrNot, equal?}
use Rattle.height.specs.Height.{zero_height}
use Rattle.height.specs.declared.Height.{Height}
use Rattle.protocol.specs.Network.{Message, Network, fresh_height, fresh}
use Rattle.protocol.specs.Step.{Event, Local, cleared, commit}
use Rattle.protocol.proofs.Channels.{post-all, cleared-is, cleared-all}
use Rattle.protocol.proofs.RuleLaws.{by_cases, Bounded, later}

-- stamped at most c, and its times within its stamp
pub record Stamped (c : ℕ) (m : Message) : Type 0 where
  pub timestamp-le : m.timestamp ≤ c
  pub bounded : Bounded m.timestamp m.height

pub record Timed (p : Network) : Type 0 where
  pub heights : (u v : ℕ) → Bounded (p.clock u) (p.height u v)
  pub messages : (u v : ℕ) → AllOf (Stamped (p.clock u)) (p.channel u v)

-- heights without a time
pub unstarted : (c : ℕ) (h : Height) → h.level.tau.0 ≡ 0 → h.pair.nlts.0 ≡ pos 0 → Bounded c h
unstarted c h t e = record { tau-le = omega arith; election = 0; nlts-is = e; election-le = omega arith }

pub fresh-timed : Timed fresh
fresh-timed = record {
  heights = λ u v. by_cases (Bounded 0) (eqb u v) (fresh_height u) zero_height (λ e. unstarted 0 _ refl refl) (λ e. unstarted 0 _ refl refl);
  messages = λ u v. none;
}

stamped-later : (c d : ℕ) → c ≤ d → (m : Message) → Stamped c m → Stamped d m
stamped-later c d l m s = record { timestamp-le = omega (arith, s.timestamp-le); bounded = s.bounded }

module _ (p : Network) (timed : Timed p) (u : ℕ) where
  -- u's heights before the rule, as they were but at v; c is the clock before it moves on
  row-timed : (v c : ℕ) (row : ℕ → Height) → p.clock u ≤ c → ((w : ℕ) → (w ≡ v → ⊥) → row w ≡ p.height u w) → Bounded c (row v)
      → (w : ℕ) → Bounded c (row w)
  row-timed v c row moved same at-v w = go (equal? w v)
    where
      go : SameOrNot w v → Bounded c (row w)
      go (inl q) = rw q at-v
      go (inr d) = rw (same w d) (later (p.clock u) c (p.height u w) moved (timed.heights u w))

  -- after a down: v's view is forgotten
  pub left-timed : (v : ℕ) (w : ℕ) → Bounded (p.clock u) (update (p.height u) v zero_height w)
  left-timed v =
      row-timed v (p.clock u) (update (p.height u) v zero_height) (omega arith) (update-off (p.height u) v zero_height)
      (rw (update-at (p.height u) v zero_height) (unstarted (p.clock u) zero_height refl refl))

  -- after a receipt: v's view is the message's height
  pub heard-timed : (v : ℕ) (m : Message) (ms : List Message) → p.channel v u ≡ m ∷ ms
      → (w : ℕ) → Bounded (max (p.clock u) m.timestamp) (update (p.height u) v m.height w)
  heard-timed v m ms queue =
      let s : Stamped (p.clock v) m = all_head (Stamped (p.clock v)) m ms (rw queue at (timed.messages v u)) in
      row-timed v (max (p.clock u) m.timestamp) (update (p.height u) v m.height) (omega arith) (update-off (p.height u) v m.height)
      (rw (update-at (p.height u) v m.height) (later m.timestamp (max (p.clock u) m.timestamp) m.height (omega arith) s.bounded))

  -- what is left to show of an event at u: its clock and its heights
  pub commit-timed : (e : Event) (l : Local) → p.clock u ≤ l.clock → ((w : ℕ) → Bounded l.clock (l.row w))
      → Timed (commit p u l (cleared p e))
  unfolding commit
  commit-timed e l moved rows = record { heights = λ a b. heights a b (equal? a u); messages = λ a b. messages a b (equal? a u) }
    where
      q : Network
      q = commit p u l (cleared p e)

      news : Message
      news = record { height = l.row u; timestamp = l.clock }

      heights : (a b : ℕ) → SameOrNot a u → Bounded (q.clock a) (q.height a b)
      heights a b (inl i) = simp (i, update-at, row_at) (rows b)
      heights a b (inr d) = simp (update-off, row-off) (timed.heights a b)

      left : (a b : ℕ) → AllOf (Stamped (p.clock a)) (cleared p e a b)
      left a b = cleared-all (Stamped (p.clock a)) (p.channel a b) (cleared p e a b) (cleared-is p e a b) (timed.messages a b)

      messages : (a b : ℕ) → SameOrNot a u → AllOf (Stamped (q.clock a)) (q.channel a b)
      messages a b (inl i) =
          let s : Stamped l.clock news = record { timestamp-le = omega arith; bounded = rows u } in
          let k : AllOf (Stamped l.clock) (cleared p e u b) =
          all_weaker (Stamped (p.clock u)) (Stamped l.clock) (stamped-later (p.clock u) l.clock moved) (cleared p e u b) (left u b) in
          simp (i, row_at, update-at) (post-all (Stamped l.clock) (l.sent b) news (cleared p e u b) s k)
      messages a b (inr d) = simp (row-off, update-off) (left a b)
