-- Each accepted event keeps times that make sense, by facts (`step-timed`).
-- Assumes that the network is sound and timed before the event; that it is grown from the fresh one is not needed.
use Prim.Native.Nat.{ℕ, suc, max, ◌≤◌}
use native.Mathlib.Omega.{arith}
use mathlib.Core.Bool.{Bool, true, false}
use mathlib.Core.List.{List, [], ◌∷◌}
use mathlib.Core.Path.{◌≡◌, refl, sym, ap, subst, ◌∙◌}
use Rattle.basics.specs.Functions.{update}
use Rattle.basics.proofs.FunctionsLaws.{update-at, update-off, update_all}
use Rattle.basics.proofs.Tests.{clash}
use Rattle.height.specs.Height.{zero_height}
use Rattle.height.specs.declared.Height.{Height}
use Rattle.protocol.specs.Holds.{is_empty}
use Rattle.protocol.specs.Network.{Node, Message, Network, up_to}
use Rattle.protocol.specs.Rules.{down_rule, receipt_rule}
use Rattle.protocol.specs.Step.{Event, up, down, receive, home, peer, height_after, Local, carried, local_up}
use Rattle.protocol.specs.Step.{local_down, local_ignored, local_taken, local_receipt, cleared, commit, step}
use Rattle.protocol.specs.declared.Rule.TheVariants.{Ignored, ChannelUp}
use Rattle.protocol.specs.declared.Rule.{Rule}
use Rattle.protocol.proofs.Accepted.{Accepted, home-node, peer-node}
use Rattle.protocol.proofs.RuleCases.{Kept, Verdict, verdict, answered, kept-down}
use Rattle.protocol.proofs.RuleLaws.{by_cases, Bounded, later}
use Rattle.protocol.proofs.Soundness.{Fits}
use Rattle.protocol.proofs.Timed.{Timed, left-timed, heard-timed, commit-timed}

-- ---- what the rule leaves at u

module _ (n : ℕ) (p : Network) (fits : Fits n p) (timed : Timed p) (u v : ℕ) (su : Node n u) (other : u ≡ v → ⊥) where
  self : (x : Bool) → update (p.neighbors u) v x u ≡ false
  self x = update-off (p.neighbors u) v x u other ∙ (fits.nodes u).self_n

  mine : (h : Height) → (update (p.height u) v h u).id ≡ u
  mine h = rw (update-off (p.height u) v h u other) ((fits.nodes u).own su).id

  module _ (N : ℕ → Bool) (row : ℕ → Height) (t : ℕ) where
    abbrev KeptBy : Rule → Type 0
    KeptBy r = Kept n N row u v t r (height_after n N row u v t r)

  pub left-kept : KeptBy (update (p.neighbors u) v false) (update (p.height u) v zero_height) (suc (p.clock u))
      (down_rule n (update (p.neighbors u) v false) (update (p.height u) v zero_height) u)
  left-kept =
      kept-down n (update (p.neighbors u) v false) (update (p.height u) v zero_height) u v (p.clock u) (self false) (left-timed p timed u v)
      (mine zero_height)

  module _ (sv : Node n v) (m : Message) (ms : List Message) (queue : p.channel v u ≡ m ∷ ms) where
    pub heard-kept : (r : Rule) → Verdict n (update (p.neighbors u) v true) (update (p.height u) v m.height) u v r
        → KeptBy (update (p.neighbors u) v true) (update (p.height u) v m.height) (suc (max (p.clock u) m.timestamp)) r
    heard-kept r k =
        (answered n (update (p.neighbors u) v true) (update (p.height u) v m.height) u v (max (p.clock u) m.timestamp) (self true)
        (heard-timed p timed u v m ms queue) (mine m.height) sv.low sv.high (update-at (p.neighbors u) v true) r k).kept

  -- ---- the network after it

  -- a rule at the clock c that leaves a height within the moved clock
  carried-timed : (e : Event) (N F : ℕ → Bool) (row : ℕ → Height) (c : ℕ) (r : Rule) → p.clock u ≤ c → ((w : ℕ) → Bounded c (row w))
      → Bounded (suc c) (height_after n N row u v (suc c) r) → Timed (commit p u (carried n N F row u v (suc c) r) (cleared p e))
  unfolding carried
  carried-timed e N F row c r moved times new =
      commit-timed p timed u e (carried n N F row u v (suc c) r) (omega arith)
      (update_all (λ w h. Bounded (suc c) h) row u (height_after n N row u v (suc c) r) new (λ w d. later c (suc c) (row w) (omega arith) (times w)))

  still : Bounded (suc (p.clock u)) (p.height u u)
  still = later (p.clock u) (suc (p.clock u)) (p.height u u) (omega arith) (timed.heights u u)

  up-timed : Timed (step n p (up u v))
  unfolding step local_up
  up-timed =
      carried-timed (up u v) (p.neighbors u) (update (p.forming u) v true) (p.height u) (p.clock u) ChannelUp (omega arith) (timed.heights u) still

  down-timed : Timed (step n p (down u v))
  unfolding step local_down
  down-timed =
      carried-timed (down u v) (update (p.neighbors u) v false) (update (p.forming u) v false) (update (p.height u) v zero_height) (p.clock u)
      (down_rule n (update (p.neighbors u) v false) (update (p.height u) v zero_height) u) (omega arith) (left-timed p timed u v) left-kept.bounded

  receipt-timed : Node n v → is_empty (p.channel v u) ≡ false → Timed (step n p (receive v u))
  unfolding step local_taken local_ignored
  receipt-timed sv some! = go (p.channel v u) refl
    where
      G : Local → Type 0
      G l = Timed (commit p u l (cleared p (receive v u)))

      taken : (m : Message) (ms : List Message) → p.channel v u ≡ m ∷ ms → G (local_taken n p u v m)
      taken m ms e =
          carried-timed (receive v u) (update (p.neighbors u) v true) (update (p.forming u) v false) (update (p.height u) v m.height)
          (max (p.clock u) m.timestamp) (receipt_rule n (update (p.neighbors u) v true) (update (p.height u) v m.height) u v) (omega arith)
          (heard-timed p timed u v m ms e) (heard-kept sv m ms e _ (verdict n _ _ u v)).bounded

      ignored : (m : Message) → G (local_ignored n p u v m.timestamp)
      ignored m =
          let c = max (p.clock u) m.timestamp in
          carried-timed (receive v u) (p.neighbors u) (p.forming u) (p.height u) c Ignored (omega arith)
          (λ w. later (p.clock u) c (p.height u w) (omega arith) (timed.heights u w))
          (later (p.clock u) (suc c) (p.height u u) (omega arith) (timed.heights u u))

      go : (q : List Message) → p.channel v u ≡ q → G (local_receipt n p u v (p.channel v u))
      go [] e = clash (rw e) some!
      go (m ∷ ms) e =
          subst G (sym (ap (local_receipt n p u v) e))
          (by_cases G (up_to p u v) (local_taken n p u v m) (local_ignored n p u v m.timestamp) (λ _. taken m ms e) (λ _. ignored m))

pub step-timed : (n : ℕ) (p : Network) (e : Event) → Fits n p → Timed p → Accepted n p e → Timed (step n p e)
step-timed n p e fits timed ok = go e ok (home-node n p e ok) (peer-node n p e ok)
  where
    go : (e : Event) → Accepted n p e → Node n (home e) → Node n (peer e) → Timed (step n p e)
    go (up u v) ok su sv = up-timed n p fits timed u v su ok.differ
    go (down u v) ok su sv = down-timed n p fits timed u v su ok.differ
    go (receive v u) ok su sv = receipt-timed n p fits timed u v su ok.differ sv ok.fits
