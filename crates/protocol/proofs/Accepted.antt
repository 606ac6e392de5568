-- An event that returns 0 has passed each test of the order: 3, its own of 4 to 6, then 7 to 9.
use Prim.Native.Nat.{ℕ, suc, ◌≤◌}
use native.Mathlib.Omega.{arith}
use mathlib.Core.Bool.{Bool, true, false, not, cond, ◌&&◌}
use mathlib.Core.Path.{◌≡◌, refl}
use lib.Dec.{ltb, eqb}
use borrow.Author.Tests.{eqb-true, eqb-false, not-true, not-false, ltb-false}
use Rattle.basics.specs.Functions.{every}
use Rattle.basics.proofs.Tests.{and_left, and_right}
use Rattle.protocol.specs.Network.{Node, Network, is_node}
use Rattle.protocol.specs.Refusal.{misnamed, unfit, unfit_number, late, too_deep, has_room, crowded, returned, accepts}
use Rattle.protocol.specs.Step.{Event, up, down, receive, home, peer, local, cleared}
use Rattle.protocol.proofs.NodeLaws.{is-node}

not_equal : (u v : ℕ) → not (eqb u v) ≡ true → u ≡ v → ⊥
not_equal u v h = eqb-false u v (not-true (eqb u v) h)

-- the refusals one after the other, of which none applied
passed : (b : Bool) (k x : ℕ) → cond b (suc k) x ≡ 0 → (b ≡ false) × (x ≡ 0)
passed true k x e = absurd (omega arith)
passed false k x e = (refl, e)

-- what an accepted event has passed
pub record Accepted (n : ℕ) (p : Network) (e : Event) : Type 0 where
  pub low_u : 1 ≤ home e
  pub high_u : home e ≤ n
  pub low_v : 1 ≤ peer e
  pub high_v : peer e ≤ n
  pub differ : home e ≡ peer e → ⊥
  pub fits : unfit p e ≡ false
  pub intime : (local n p e).clock ≤ 4294967295
  pub shallow : too_deep (local n p e).rule ((local n p e).row (home e)).delta ≡ false
  pub spacious : every n (has_room (local n p e) (cleared p e (home e))) ≡ true

module _ (n : ℕ) (p : Network) (e : Event) (ok : Accepted n p e) where
  pub home-node : Node n (home e)
  home-node = record { low = ok.low_u; high = ok.high_u }

  pub peer-node : Node n (peer e)
  peer-node = record { low = ok.low_v; high = ok.high_v }

fit-code : (e : Event) → (k : ℕ) × (unfit_number e ≡ suc k)
fit-code (up u v) = (3, refl)
fit-code (down u v) = (4, refl)
fit-code (receive v u) = (5, refl)

pub accepted : (n : ℕ) (p : Network) (e : Event) → returned n p e ≡ 0 → Accepted n p e
unfolding returned misnamed late crowded
accepted n p e h =
    let a = passed (not (is_node n (home e) && is_node n (peer e) && not (eqb (home e) (peer e)))) 2 _ h in
    let b = passed (unfit p e) (fit-code e).0 _ (rw (fit-code e).1 at a.1) in
    let t = passed (ltb 4294967295 (local n p e).clock) 6 _ b.1 in
    let k = passed (too_deep (local n p e).rule ((local n p e).row (home e)).delta) 7 _ t.1 in
    let w = passed (not (every n (has_room (local n p e) (cleared p e (home e))))) 8 _ k.1 in
    let s : (is_node n (home e) && is_node n (peer e) && not (eqb (home e) (peer e))) ≡ true = not-false _ a.0 in
    let d = and_right (is_node n (home e) && is_node n (peer e)) (not (eqb (home e) (peer e))) s in
    let uv = and_left (is_node n (home e) && is_node n (peer e)) (not (eqb (home e) (peer e))) s in
    let u = is-node n (home e) (and_left (is_node n (home e)) (is_node n (peer e)) uv) in
    let v = is-node n (peer e) (and_right (is_node n (home e)) (is_node n (peer e)) uv) in
    record {
      low_u = u.low;
      high_u = u.high;
      low_v = v.low;
      high_v = v.high;
      differ = not_equal (home e) (peer e) d;
      fits = b.0;
      intime = ltb-false 4294967295 (local n p e).clock t.0;
      shallow = k.0;
      spacious = not-false (every n (has_room (local n p e) (cleared p e (home e)))) w.0;
    }

pub accepts-accepted : (n : ℕ) (p : Network) (e : Event) → accepts n p e ≡ true → Accepted n p e
unfolding accepts
accepts-accepted n p e i = accepted n p e (eqb-true (returned n p e) 0 i)
