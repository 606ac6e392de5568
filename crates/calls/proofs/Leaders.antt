-- Quiescent by the history: each component has exactly one leader, a member, and a falling path leads to it from every member.
-- And quiet read off the network is quiescent by the history. Assumes a good state (Good.antt).
use Prim.Native.Nat.{ℕ}
use native.Mathlib.Omega.{arith}
use mathlib.Core.Bool.{true}
use mathlib.Core.List.{[]}
use mathlib.Core.Logic.{inl, inr}
use mathlib.Core.Path.{◌≡◌, refl, sym, ap, ◌∙◌, fun_ext}
use lib.ListN.{length}
use Rattle.basics.proofs.FunctionsLaws.{every-pair-at, every-pair-all}
use Rattle.basics.proofs.Tests.{SameOrNot, equal?, and_left, and_right, same_bool, beq_same}
use Rattle.protocol.specs.Holds.{is_empty}
use Rattle.protocol.specs.Network.{Node, Two, Network, up_to, own}
use Rattle.protocol.specs.Quiet.{pair_quiet, quiet}
use Rattle.protocol.proofs.Channels.{no_length, is-empty}
use Rattle.protocol.proofs.Soundness.{diagonal}
use Rattle.calls.specs.Component.{Quiescent, OneLeader}
use Rattle.calls.specs.History.{History, up_in, waiting, Told, State}
use Rattle.calls.proofs.Good.{Good}
use Rattle.calls.proofs.Quiescence.{held, one-leader}

pub quiet-leader : (n : ℕ) (s : State) → Good n s → Quiescent n (up_in s.history) (waiting s.history)
    → (u : ℕ) → Node n u → OneLeader n (up_in s.history) (own s.network) u
quiet-leader n s g quiet u node = rw ups (one-leader n p g.inv (record { empty = empty; paired = paired }) u node)
  where
    p : Network
    p = s.network

    h : History
    h = s.history

    ups : up_in h ≡ up_to p
    ups = fun_ext (λ a. fun_ext (λ b. g.told.ups a b))

    empty : (a b : ℕ) → Two n a b → held p a b ≡ 0
    empty a b t = omega (arith, g.told.counts a b, quiet.empty a b t)

    paired : (a b : ℕ) → Two n a b → up_to p a b ≡ up_to p b a
    paired a b t = sym (g.told.ups a b) ∙ (quiet.paired a b t ∙ g.told.ups b a)

-- ---- quiet, read off the network

-- for a history that tells what the network holds
pub quiet-quiescent : (n : ℕ) (p : Network) (h : History) → Told h p → quiet n p ≡ true → Quiescent n (up_in h) (waiting h)
unfolding quiet pair_quiet
quiet-quiescent n p h told e = record { empty = empty; paired = paired }
  where
    at : (u v : ℕ) → Two n u v → pair_quiet p u v ≡ true
    at u v t = every-pair-at n (pair_quiet p) e u t.one.low t.one.high v t.other.low t.other.high

    empty : (u v : ℕ) → Two n u v → waiting h u v ≡ 0
    empty u v t =
        let none : length (p.channel u v) ≡ 0 = ap length (is-empty (p.channel u v) (and_left (is_empty (p.channel u v)) _ (at u v t))) in
        omega (arith, told.counts u v)

    paired : (u v : ℕ) → Two n u v → up_in h u v ≡ up_in h v u
    paired u v t =
        let same : up_to p u v ≡ up_to p v u = same_bool _ _ (and_right (is_empty (p.channel u v)) _ (at u v t)) in
        told.ups u v ∙ (same ∙ sym (told.ups v u))

module _ (n : ℕ) (s : State) (g : Good n s) where
  abbrev p : Network
  p = s.network

  pub quiescent-quiet : Quiescent n (up_in s.history) (waiting s.history) → quiet n s.network ≡ true
  unfolding quiet pair_quiet
  quiescent-quiet q =
      every-pair-all n (pair_quiet p) (λ u l k v i j. go u v (record { low = l; high = k }) (record { low = i; high = j }) (equal? u v))
    where
      go : (u v : ℕ) → Node n u → Node n v → SameOrNot u v → pair_quiet p u v ≡ true
      go u v a b (inl e) = rw (← e, diagonal n p g.fits u) (beq_same (up_to p u u) (up_to p u u) refl)
      go u v a b (inr d) =
          let t : Two n u v = record { one = a; other = b; differ = d } in
          let none : p.channel u v ≡ [] = no_length (p.channel u v) (omega (arith, g.told.counts u v, q.empty u v t)) in
          rw (none, ← g.told.ups u v, ← g.told.ups v u, q.paired u v t) (beq_same (up_in s.history v u) (up_in s.history v u) refl)
