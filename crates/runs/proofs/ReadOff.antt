-- Demand 3 read off the lent tables alone, for crates above: after every allowed list of calls from `fresh`,
-- quiet, links, heights and leader are those of the network that the tables hold. Assumes 1 to 16 nodes.
use Prim.Native.Nat.{ℕ, ◌≤◌}
use mathlib.Core.Bool.{true}
use mathlib.Core.List.{List}
use mathlib.Core.Path.{◌≡◌, sym, subst, fun_ext}
use Rattle.calls.specs.Component.{Quiescent, OneLeader}
use Rattle.calls.specs.History.{up_in, waiting, Told}
use Rattle.calls.specs.Run.{Call}
use Rattle.calls.proofs.Leaders.{quiet-quiescent}
use Rattle.calls.proofs.Runs.{state_of}
use Rattle.calls.proofs.Theorems.{Steady, good-steady}
use Rattle.protocol.specs.Network.{Node, Network, up_to, own}
use Rattle.protocol.specs.Quiet.{quiet}
use Rattle.runs.specs.OnTables.{Allowed}
use Rattle.runs.proofs.Demand3.{network_at, history_after, Demand3, demand-3}
use Rattle.runs.proofs.Simulation.{from-fresh}
use Rattle.runs.proofs.TablesRun.{meant_after, on-tables}

-- ---- the statement

-- a network that breaks no rule, with times that make sense and no sink; quiet, it has one leader in each component
pub record Settled (n : ℕ) (p : Network) : Type 0 where
  pub steady : Steady n p
  pub one-leader : quiet n p ≡ true → (u : ℕ) → Node n u → OneLeader n (up_to p) (own p) u

abbrev pub Statement : Type 0
Statement = (n : ℕ) → 1 ≤ n → n ≤ 16 → (cs : List Call) → Allowed n cs → Settled n (network_at n cs)

-- ---- by demand 3 alone

module _ (n : ℕ) (cs : List Call) (d : Demand3 n cs) where
  told : Told (history_after n cs) (network_at n cs)
  told = record { ups = λ u v. sym (d.up_is u v); counts = d.waiting-is }

  -- quiet, read off the tables, is quiet by the history
  pub quiet-by-history : quiet n (network_at n cs) ≡ true → Quiescent n (up_in (history_after n cs)) (waiting (history_after n cs))
  quiet-by-history q = quiet-quiescent n (network_at n cs) (history_after n cs) told q

  pub quiet-led : quiet n (network_at n cs) ≡ true → (u : ℕ) → Node n u → OneLeader n (up_to (network_at n cs)) (own (network_at n cs)) u
  quiet-led q u node =
      subst (λ ups. OneLeader n ups (own (network_at n cs)) u) (fun_ext (λ a. fun_ext (λ b. sym (d.up_is a b))))
      (d.one-leader (quiet-by-history q) u node)

-- ---- the proof

pub read_off : Statement
read_off n low few cs allowed = record {
  steady =
      subst (Steady n) (sym (on-tables n low few cs allowed).network-is)
      (good-steady n (state_of (meant_after n cs)) (from-fresh n low few cs allowed).sane.good);
  one-leader = quiet-led n cs (demand-3 n low few cs allowed);
}
