-- What the dating desk asks of tables (crate `groups`), after every allowed list of calls from `fresh`: no such call for a node is refused, quiet is said exactly when
-- the history leaves the network quiet, a group is said as it is, and of a quiet network the collector said is demand 3's.
-- Assumes 1 to 16 nodes.
use Prim.Native.Nat.{ℕ, ◌≤◌}
use native.Mathlib.Omega.{arith}
use mathlib.Core.Bool.{Bool, true, false}
use mathlib.Core.List.{List}
use mathlib.Core.Path.{◌≡◌, refl, sym, ap, subst, fun_ext, ◌∙◌}
use Rattle.calls.specs.Component.{Quiescent, Joined, OneLeader}
use Rattle.calls.specs.History.{up_in, waiting}
use Rattle.calls.specs.Run.{Call}
use Rattle.calls.proofs.Leaders.{quiescent-quiet}
use Rattle.calls.proofs.Runs.{state_of}
use Rattle.groups.specs.Group.{group_named, group_on}
use Rattle.groups.specs.Groups.{group_of, heads_of, collectors_in, the_one}
use Rattle.groups.specs.Heads.{heads_on}
use Rattle.groups.specs.Quiet.{quiet_on}
use Rattle.groups.proofs.Collectors.{OneCollector, collector-named}
use Rattle.groups.proofs.Partition.{parted}
use Rattle.lent.specs.Check.{check_on}
use Rattle.nodeset.specs.NodeSet.{member, digit}
use Rattle.protocol.specs.Network.{Node, Network, up_to, own}
use Rattle.protocol.specs.Quiet.{quiet}
use Rattle.protocol.proofs.NodeLaws.{node-passes}
use Rattle.refusal.specs.Outcome.{Answered, accepted, after_check}
use Rattle.refusal.specs.Refusal.{why}
use Rattle.refusal.specs.declared.Why.{Why}
use Rattle.tables.specs.Tables.{Tables}
use Rattle.runs.specs.OnTables.{Allowed}
use Rattle.runs.proofs.Demand3.{tables_at, network_at, history_after, Demand3, demand-3}
use Rattle.runs.proofs.ReadOff.{quiet-by-history}
use Rattle.runs.proofs.Simulation.{from-fresh}
use Rattle.runs.proofs.TablesRun.{meant_after, on-tables, tables-pass}

-- ---- the statement

-- what is said of u's group
pub record GroupSaid (n : ℕ) (cs : List Call) (u : ℕ) : Type 0 where
  pub accepted : (group_on n u (tables_at n cs)).why ≡ why 0 0 0
  -- its members are those joined with u by links that the history leaves up both ways
  pub members : (w : ℕ) → member (group_on n u (tables_at n cs)).value.members w ≡ true → Joined n (up_in (history_after n cs)) u w
  pub all-members : (w : ℕ) → Joined n (up_in (history_after n cs)) u w → member (group_on n u (tables_at n cs)).value.members w ≡ true
  -- the collector said is the only one among them
  pub named : (w : ℕ) → 1 ≤ w → the_one (group_on n u (tables_at n cs)).value.collectors ≡ w
      → OneCollector n (up_in (history_after n cs)) (own (network_at n cs)) u w
  pub names : (w : ℕ) → OneCollector n (up_in (history_after n cs)) (own (network_at n cs)) u w
      → the_one (group_on n u (tables_at n cs)).value.collectors ≡ w

-- in a quiet network u's group has one collector, and it is said
pub record CollectorSaid (n : ℕ) (cs : List Call) (u : ℕ) : Type 0 where
  pub one : OneLeader n (up_in (history_after n cs)) (own (network_at n cs)) u
  pub said : the_one (group_on n u (tables_at n cs)).value.collectors ≡ one.leader

pub record Desk (n : ℕ) (cs : List Call) : Type 0 where
  pub quiet-answer : quiet_on n (tables_at n cs) ≡ accepted (digit (quiet n (network_at n cs)))
  pub quiet-said : quiet_on n (tables_at n cs) ≡ accepted 1 → Quiescent n (up_in (history_after n cs)) (waiting (history_after n cs))
  pub said-quiet : Quiescent n (up_in (history_after n cs)) (waiting (history_after n cs)) → quiet_on n (tables_at n cs) ≡ accepted 1
  pub heads : heads_on n (tables_at n cs) ≡ accepted (heads_of n (up_in (history_after n cs)))
  pub group : (u : ℕ) → Node n u → GroupSaid n cs u
  pub collector : quiet_on n (tables_at n cs) ≡ accepted 1 → (u : ℕ) → Node n u → CollectorSaid n cs u

abbrev pub Statement : Type 0
Statement = (n : ℕ) → 1 ≤ n → n ≤ 16 → (cs : List Call) → Allowed n cs → Desk n cs

-- ---- tables that pass are answered

module _ (n : ℕ) (t : Tables) (passes : check_on n t ≡ why 0 0 0) where
  answered : {A : Type 0} (none : A) (x : Answered A) → after_check none (check_on n t) x ≡ x
  answered none x = ap (λ (c : Why). after_check none c x) passes

digit-one : (b : Bool) → digit b ≡ 1 → b ≡ true
digit-one true e = refl
digit-one false e = absurd (omega arith)

-- ---- the proof

module _ (n : ℕ) (low : 1 ≤ n) (few : n ≤ 16) (cs : List Call) (allowed : Allowed n cs) where
  abbrev t : Tables
  t = tables_at n cs

  abbrev p : Network
  p = network_at n cs

  d : Demand3 n cs
  d = demand-3 n low few cs allowed

  passes : check_on n t ≡ why 0 0 0
  passes = tables-pass n low few cs allowed

  ups : up_to p ≡ up_in (history_after n cs)
  ups = fun_ext (λ a. fun_ext (λ b. d.up_is a b))

  quiet_is : quiet_on n t ≡ accepted (digit (quiet n p))
  unfolding quiet_on
  quiet_is = answered n t passes 0 (accepted (digit (quiet n p)))

  quiet-there : quiet_on n t ≡ accepted 1 → quiet n p ≡ true
  quiet-there e = digit-one (quiet n p) (ap (λ (a : Answered ℕ). a.value) (sym quiet_is ∙ e))

  quiet-here : Quiescent n (up_in (history_after n cs)) (waiting (history_after n cs)) → quiet n p ≡ true
  quiet-here q =
      let o = on-tables n low few cs allowed in
      let good = (from-fresh n low few cs allowed).sane.good in
      ap (quiet n) o.network-is
      ∙ quiescent-quiet n (state_of (meant_after n cs)) good (subst (λ h. Quiescent n (up_in h) (waiting h)) o.history-is q)

  heads-are : heads_on n t ≡ accepted (heads_of n (up_in (history_after n cs)))
  unfolding heads_on
  heads-are = answered n t passes 0 (accepted (heads_of n (up_to p))) ∙ ap (λ (f : ℕ → ℕ → Bool). accepted (heads_of n f)) ups

  module _ (u : ℕ) (a : Node n u) where
    group-is : group_on n u t ≡ accepted (record { members = group_of n (up_to p) u; collectors = collectors_in n (own p) (group_of n (up_to p) u) })
    unfolding group_on group_named
    group-is = answered n t passes _ (group_named n u p) ∙ rw (node-passes n u a)

    is-named : (w : ℕ) → 1 ≤ w → the_one (group_on n u t).value.collectors ≡ w → OneCollector n (up_to p) (own p) u w
    is-named w l e = (collector-named n (up_to p) (own p) u a few).back w (rw group-is at e) l

    names-it : (w : ℕ) → OneCollector n (up_to p) (own p) u w → the_one (group_on n u t).value.collectors ≡ w
    names-it w o = rw group-is ((collector-named n (up_to p) (own p) u a few).there w o)

    group-said : GroupSaid n cs u
    group-said = record {
      accepted = rw group-is refl;
      members = λ w e. subst (λ f. Joined n f u w) ups ((parted n (up_to p) few).sound u w a (rw group-is at e));
      all-members = λ w j. rw group-is ((parted n (up_to p) few).complete u w a (subst (λ f. Joined n f u w) (sym ups) j));
      named = λ w l e. subst (λ f. OneCollector n f (own p) u w) ups (is-named w l e);
      names = λ w o. names-it w (subst (λ f. OneCollector n f (own p) u w) (sym ups) o);
    }

  collector-said : quiet_on n t ≡ accepted 1 → (u : ℕ) → Node n u → CollectorSaid n cs u
  collector-said e u a =
      let o = d.one-leader (quiet-by-history n cs d (quiet-there e)) u a in
      record {
        one = o;
        said = (group-said u a).names o.leader (record { member = o.member; leads = o.leads; only = o.only });
      }

pub desk : Statement
desk n low few cs allowed = record {
  quiet-answer = quiet_is n low few cs allowed;
  quiet-said = λ e. quiet-by-history n cs (demand-3 n low few cs allowed) (quiet-there n low few cs allowed e);
  said-quiet = λ q. quiet_is n low few cs allowed ∙ ap (λ (b : Bool). accepted (digit b)) (quiet-here n low few cs allowed q);
  heads = heads-are n low few cs allowed;
  group = group-said n low few cs allowed;
  collector = collector-said n low few cs allowed;
}
