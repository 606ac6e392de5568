-- The same calls on lent tables and by the meaning: after every allowed list from `fresh` the replies, with the bytes that saves put out,
-- and the tables are those of the meaning; and the tables of the run are those that the calls leave one after the other. Assumes 1 to 16 nodes.
use Prim.Native.Nat.{ℕ, ◌≤◌}
use mathlib.Core.List.{List, [], ◌∷◌, ◌++◌}
use mathlib.Core.Path.{◌≡◌, refl, sym, ap, ap₂, ◌∙◌}
use Rattle.calls.specs.Run.{Call, event, save, restore, RunState, start_of_run, act, perform, AllFair}
use Rattle.lent.specs.Check.{check_on}
use Rattle.protocol.specs.Answer.{Said}
use Rattle.protocol.specs.Network.{Network, fresh}
use Rattle.refusal.specs.Outcome.{Outcome}
use Rattle.refusal.specs.Refusal.{why}
use Rattle.tables.specs.Load.{load, tables_of}
use Rattle.tables.specs.Tables.{Tables}
use Rattle.runs.specs.OnTables.{tables_after, tables_after_all, on_tables, fresh_tables, then, after, Allowed}
use Rattle.runs.specs.inner.Replies.{Reply, to_event, to_save, reply, replies}
use Rattle.runs.specs.inner.ByMeaning.{by_meaning, reply_to, replies_to}
use Rattle.runs.proofs.ImageBack.{SaneRun}
use Rattle.runs.proofs.Lists.{perform-append, fair-head}
use Rattle.runs.proofs.Simulation.{passing, onto, own_back, event-is, save-is, onto-call, fair-from, call-sane, onward, fresh-sane, from-fresh}

-- ---- the statement

-- the run by the meaning after a list of calls from the fresh network
abbrev pub meant_after : ℕ → List Call → RunState Network
meant_after n cs = perform (by_meaning n) (start_of_run fresh) cs

pub record OnTables (n : ℕ) (cs : List Call) : Type 0 where
  pub replies-are : replies (fresh_tables n) cs ≡ replies_to n (start_of_run fresh) cs
  pub tables-are : tables_after_all (fresh_tables n) cs ≡ tables_of n (meant_after n cs).now
  pub network-is : load n (tables_after_all (fresh_tables n) cs) ≡ (meant_after n cs).now
  pub history-is : (after n cs).history ≡ (meant_after n cs).history

abbrev pub Statement : Type 0
Statement = (n : ℕ) → 1 ≤ n → n ≤ 16 → (cs : List Call) → Allowed n cs → OnTables n cs

-- ---- the tables of a run are those that the calls leave

now-one : (w : RunState Tables) (c : Call) → (then w c).now ≡ tables_after w.now c
unfolding tables_after
now-one w (event m e) = refl
now-one w (save m out) = refl
now-one w (restore b) = refl

pub now-after : (w : RunState Tables) (cs : List Call) → (perform on_tables w cs).now ≡ tables_after_all w.now cs
now-after w [] = refl
now-after w (c ∷ cs) = now-after (then w c) cs ∙ ap (λ (t : Tables). tables_after_all t cs) (now-one w c)

-- behind a list, a call, and further calls
pub now-behind : (n : ℕ) (cs : List Call) (c : Call) (ds : List Call)
    → (perform on_tables (then (after n cs) c) ds).now ≡ tables_after_all (fresh_tables n) (cs ++ (c ∷ ds))
now-behind n cs c ds =
    ap (λ (w : RunState Tables). w.now) (sym (perform-append on_tables (start_of_run (fresh_tables n)) cs (c ∷ ds)))
    ∙ now-after (start_of_run (fresh_tables n)) (cs ++ (c ∷ ds))

-- ---- the replies

module _ (n : ℕ) (low : 1 ≤ n) (few : n ≤ 16) where
  reply-is : (w : RunState Network) (c : Call) → SaneRun n low few w → reply (tables_of n w.now) c ≡ reply_to n w.now c
  unfolding reply reply_to
  reply-is w (event m e) sane = ap (λ (o : Outcome Said Tables). to_event o.said) (event-is n low few w sane m e)
  reply-is w (save m out) sane = ap to_save (save-is n low few w sane m out)
  reply-is w (restore b) sane = refl

  replies-from : (w : RunState Network) (cs : List Call) → SaneRun n low few w → AllFair on_tables (onto n w) cs
      → replies (tables_of n w.now) cs ≡ replies_to n w cs
  replies-from w [] sane fs = refl
  replies-from w (c ∷ cs) sane fs =
      let f = fair-from n low few w sane c (fair-head on_tables (onto n w) c cs fs) in
      let more = replies-from (act (by_meaning n) w c) cs (call-sane n low few w c sane f) (onward n low few w sane c cs fs) in
      let next : tables_after (tables_of n w.now) c ≡ tables_of n (act (by_meaning n) w c).now
      = sym (now-one (onto n w) c) ∙ ap (λ (v : RunState Tables). v.now) (onto-call n low few w sane c f) in
      ap₂ (λ (x : Reply) (xs : List Reply). x ∷ xs) (reply-is w c sane) (ap (λ (t : Tables). replies t cs) next ∙ more)

pub on-tables : Statement
on-tables n low few cs allowed =
    let s = from-fresh n low few cs allowed in
    let tables-are : tables_after_all (fresh_tables n) cs ≡ tables_of n (meant_after n cs).now
    = sym (now-after (start_of_run (fresh_tables n)) cs) ∙ ap (λ (v : RunState Tables). v.now) s.run_is in
    record {
      replies-are = replies-from n low few (start_of_run fresh) cs (fresh-sane n low few) allowed;
      tables-are = tables-are;
      network-is = ap (load n) tables-are ∙ own_back n low few (meant_after n cs) s.sane;
      history-is = ap (λ (v : RunState Tables). v.history) s.run_is;
    }

-- the tables pass the check: neither 2 nor 18
pub tables-pass : (n : ℕ) → 1 ≤ n → n ≤ 16 → (cs : List Call) → Allowed n cs → check_on n (tables_after_all (fresh_tables n) cs) ≡ why 0 0 0
tables-pass n low few cs allowed =
    ap (check_on n) (on-tables n low few cs allowed).tables-are ∙ passing n low few (meant_after n cs) (from-fresh n low few cs allowed).sane
