-- Document 02, [5], at the tables: after every allowed list of calls on lent tables of n nodes, from `fresh`, clocks are causal by the history; and over lists
-- without restores the same read off the calls, whose accepted events are that history: what each leaves in the tables as its node's clock. Assumes 1 ≤ n ≤ 16.
use Prim.Native.Nat.{ℕ, ◌≤◌, ◌<◌}
use mathlib.Core.Bool.{true}
use mathlib.Core.List.{List, [], ◌∷◌, ◌++◌, append_assoc}
use mathlib.Core.Logic.{◌⊎◌, inl, inr}
use mathlib.Core.Path.{◌≡◌, refl, sym, ap, ◌∙◌}
use Rattle.basics.specs.Functions.{all}
use Rattle.basics.proofs.Tests.{and_left, and_right}
use Rattle.calls.specs.Causal.{unheard, Later}
use Rattle.calls.specs.History.{Entry, History, entry}
use Rattle.calls.specs.Run.{Call, event, is_plain, RunState, start_of_run}
use Rattle.calls.proofs.CausalClocks.{CausalClocks, good-causal, sender-sent}
use Rattle.calls.proofs.Runs.{state_of}
use Rattle.calls.proofs.SavesLaws.{event-enters}
use Rattle.election.specs.StepOn.{step_on}
use Rattle.protocol.specs.Step.{Event, receive, home}
use Rattle.tables.specs.Load.{load}
use Rattle.tables.specs.Tables.{Tables}
use Rattle.runs.specs.OnTables.{on_tables, fresh_tables, after, Allowed}
use Rattle.runs.proofs.AllowedLists.{event-allowed}
use Rattle.runs.proofs.Demand3.{tables_at, network_at, history_after}
use Rattle.runs.proofs.Entries.{In, in-none, Entered, stays, from-calls}
use Rattle.runs.proofs.Lists.{perform-append, plain-fair}
use Rattle.runs.proofs.Simulation.{from-fresh}
use Rattle.runs.proofs.TablesRun.{meant_after, now-after, on-tables}

-- ---- the statement

abbrev pub Statement : Type 0
Statement = (n : ℕ) → 1 ≤ n → n ≤ 16 → (cs : List Call) → Allowed n cs → CausalClocks (history_after n cs) (network_at n cs)

-- behind the calls cs the event e, on tables said to be of m nodes, is accepted; the clock that its node then has in the tables; and its entry
abbrev pub AcceptedAt : ℕ → List Call → ℕ → Event → Type 0
AcceptedAt n cs m e = (step_on m e (tables_at n cs)).said.why.number ≡ 0

abbrev pub clock_left : ℕ → List Call → ℕ → Event → ℕ
clock_left n cs m e = (load m (step_on m e (tables_at n cs)).after).clock (home e)

abbrev pub entry_at : ℕ → List Call → ℕ → Event → Entry
entry_at n cs m e = entry e (step_on m e (tables_at n cs)).said (clock_left n cs m e)

-- x is the entry of an accepted event among the calls cs
pub record MadeBy (n : ℕ) (cs : List Call) (x : Entry) : Type 0 where
  pub before : List Call
  pub rest : List Call
  pub size : ℕ
  pub made : Event
  pub list : cs ≡ before ++ (event size made ∷ rest)
  pub accepted : AcceptedAt n before size made
  pub is : x ≡ entry_at n before size made

-- the first message that waits on channel v to u behind the calls cs: an accepted event among them sent it, and its clock is smaller than c
pub record SentByCall (n : ℕ) (cs : List Call) (v u c : ℕ) : Type 0 where
  pub sending : Entry
  pub others : History
  pub first : unheard (history_after n cs) v u ≡ sending ∷ others
  pub made_by : MadeBy n cs sending
  pub smaller : sending.clock < c

-- of the calls of a list without restores
pub record CausalCalls (n : ℕ) (cs : List Call) : Type 0 where
  -- the history is that of its accepted events: each one's entry stands in it, and no other
  pub stands : (before rest : List Call) (m : ℕ) (e : Event) → cs ≡ before ++ (event m e ∷ rest) → AcceptedAt n before m e
      → (newer : History) × (history_after n cs ≡ newer ++ (entry_at n before m e ∷ history_after n before))
  pub no_other : (newer older : History) (x : Entry) → history_after n cs ≡ newer ++ (x ∷ older) → MadeBy n cs x
  -- two accepted events at one node
  pub own : (before between rest : List Call) (m k : ℕ) (e f : Event) → cs ≡ before ++ (event m e ∷ (between ++ (event k f ∷ rest)))
      → AcceptedAt n before m e → AcceptedAt n (before ++ (event m e ∷ between)) k f → home e ≡ home f
      → clock_left n before m e < clock_left n (before ++ (event m e ∷ between)) k f
  -- an accepted receipt, whether the message is used or ignored
  pub received : (before rest : List Call) (m v u : ℕ) → cs ≡ before ++ (event m (receive v u) ∷ rest) → AcceptedAt n before m (receive v u)
      → SentByCall n before v u (clock_left n before m (receive v u))

abbrev pub CallStatement : Type 0
CallStatement = (n : ℕ) → 1 ≤ n → n ≤ 16 → (cs : List Call) → all is_plain cs ≡ true → CausalCalls n cs

-- ---- the proof

pub causal-runs : Statement
causal-runs n low few cs allowed =
    let on = on-tables n low few cs allowed in
    rw (on.network-is, on.history-is) (good-causal n (state_of (meant_after n cs)) (from-fresh n low few cs allowed).sane.good)

-- the parts of a list without restores have none
plain-first : (cs ds : List Call) → all is_plain (cs ++ ds) ≡ true → all is_plain cs ≡ true
unfolding all
plain-first [] ds h = refl
plain-first (c ∷ cs) ds h =
    rw (and_left (is_plain c) (all is_plain (cs ++ ds)) h) (plain-first cs ds (and_right (is_plain c) (all is_plain (cs ++ ds)) h))

plain-rest : (cs ds : List Call) → all is_plain (cs ++ ds) ≡ true → all is_plain ds ≡ true
unfolding all
plain-rest [] ds h = h
plain-rest (c ∷ cs) ds h = plain-rest cs ds (and_right (is_plain c) (all is_plain (cs ++ ds)) h)

module _ (n : ℕ) where
  abbrev start : RunState Tables
  start = start_of_run (fresh_tables n)

  -- an accepted event enters the history
  enters : (cs : List Call) (m : ℕ) (e : Event) → AcceptedAt n cs m e → history_after n (cs ++ (event m e ∷ [])) ≡ entry_at n cs m e ∷ history_after n cs
  enters cs m e ok =
      let now = now-after start cs in
      ap (λ (w : RunState Tables). w.history) (perform-append on_tables start cs (event m e ∷ []))
      ∙ event-enters on_tables (after n cs) m e (rw now ok)
      ∙ ap (λ (t : Tables). entry e (step_on m e t).said ((load m (step_on m e t).after).clock (home e)) ∷ history_after n cs) now

  -- and stays
  still-there : (cs ds : List Call) (m : ℕ) (e : Event) → all is_plain ds ≡ true → AcceptedAt n cs m e
      → (newer : History) × (history_after n (cs ++ (event m e ∷ ds)) ≡ newer ++ (entry_at n cs m e ∷ history_after n cs))
  still-there cs ds m e plain ok =
      let s = stays on_tables (after n (cs ++ (event m e ∷ []))) ds plain in (
        s.0,
        ap (history_after n) (sym (append_assoc cs (event m e ∷ []) ds))
            ∙ ap (λ (w : RunState Tables). w.history) (perform-append on_tables start (cs ++ (event m e ∷ [])) ds)
            ∙ s.1 ∙ ap (λ (h : History). s.0 ++ h) (enters cs m e ok),
      )

  no_other : (cs : List Call) → all is_plain cs ≡ true → (newer older : History) (x : Entry) → history_after n cs ≡ newer ++ (x ∷ older) → MadeBy n cs x
  no_other cs plain newer older x q = go (from-calls on_tables start cs plain x (record { newer = newer; older = older; stands = q }))
    where
      go : In x [] ⊎ Entered on_tables start cs x → MadeBy n cs x
      go (inl i) = absurd (in-none x i)
      go (inr c) =
          let now = now-after start c.before in
          record {
            before = c.before;
            rest = c.rest;
            size = c.size;
            made = c.made;
            list = c.list;
            accepted = rw now at c.accepted;
            is = rw now at c.is;
          }

module _ (n : ℕ) (low : 1 ≤ n) (few : n ≤ 16) where
  -- an accepted event is later than those before it
  later-at : (cs : List Call) (m : ℕ) (e : Event) → all is_plain cs ≡ true → AcceptedAt n cs m e → Later (history_after n cs) (entry_at n cs m e)
  later-at cs m e plain ok =
      (causal-runs n low few (cs ++ (event m e ∷ [])) (event-allowed n cs (plain-fair on_tables (start n) cs plain) m e)
      ).causal [] (history_after n cs) (entry_at n cs m e) (enters n cs m e ok)

  own : (before between rest : List Call) (m k : ℕ) (e f : Event) → all is_plain (before ++ (event m e ∷ (between ++ (event k f ∷ rest)))) ≡ true
      → AcceptedAt n before m e → AcceptedAt n (before ++ (event m e ∷ between)) k f → home e ≡ home f
      → clock_left n before m e < clock_left n (before ++ (event m e ∷ between)) k f
  unfolding all
  own before between rest m k e f plain ok-e ok_f same =
      let mid = plain-first between (event k f ∷ rest) (plain-rest before (event m e ∷ (between ++ (event k f ∷ rest))) plain) in
      let whole : all is_plain ((before ++ (event m e ∷ between)) ++ (event k f ∷ rest)) ≡ true
      = rw (append_assoc before (event m e ∷ between) (event k f ∷ rest)) plain in
      let s = still-there n before between m e mid ok-e in
      (later-at (before ++ (event m e ∷ between)) k f (plain-first (before ++ (event m e ∷ between)) (event k f ∷ rest) whole) ok_f
      ).own s.0 (history_after n before) (entry_at n before m e) s.1 same

  received : (cs : List Call) (m v u : ℕ) → all is_plain cs ≡ true → AcceptedAt n cs m (receive v u)
      → SentByCall n cs v u (clock_left n cs m (receive v u))
  received cs m v u plain ok =
      let s = (later-at cs m (receive v u) plain ok).received v u refl in
      let t = sender-sent v u (history_after n cs) s.sending s.others s.first in
      record {
        sending = s.sending;
        others = s.others;
        first = s.first;
        made_by = no_other n cs plain t.newer t.older s.sending t.stands;
        smaller = s.smaller;
      }

pub causal-calls : CallStatement
unfolding all
causal-calls n low few cs plain = record {
  stands = λ before rest m e q ok.
      let p = plain-rest before (event m e ∷ rest) (rw q at plain) in
      let s = still-there n before rest m e p ok in
      (s.0, ap (history_after n) q ∙ s.1);
  no_other = no_other n cs plain;
  own = λ before between rest m k e f q ok-e ok_f same. own n low few before between rest m k e f (rw q at plain) ok-e ok_f same;
  received = λ before rest m v u q ok. received n low few before m v u (plain-first before (event m (receive v u) ∷ rest) (rw q at plain)) ok;
}
