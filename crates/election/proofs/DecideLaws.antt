-- What is decided of an event, by what the code has read off u's row and the cell: each refusal is `step_at`, and the rest is `Ready`.
-- Assumes sound tables and two different nodes (`Between`).
use Prim.Native.Nat.{ℕ, suc, max, ◌^◌, ◌<◌, ◌≤◌}
use native.Mathlib.Omega.{arith}
use mathlib.Core.Bool.{Bool, true, false, not, ◌||◌}
use mathlib.Core.List.{List}
use mathlib.Core.Path.{◌≡◌, refl, sym, ap, ◌∙◌}
use lib.ListN.{length}
use lib.Pow.{pow_mono}
use borrow.Author.Tests.{lt-ltb}
use Rattle.std.specs.Prelude.{Result, Ok, Err}
use Rattle.basics.proofs.Tests.{Choice, yes!, no!, choice}
use Rattle.decision.specs.inner.After.{seen}
use Rattle.decision.specs.inner.Bounds.{AdoptsNode}
use Rattle.height.specs.Clock.{last_time, said_moved, clock_after}
use Rattle.height.specs.Height.{zero_height}
use Rattle.height.specs.inner.Stored.{Negated}
use Rattle.height.specs.declared.Height.{Height}
use Rattle.height.specs.declared.Time.{Time}
use Rattle.nodeset.specs.NodeSet.{member}
use Rattle.protocol.specs.Answer.{said_refused}
use Rattle.protocol.specs.Network.{Node}
use Rattle.protocol.specs.Refusal.{unfit, late}
use Rattle.protocol.specs.Rules.{down_rule, receipt_rule}
use Rattle.protocol.specs.Step.{up, down, receive, local, carried}
use Rattle.protocol.specs.declared.Rule.TheVariants.{ChannelUp, Ignored}
use Rattle.protocol.specs.declared.Rule.{Rule}
use Rattle.protocol.proofs.RuleCases.{Verdict, is_a, is_r, is_q, is_f, is_e, is_s, is_p, verdict, down_cases}
use Rattle.refusal.specs.Outcome.{outcome}
use Rattle.refusal.specs.Refusal.{why, why_of}
use Rattle.refusal.specs.declared.Refusal.{Refusal}
use Rattle.tables.specs.Cell.{count, message_at}
use Rattle.tables.specs.Load.{load, neighbors_at, forming_at}
use Rattle.tables.specs.Row.{clock_in, neighbors_in, forming_in, height_in}
use Rattle.tables.specs.Tables.{Tables, node_of, channel_of}
use Rattle.tables.specs.inner.Fit.{RowFits}
use Rattle.election.specs.StepOn.{step_at}
use Rattle.election.specs.declared.Kind.TheVariants.{Raised, Dropped, Received}
use Rattle.election.specs.declared.Kind.{Kind}
use Rattle.election.specs.inner.Deciding.{Between, Ready, event_of}
use Rattle.election.proofs.EventLaws.{between-named, up_is, local-up, local-down, receive-unfit, receive_fit, local-ignored, local-heard}
use Rattle.election.proofs.SetChanges.{joined, without, insert-lt, remove-lt}
use Rattle.election.proofs.StepLaws.{step-unfit, step-late, moved_to, moved-end}

-- ---- the clock, as `Time::after` answers it

module _ (c s : ℕ) {k : ℕ} {m : Result Time Refusal} (answers : said_moved m ≡ clock_after c s) (is : max c s ≡ k) where
  clock-past : {r : Refusal} → m ≡ Err r → (last_time < suc k) × (why_of r ≡ why 7 0 0)
  clock-past {r} e = let h = moved-end c s r (ap said_moved (sym e) ∙ answers) in (omega (arith, h.0), h.1)

  clock-is : {t : Time} → m ≡ Ok t → t.0 ≡ suc k
  clock-is {t} e = (moved_to c s t (ap said_moved (sym e) ∙ answers)).0 ∙ ap suc is

  clock-fits : {t : Time} → m ≡ Ok t → t.0 ≤ last_time
  clock-fits {t} e = let h = moved_to c s t (ap said_moved (sym e) ∙ answers) in omega (arith, h.0, h.1)

-- ---- the rules that adopt name v

down-adopts : (n : ℕ) (N : ℕ → Bool) (row : ℕ → Height) (u : ℕ) → AdoptsNode n (down_rule n N row u)
down-adopts n N row u = down_cases n N row u (AdoptsNode n) tt (λ _. tt) (λ _. tt)

receipt-adopts : (n : ℕ) (N : ℕ → Bool) (row : ℕ → Height) (u v : ℕ) → Node n v → AdoptsNode n (receipt_rule n N row u v)
receipt-adopts n N row u v b = go (receipt_rule n N row u v) (verdict n N row u v)
  where
    go : (rule : Rule) → Verdict n N row u v rule → AdoptsNode n rule
    go rule (is_a e) = b
    go rule (is_r e) = tt
    go rule (is_q e f g) = tt
    go rule (is_f s e f g) = tt
    go rule (is_e s e) = tt
    go rule (is_s s e) = tt
    go rule (is_p s e f) = tt

-- ---- the sets in a row

module _ {n : ℕ} (few : n ≤ 16) {row : List ℕ} (fits : RowFits n row) where
  set-lt : (s : ℕ) → s < 2 ^ n → s < 65536
  set-lt s h = let p : 2 ^ n ≤ 2 ^ 16 = pow_mono few in omega arith

  pub neighbors-readable : (3 ≤ length row) × (neighbors_in row < 65536)
  neighbors-readable = (omega (arith, fits.wide), set-lt (neighbors_in row) fits.neighbors-lt)

  pub forming-readable : (3 ≤ length row) × (forming_in row < 65536)
  forming-readable = (omega (arith, fits.wide), set-lt (forming_in row) fits.forming-lt)

  pub left_lt : {v N M : ℕ} → Node n v → N ≡ neighbors_in row → M ≡ without N v → M < 2 ^ n
  left_lt {v} {N} b ns m = rw m (remove-lt n few N (rw ns fits.neighbors-lt) v b)

-- `is_up` on the sets of a row
pub tested-row : (row : List ℕ) (v N F : ℕ) {r : Bool} → N ≡ neighbors_in row → F ≡ forming_in row → r ≡ (member N v || member F v)
    → (member (neighbors_in row) v || member (forming_in row) v) ≡ r
tested-row row v N F ns fs test = sym (test ∙ rw (ns, fs))

-- ---- an event that is named and fits, too late

module _ {n : ℕ} {t : Tables} {u v : ℕ} (b : Between n t u v) (kind : Kind) (fits : unfit (load n t) (event_of kind u v) ≡ false)
    (N F : ℕ → Bool) (row : ℕ → Height) (clock : ℕ) (rule : Rule)
    (leaves : local n (load n t) (event_of kind u v) ≡ carried n N F row u v clock rule) where
  ends-late : (r : Refusal) → (last_time < clock) × (why_of r ≡ why 7 0 0) → outcome (said_refused (why_of r)) t ≡ step_at n (event_of kind u v) t
  unfolding late carried
  ends-late r h =
      rw h.1 (step-late n t b.fit (event_of kind u v) (between-named n t u v b kind) fits (carried n N F row u v clock rule) leaves (lt-ltb last_time clock h.0))

-- ---- u's row as the code reads it

module _ {n : ℕ} {t : Tables} {u v : ℕ} (b : Between n t u v) {row : List ℕ} (is : row ≡ node_of n u t.nodes) where
  few : n ≤ 16
  few = b.fit.size.few

  ticks : {c : ℕ} → c ≡ clock_in row → max c 0 ≡ clock_in (node_of n u t.nodes)
  ticks {c} clocks = let e : max c 0 ≡ c = omega arith in e ∙ clocks ∙ ap clock_in is

  module _ {N F : ℕ} (ns : N ≡ neighbors_in row) (fs : F ≡ forming_in row) where
    neighbors-are : N ≡ neighbors_in (node_of n u t.nodes)
    neighbors-are = ns ∙ ap neighbors_in is

    forming-are : F ≡ forming_in (node_of n u t.nodes)
    forming-are = fs ∙ ap forming_in is

    neighbors-lt : N < 2 ^ n
    neighbors-lt = rw neighbors-are (b.fit.rows u b.node).neighbors-lt

    forming-lt : F < 2 ^ n
    forming-lt = rw forming-are (b.fit.rows u b.node).forming-lt

    -- ---- up and down, by what `is_up` answers

    module _ {r : Bool} (test : r ≡ (member N v || member F v)) where
      tested : (neighbors_at n t u v || forming_at n t u v) ≡ r
      tested = sym (test ∙ rw (neighbors-are, forming-are))

      pub up-refused : r ≡ true → outcome (said_refused (why 4 0 0)) t ≡ step_at n (up u v) t
      up-refused h = step-unfit n t b.fit (up u v) (between-named n t u v b Raised) 3 refl (up_is n t u v b ∙ tested ∙ h)

      pub down-refused : r ≡ false → outcome (said_refused (why 5 0 0)) t ≡ step_at n (down u v) t
      down-refused h = step-unfit n t b.fit (down u v) (between-named n t u v b Dropped) 4 refl (ap not (up_is n t u v b ∙ tested ∙ h))

      module _ (h : r ≡ false) where
        up_fits : unfit (load n t) (up u v) ≡ false
        up_fits = up_is n t u v b ∙ tested ∙ h

        module _ {c : ℕ} (clocks : c ≡ clock_in row) {m : Result Time Refusal} (answers : said_moved m ≡ clock_after c 0) where
          pub up-late : {q : Refusal} → m ≡ Err q → outcome (said_refused (why_of q)) t ≡ step_at n (up u v) t
          up-late e = ends-late b Raised up_fits _ _ _ _ _ (local-up n t u v b) _ (clock-past _ 0 answers (ticks clocks) e)

          pub up-ready : {T : Time} → m ≡ Ok T → {G : ℕ} → G ≡ joined F v
              → {view : Height} → (view ≡ height_in row v) × Negated view.pair.nlts.0
              → Ready Raised n t u v (record { rule = ChannelUp; clock = T; neighbors = N; forming = G; view = view })
          up-ready {T} e {G} g {view} w = record {
            between = b;
            fits = up_fits;
            intime = clock-fits _ 0 answers (ticks clocks) e;
            leaves = rw (clock-is _ 0 answers (ticks clocks) e, g, w.0, is, neighbors-are, forming-are) (local-up n t u v b);
            neighbors-lt = neighbors-lt;
            forming-lt = rw g (insert-lt n few F forming-lt v b.other);
            adopts = tt;
            view-negated = w.1;
          }

      module _ (h : r ≡ true) where
        down_fits : unfit (load n t) (down u v) ≡ false
        down_fits = ap not (up_is n t u v b ∙ tested ∙ h)

        module _ {c : ℕ} (clocks : c ≡ clock_in row) {m : Result Time Refusal} (answers : said_moved m ≡ clock_after c 0) where
          pub down-late : {q : Refusal} → m ≡ Err q → outcome (said_refused (why_of q)) t ≡ step_at n (down u v) t
          down-late e = ends-late b Dropped down_fits _ _ _ _ _ (local-down n t u v b) _ (clock-past _ 0 answers (ticks clocks) e)

          pub down-ready : {T : Time} → m ≡ Ok T → {M G : ℕ} → M ≡ without N v → G ≡ without F v
              → {view : Height} → (view ≡ zero_height) × Negated view.pair.nlts.0 → {rule : Rule} → rule ≡ down_rule n (member M) (seen row v view) u
              → Ready Dropped n t u v (record { rule = rule; clock = T; neighbors = M; forming = G; view = view })
          down-ready {T} e {M} {G} l g {view} w {rule} chosen = record {
            between = b;
            fits = down_fits;
            intime = clock-fits _ 0 answers (ticks clocks) e;
            leaves = rw (chosen, clock-is _ 0 answers (ticks clocks) e, l, g, w.0, is, neighbors-are, forming-are) (local-down n t u v b);
            neighbors-lt = rw l (remove-lt n few N neighbors-lt v b.other);
            forming-lt = rw g (remove-lt n few F forming-lt v b.other);
            adopts = rw chosen (down-adopts n (member M) (seen row v view) u);
            view-negated = w.1;
          }

  -- ---- a receipt, by the cell of channel v to u too

  module _ {cell : List ℕ} (holds : cell ≡ channel_of n v u t.channels) where
    pub receive-refused : count cell ≡ 0 → outcome (said_refused (why 6 0 0)) t ≡ step_at n (receive v u) t
    receive-refused z =
        step-unfit n t b.fit (receive v u) (between-named n t u v b Received) 5 refl (receive-unfit n t u v b (ap count (sym holds) ∙ z))

    module _ (some! : 1 ≤ count cell) where
      waits : 1 ≤ count (channel_of n v u t.channels)
      waits = rw (← holds) some!

      at-tables : {r : Bool} → (member (neighbors_in row) v || member (forming_in row) v) ≡ r → (neighbors_at n t u v || forming_at n t u v) ≡ r
      at-tables e = rw (← is) e

      hears : {c s : ℕ} → c ≡ clock_in row → s ≡ (message_at cell 1).timestamp
          → max c s ≡ max (clock_in (node_of n u t.nodes)) (message_at (channel_of n v u t.channels) 1).timestamp
      hears clocks stamps = rw (clocks, stamps, is, holds)

      module _ {c s : ℕ} (clocks : c ≡ clock_in row) (stamps : s ≡ (message_at cell 1).timestamp) {m : Result Time Refusal} (answers : said_moved m ≡ clock_after c s) where
        -- used or ignored
        pub receipt-late : {q : Refusal} → m ≡ Err q → outcome (said_refused (why_of q)) t ≡ step_at n (receive v u) t
        receipt-late {q} e = go (choice (member (neighbors_in row) v || member (forming_in row) v))
          where
            past : (last_time < suc (max (clock_in (node_of n u t.nodes)) (message_at (channel_of n v u t.channels) 1).timestamp)) × (why_of q ≡ why 7 0 0)
            past = clock-past c s answers (hears clocks stamps) e

            go : Choice (member (neighbors_in row) v || member (forming_in row) v) → outcome (said_refused (why_of q)) t ≡ step_at n (receive v u) t
            go (yes! known) = ends-late b Received (receive_fit n t u v b waits) _ _ _ _ _ (local-heard n t u v b waits (at-tables known)) _ past
            go (no! unknown) = ends-late b Received (receive_fit n t u v b waits) _ _ _ _ _ (local-ignored n t u v b waits (at-tables unknown)) _ past

        pub ignored-ready : (member (neighbors_in row) v || member (forming_in row) v) ≡ false
            → {T : Time} → m ≡ Ok T → {N F : ℕ} → N ≡ neighbors_in row → F ≡ forming_in row
            → {view : Height} → (view ≡ height_in row v) × Negated view.pair.nlts.0
            → Ready Received n t u v (record { rule = Ignored; clock = T; neighbors = N; forming = F; view = view })
        ignored-ready unknown {T} e {N} {F} ns fs {view} w = record {
          between = b;
          fits = receive_fit n t u v b waits;
          intime = clock-fits c s answers (hears clocks stamps) e;
          leaves = rw (clock-is c s answers (hears clocks stamps) e, w.0, is, neighbors-are ns fs, forming-are ns fs)
              (local-ignored n t u v b waits (at-tables unknown));
          neighbors-lt = neighbors-lt ns fs;
          forming-lt = forming-lt ns fs;
          adopts = tt;
          view-negated = w.1;
        }

        pub heard-ready : (member (neighbors_in row) v || member (forming_in row) v) ≡ true
            → {T : Time} → m ≡ Ok T → {N F M G : ℕ} → N ≡ neighbors_in row → F ≡ forming_in row → M ≡ joined N v → G ≡ without F v
            → {view : Height} → (view ≡ (message_at cell 1).height) × Negated view.pair.nlts.0
            → {rule : Rule} → rule ≡ receipt_rule n (member M) (seen row v view) u v
            → Ready Received n t u v (record { rule = rule; clock = T; neighbors = M; forming = G; view = view })
        heard-ready known {T} e {N} {F} {M} {G} ns fs q g {view} w {rule} chosen = record {
          between = b;
          fits = receive_fit n t u v b waits;
          intime = clock-fits c s answers (hears clocks stamps) e;
          leaves = rw (chosen, clock-is c s answers (hears clocks stamps) e, q, g, w.0, is, holds, neighbors-are ns fs, forming-are ns fs)
              (local-heard n t u v b waits (at-tables known));
          neighbors-lt = rw q (insert-lt n few N (neighbors-lt ns fs) v b.other);
          forming-lt = rw g (remove-lt n few F (forming-lt ns fs) v b.other);
          adopts = rw chosen (receipt-adopts n (member M) (seen row v view) u v b.other);
          view-negated = w.1;
        }
