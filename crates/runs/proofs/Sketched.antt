-- A plot read from a sketch is what a list of calls from `fresh` leaves, the ups that the sketch stands for. So demand 3 holds of it, and after
-- every allowed list of calls that begins with these ups: whoever goes on from the plot read goes on in such a list.
use Prim.Native.Nat.{ℕ}
use native.Mathlib.Omega.{arith}
use mathlib.Core.Bool.{true}
use mathlib.Core.List.{List, [], ◌∷◌, ◌++◌, map}
use mathlib.Core.Path.{◌≡◌, refl, sym, ap, ◌∙◌}
use Rattle.basics.specs.Functions.{after_all, all}
use Rattle.calls.specs.Run.{Call, event, is_plain, start_of_run}
use Rattle.dot.specs.declared.Edge.{Edge}
use Rattle.dot.proofs.Exactly.{IsSketch}
use Rattle.drawing.specs.Links.{ups_of}
use Rattle.drawing.specs.Read.{read_on}
use Rattle.drawing.proofs.Grown.{from-sketch, Reading, no_sketch, misfit, bad_link, plot, read-cases}
use Rattle.election.specs.RunOn.{tables_left}
use Rattle.protocol.specs.Step.{Event}
use Rattle.refusal.specs.Outcome.{Outcome}
use Rattle.refusal.specs.declared.Why.{Why}
use Rattle.tables.specs.Tables.{Tables}
use Rattle.runs.specs.OnTables.{tables_after, tables_after_all, on_tables, fresh_tables, Allowed}
use Rattle.runs.proofs.Demand3.{tables_at, Demand3, demand-3}
use Rattle.runs.proofs.Lists.{plain-fair}

-- ---- the statement

-- the calls that a sketch stands for
abbrev pub up_calls : ℕ → List Edge → List Call
up_calls n es = map (event n) (ups_of es)

pub record Sketched (xs : List ℕ) (t : Tables) : Type 0 where
  pub n : ℕ
  pub edges : List Edge
  pub sketch : IsSketch xs n edges
  pub allowed : Allowed n (up_calls n edges)
  pub tables : (read_on xs t).after ≡ tables_at n (up_calls n edges)
  -- and with any calls behind the reading
  pub onward : (cs : List Call) → tables_after_all (read_on xs t).after cs ≡ tables_at n (up_calls n edges ++ cs)
  pub demanded : (cs : List Call) → Allowed n (up_calls n edges ++ cs) → Demand3 n (up_calls n edges ++ cs)

-- ---- the proof

plain-ups : (n : ℕ) (es : List Event) → all is_plain (map (event n) es) ≡ true
unfolding all
plain-ups n [] = refl
plain-ups n (e ∷ es) = plain-ups n es

same-calls : (n : ℕ) (t : Tables) (es : List Event)
    → tables_after_all t (map (event n) es) ≡ after_all tables_left t (map (λ e. record { size = n; event = e }) es)
unfolding tables_after
same-calls n t [] = refl
same-calls n t (e ∷ es) = same-calls n (tables_left t (record { size = n; event = e })) es

after-append : (t : Tables) (cs ds : List Call) → tables_after_all t (cs ++ ds) ≡ tables_after_all (tables_after_all t cs) ds
after-append t [] ds = refl
after-append t (c ∷ cs) ds = after-append (tables_after t c) cs ds

by-reading : (xs : List ℕ) (t : Tables) (o : Outcome Why Tables) → read_on xs t ≡ o → Reading xs t o → o.said.number ≡ 0 → Sketched xs t
by-reading xs t o e (no_sketch d) z = absurd (omega (arith, z))
by-reading xs t o e (misfit s a) z = absurd (omega (arith, z))
by-reading xs t o e (bad_link s a b) z = absurd (omega (arith, z))
by-reading xs t o e (plot {n = n} {es = es} s a b) z =
    let f = from-sketch n es s.low s.few b in
    let read : (read_on xs t).after ≡ tables_at n (up_calls n es) =
    ap (λ (x : Outcome Why Tables). x.after) e ∙ (sym f.left ∙ sym (same-calls n (fresh_tables n) (ups_of es))) in
    record {
      n = n;
      edges = es;
      sketch = s;
      allowed = plain-fair on_tables (start_of_run (fresh_tables n)) (up_calls n es) (plain-ups n (ups_of es));
      tables = read;
      onward = λ cs. ap (λ (u : Tables). tables_after_all u cs) read ∙ sym (after-append (fresh_tables n) (up_calls n es) cs);
      demanded = λ cs c. demand-3 n s.low s.few (up_calls n es ++ cs) c;
    }

-- every accepted reading
pub sketched : (xs : List ℕ) (t : Tables) → (read_on xs t).said.number ≡ 0 → Sketched xs t
sketched xs t z = by-reading xs t (read_on xs t) refl (read-cases xs t) z
