-- The plot of a sketch: every up of its lines is carried out by rule U, exactly the channels that it names are up, and it is the plot that
-- the calls of these ups leave in fresh tables; so all that holds of lists of calls from `fresh` holds of it and of what follows.
-- Assumes 1 to 16 nodes and links that hold (not refused with 1 or 17).
use Prim.Native.Nat.{ℕ, ◌≤◌}
use native.Mathlib.Omega.{arith}
use mathlib.Core.Bool.{Bool, true, false, ◌&&◌, ◌||◌, or-false}
use mathlib.Core.List.{List, [], ◌∷◌, map}
use mathlib.Core.Logic.{inl, inr}
use mathlib.Core.Path.{◌≡◌, refl, sym, ap, ap₂, ◌∙◌}
use Rattle.basics.specs.Functions.{after_all, say_all}
use Rattle.basics.proofs.Tests.{Choice, yes!, no!, choice, SameOrNot, equal?}
use Rattle.calls.specs.History.{State, started, advance, grown}
use Rattle.calls.proofs.Good.{Good, good-started, good-advance}
use Rattle.calls.proofs.Theorems.{grown-steady}
use Rattle.dot.specs.Graph.{graph_head, dash}
use Rattle.dot.specs.Sketch.{Sketch, sketch_with, sketch_of}
use Rattle.dot.specs.declared.Edge.{Edge}
use Rattle.dot.proofs.Exactly.{IsSketch, exactly, nodes-none, nodes-some}
use Rattle.dot.proofs.Tells.{text-tells}
use Rattle.election.specs.RunOn.{EventCall, tables_left, said_on}
use Rattle.election.specs.StepOn.{step_on}
use Rattle.election.proofs.RunLaws.{own-call}
use Rattle.height.specs.Height.{zero_level}
use Rattle.nodeset.specs.NodeSet.{set_of, same_node}
use Rattle.protocol.specs.Answer.{Said, carried_out}
use Rattle.protocol.specs.Network.{Node, fresh, up_to}
use Rattle.protocol.specs.Refusal.{answer}
use Rattle.protocol.specs.Step.{Event, peer}
use Rattle.refusal.specs.Outcome.{Answered, Outcome, outcome, refused_with}
use Rattle.refusal.specs.Refusal.{why}
use Rattle.refusal.specs.declared.Why.{Why}
use Rattle.tables.specs.Load.{load, tables_of}
use Rattle.tables.specs.Tables.{Tables, sized}
use Rattle.tables.proofs.Back.{storable, load-back}
use Rattle.drawing.specs.Drawing.{points}
use Rattle.drawing.specs.Links.{named_by, links_hold, ups_of}
use Rattle.drawing.specs.Read.{read_links, read_sized, read_sketch, read_on}
use Rattle.drawing.proofs.Arrows.{linked-points}
use Rattle.drawing.proofs.Risen.{risen, turned}
use Rattle.drawing.proofs.Rising.{Rising}

-- ---- the statement

-- a call of an event on tables of n nodes
abbrev call_on : ℕ → Event → EventCall
call_on n e = record { size = n; event = e }

-- what an up to v says that is carried out: 0, rule U (85), v alone as the set sent to
abbrev said_up : ℕ → ℕ → Said
said_up n v = carried_out 85 (set_of n (same_node v)) 0 zero_level

pub record FromSketch (n : ℕ) (es : List Edge) : Type 0 where
  -- each up says 0, U, and its other node as the set sent to
  pub carried-out : say_all (advance n) (λ s e. answer n s.network e) started (ups_of es) ≡ map (λ e. said_up n (peer e)) (ups_of es)
  -- exactly the channels named are up, each in both directions
  pub channels : (u v : ℕ) → up_to (grown n (ups_of es)).network u v ≡ named_by es u v
  -- the same on tables: what the calls say, and what they leave
  pub said : say_all tables_left said_on (tables_of n fresh) (map (call_on n) (ups_of es)) ≡ map (λ e. said_up n (peer e)) (ups_of es)
  pub left : after_all tables_left (tables_of n fresh) (map (call_on n) (ups_of es)) ≡ tables_of n (grown n (ups_of es)).network
  -- and they hold that plot
  pub holds : load n (tables_of n (grown n (ups_of es)).network) ≡ (grown n (ups_of es)).network

-- ---- from the fresh plot

none-up : (n : ℕ) → Rising n started (named_by [])
unfolding named_by
none-up n = record { good = good-started n; ups = λ u v. refl; clocks = λ u. omega arith }

nothing-more : (es : List Edge) (u v : ℕ) → (named_by es u v || named_by [] u v) ≡ named_by es u v
unfolding named_by
nothing-more es u v = or-false (named_by es u v)

-- the same calls on tables
record OnTables (n : ℕ) (s : State) (es : List Event) : Type 0 where
  says : say_all tables_left said_on (tables_of n s.network) (map (call_on n) es) ≡ say_all (advance n) (λ s e. answer n s.network e) s es
  leaves : after_all tables_left (tables_of n s.network) (map (call_on n) es) ≡ tables_of n (after_all (advance n) s es).network

on-tables : (n : ℕ) → 1 ≤ n → n ≤ 16 → (s : State) → Good n s → (es : List Event) → OnTables n s es
unfolding advance
on-tables n low few s g [] = record { says = refl; leaves = refl }
on-tables n low few s g (e ∷ es) =
    let one = own-call n low few s g e in
    let more = on-tables n low few (advance n s e) (good-advance n s e g) es in
    let after : (step_on n e (tables_of n s.network)).after ≡ tables_of n (advance n s e).network = ap (λ (o : Outcome Said Tables). o.after) one in
    let said = ap (λ (o : Outcome Said Tables). o.said) one in
    record {
      says = ap₂ (λ (x : Said) (xs : List Said). x ∷ xs) said
          (ap (λ (x : Tables). say_all tables_left said_on x (map (call_on n) es)) after ∙ more.says);
      leaves = ap (λ (x : Tables). after_all tables_left x (map (call_on n) es)) after ∙ more.leaves;
    }

pub from-sketch : (n : ℕ) (es : List Edge) → 1 ≤ n → n ≤ 16 → links_hold n [] es ≡ true → FromSketch n es
from-sketch n es low few h =
    let r = risen n few started [] es h (none-up n) in
    let t = on-tables n low few started (good-started n) (ups_of es) in
    record {
      carried-out = r.answers;
      channels = λ u v. r.rising.ups u v ∙ nothing-more es u v;
      said = t.says ∙ r.answers;
      left = t.leaves;
      holds = load-back n (grown n (ups_of es)).network (storable n (grown n (ups_of es)).network r.rising.good.fits);
    }

-- ---- reading, case by case: the text is no sketch, or the one sketch that it is decides

pub data Reading (xs : List ℕ) (t : Tables) : Outcome Why Tables → Type 0 where
  no_sketch : ((n : ℕ) (es : List Edge) → IsSketch xs n es → ⊥) → Reading xs t (outcome (why 16 0 0) t)
  misfit : {n : ℕ} {es : List Edge} → IsSketch xs n es → sized n t ≡ false → Reading xs t (outcome (why 1 0 0) t)
  bad_link : {n : ℕ} {es : List Edge} → IsSketch xs n es → sized n t ≡ true → links_hold n [] es ≡ false → Reading xs t (outcome (why 17 0 0) t)
  plot : {n : ℕ} {es : List Edge} → IsSketch xs n es → sized n t ≡ true → links_hold n [] es ≡ true
      → Reading xs t (outcome (why 0 0 0) (tables_of n (grown n (ups_of es)).network))

-- a text is the sketch of one n and one list of edges
pub one-sketch : (xs : List ℕ) (n m : ℕ) (es fs : List Edge) → IsSketch xs n es → IsSketch xs m fs → (n ≡ m) × (es ≡ fs)
one-sketch xs n m es fs a b = text-tells graph_head dash n m es fs a.few b.few a.numbers b.numbers (sym a.text ∙ b.text)

by-sketch : (xs : List ℕ) (t : Tables) (n : ℕ) (es : List Edge) → IsSketch xs n es → read_on xs t ≡ read_sized n es t
unfolding read_on read_sketch
by-sketch xs t n es s = ap (λ (x : Answered Sketch). read_sketch x t) ((exactly xs).taken n es s)

by-case : (xs : List ℕ) (t : Tables) (n : ℕ) (es : List Edge) → IsSketch xs n es → Choice (sized n t) → Choice (links_hold n [] es)
    → Reading xs t (read_sized n es t)
unfolding read_sized read_links
by-case xs t n es s (no! a) b = rw a (misfit s a)
by-case xs t n es s (yes! a) (no! b) = rw (a, b) (bad_link s a b)
by-case xs t n es s (yes! a) (yes! b) = rw (a, b) (plot s a b)

-- what the text says
refused-16 : (xs : List ℕ) (t : Tables) → sketch_of xs ≡ refused_with (sketch_with 0 []) (why 16 0 0) → read_on xs t ≡ outcome (why 16 0 0) t
unfolding read_on read_sketch
refused-16 xs t e = ap (λ (x : Answered Sketch). read_sketch x t) e

pub read-cases : (xs : List ℕ) (t : Tables) → Reading xs t (read_on xs t)
read-cases xs t = go (equal? (sketch_of xs).value.nodes 0)
  where
    go : SameOrNot (sketch_of xs).value.nodes 0 → Reading xs t (read_on xs t)
    go (inl z) =
        let e = nodes-none xs z in
        rw (refused-16 xs t e) (no_sketch ((exactly xs).no_other (ap (λ (x : Answered Sketch). x.why.number) e)))
    go (inr d) =
        let n = (sketch_of xs).value.nodes in
        let es = (sketch_of xs).value.edges in
        let s = (nodes-some xs d).1 in
        rw (by-sketch xs t n es s) (by-case xs t n es s (choice (sized n t)) (choice (links_hold n [] es)))

-- the drawing of the plot read has an arrow, one way or the other, for exactly the links named
pub links-drawn : (n : ℕ) (es : List Edge) → 1 ≤ n → n ≤ 16 → links_hold n [] es ≡ true → (u v : ℕ) → Node n u → Node n v
    → (points (grown n (ups_of es)).network u v || points (grown n (ups_of es)).network v u) ≡ named_by es u v
links-drawn n es low few h u v a b =
    let p = (grown n (ups_of es)).network in
    let f = from-sketch n es low few h in
    sym (linked-points n p (grown-steady n (ups_of es)).breaks-no-rule u v a b)
    ∙ (ap₂ (λ (x y : Bool). x && y) (f.channels u v) (f.channels v u ∙ turned es u v) ∙ twice (named_by es u v))
  where
    twice : (t : Bool) → (t && t) ≡ t
    twice true = refl
    twice false = refl
