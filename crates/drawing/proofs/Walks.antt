-- The two walks over the edge lines of a text: what is left to check is the rest of the answer, and what is left to link is the rest of the plot.
use Prim.Native.Nat.{ℕ, ◌+◌, ◌-◌, ◌≤◌, ◌<◌}
use native.Mathlib.Omega.{arith}
use mathlib.Core.Bool.{Bool, true, false, not, ◌&&◌}
use mathlib.Core.List.{List, [], ◌∷◌}
use mathlib.Core.Path.{◌≡◌, refl, sym, ap, ◌∙◌}
use lib.ListN.{length, get_or, drop}
use Rattle.basics.specs.Functions.{after_all}
use Rattle.basics.proofs.Tests.{and_left}
use Rattle.calls.specs.History.{State, started, advance, grown}
use Rattle.calls.proofs.Good.{Good, good-started, good-advance}
use Rattle.dot.specs.Graph.{dash, edge_line}
use Rattle.dot.specs.Sketch.{edge_at}
use Rattle.dot.specs.declared.Edge.{Edge}
use Rattle.dot.specs.inner.Ahead.{Ahead}
use Rattle.dot.proofs.AheadLaws.{Next, ahead-next, ahead-done}
use Rattle.dot.proofs.Edges.{line-some}
use Rattle.election.specs.StepOn.{step_on}
use Rattle.election.proofs.RunLaws.{own-call}
use Rattle.nodeset.specs.NodeSet.{member}
use Rattle.protocol.specs.Answer.{Said}
use Rattle.protocol.specs.Network.{Two, fresh}
use Rattle.protocol.specs.Step.{Event, up}
use Rattle.refusal.specs.Outcome.{Outcome, outcome}
use Rattle.tables.specs.Load.{tables_of}
use Rattle.tables.specs.Tables.{Tables}
use Rattle.tables.proofs.Back.{tables-sized}
use Rattle.drawing.specs.Links.{is_link, named_by, links_hold, ups_of}
use Rattle.drawing.specs.inner.Seen.{edges_read, Seen}
use Rattle.drawing.proofs.Marks.{link-two}

-- ---- the check

pub record Checking (n : ℕ) (xs seen : List ℕ) (at : ℕ) : Type 0 where
  pub done : List Edge
  pub left : List Edge
  pub ahead : Ahead xs at left
  pub marks : Seen n done seen
  pub same : links_hold n done left ≡ links_hold n [] (edges_read xs)

pub check-start : (n : ℕ) (xs seen : List ℕ) (at : ℕ) → Ahead xs at (edges_read xs) → Seen n [] seen → Checking n xs seen at
check-start n xs seen at a s = record { done = []; left = edges_read xs; ahead = a; marks = s; same = refl }

-- a line stays inside the text
pub line-inside : (xs : List ℕ) (at : ℕ) (es : List Edge) → Ahead xs at es → 2 < length xs - at → (e : Edge) → e ≡ edge_at (drop at xs)
    → (size : ℕ) → size ≡ length (edge_line dash e) → (at + size ≤ length xs) × (8 ≤ size)
line-inside xs at es a h e is size s =
    let k = ahead-next xs at es a h in
    let q : e ≡ k.edge = is ∙ k.read in
    let long : size ≡ length (edge_line dash k.edge) = s ∙ ap (λ (x : Edge). length (edge_line dash x)) q in
    (omega (arith, long, k.on.inside), omega (arith, long, line-some dash k.edge))

module _ (n : ℕ) (xs seen : List ℕ) (at : ℕ) (c : Checking n xs seen at) where
  pub check_done : length xs - at ≤ 2 → true ≡ links_hold n [] (edges_read xs)
  unfolding links_hold
  check_done h = sym (ap (links_hold n c.done) (ahead-done xs at c.left c.ahead h)) ∙ c.same

  module _ (more : 2 < length xs - at) (e : Edge) (is : e ≡ edge_at (drop at xs)) (t : Bool)
      (said : t ≡ (is_link n e && not (member (get_or seen (e.first - 1) 0) e.second))) where
    step : Next xs at c.left
    step = ahead-next xs at c.left c.ahead more

    is-edge : step.edge ≡ e
    is-edge = sym step.read ∙ sym is

    left_is : c.left ≡ e ∷ step.rest
    left_is = step.split ∙ ap (λ (x : Edge). x ∷ step.rest) is-edge

    -- by the marks, a link is new exactly where no line before names it
    by-marks : is_link n e ≡ true → member (get_or seen (e.first - 1) 0) e.second ≡ named_by c.done e.first e.second
    by-marks l = let two = link-two n e l in c.marks.at e.first e.second two.one two.other

    new_is : t ≡ (is_link n e && not (named_by c.done e.first e.second))
    new_is = said ∙ go (is_link n e) refl
      where
        go : (l : Bool) → is_link n e ≡ l
            → (l && not (member (get_or seen (e.first - 1) 0) e.second)) ≡ (l && not (named_by c.done e.first e.second))
        go true l = ap not (by-marks l)
        go false l = refl

    holds-is : links_hold n c.done c.left ≡ (t && links_hold n (e ∷ c.done) step.rest)
    unfolding links_hold
    holds-is = ap (links_hold n c.done) left_is ∙ ap (λ (b : Bool). b && links_hold n (e ∷ c.done) step.rest) (sym new_is)

    pub check-stop : t ≡ false → false ≡ links_hold n [] (edges_read xs)
    check-stop h = sym (holds-is ∙ ap (λ (b : Bool). b && links_hold n (e ∷ c.done) step.rest) h) ∙ c.same

    pub new-link : t ≡ true → Two n e.first e.second
    new-link h = link-two n e (and_left (is_link n e) (not (member (get_or seen (e.first - 1) 0) e.second)) (sym said ∙ h))

    pub check-next : t ≡ true → (after : List ℕ) → ((done : List Edge) → Seen n done seen → Seen n (e ∷ done) after)
        → (size : ℕ) → size ≡ length (edge_line dash e) → Checking n xs after (at + size)
    check-next h after marks size s =
        let place : at + length (edge_line dash step.edge) ≡ at + size =
        ap (λ (x : Edge). at + length (edge_line dash x)) is-edge ∙ ap (λ (k : ℕ). at + k) (sym s) in record {
          done = e ∷ c.done;
          left = step.rest;
          ahead = rw (← place) step.on;
          marks = marks c.done c.marks;
          same = sym (holds-is ∙ ap (λ (b : Bool). b && links_hold n (e ∷ c.done) step.rest) h) ∙ c.same;
        }

-- ---- the plot

pub record Linking (n : ℕ) (xs : List ℕ) (t : Tables) (at : ℕ) : Type 0 where
  pub state : State
  pub left : List Edge
  pub ahead : Ahead xs at left
  pub good : Good n state
  pub holds : t ≡ tables_of n state.network
  pub same : after_all (advance n) state (ups_of left) ≡ grown n (ups_of (edges_read xs))

pub both-ups : (n : ℕ) (d e : Event) (t : Tables) {mid after : Tables} {r s : Said} → outcome r mid ≡ step_on n d t → outcome s after ≡ step_on n e mid
    → after ≡ (step_on n e (step_on n d t).after).after
both-ups n d e t p q =
    ap (λ (o : Outcome Said Tables). o.after) q ∙ ap (λ (x : Tables). (step_on n e x).after) (ap (λ (o : Outcome Said Tables). o.after) p)

pub link_start : (n : ℕ) (xs : List ℕ) (t : Tables) (at : ℕ) → Ahead xs at (edges_read xs) → t ≡ tables_of n fresh → Linking n xs t at
link_start n xs t at a e = record { state = started; left = edges_read xs; ahead = a; good = good-started n; holds = e; same = refl }

module _ (n : ℕ) (low : 1 ≤ n) (few : n ≤ 16) (xs : List ℕ) (t : Tables) (at : ℕ) (l : Linking n xs t at) where
  pub link-done : length xs - at ≤ 2 → t ≡ tables_of n (grown n (ups_of (edges_read xs))).network
  unfolding ups_of
  link-done h =
      let none : after_all (advance n) l.state (ups_of l.left) ≡ l.state =
      ap (λ (es : List Edge). after_all (advance n) l.state (ups_of es)) (ahead-done xs at l.left l.ahead h) in
      l.holds ∙ ap (λ (s : State). tables_of n s.network) (sym none ∙ l.same)

  -- one up on the tables of a grown network
  raised : (s : State) → Good n s → (u : Tables) → u ≡ tables_of n s.network → (e : Event) → (step_on n e u).after ≡ tables_of n (advance n s e).network
  unfolding advance
  raised s g u e v = ap (λ (x : Tables). (step_on n v x).after) e ∙ ap (λ (o : Outcome Said Tables). o.after) (own-call n low few s g v)

  module _ (more : 2 < length xs - at) (e : Edge) (is : e ≡ edge_at (drop at xs)) where
    edge-next : Next xs at l.left
    edge-next = ahead-next xs at l.left l.ahead more

    same-edge : edge-next.edge ≡ e
    same-edge = sym edge-next.read ∙ sym is

    abbrev forth : State
    forth = advance n l.state (up e.first e.second)

    abbrev back : State
    back = advance n forth (up e.second e.first)

    ups-are : after_all (advance n) l.state (ups_of l.left) ≡ after_all (advance n) back (ups_of edge-next.rest)
    unfolding ups_of
    ups-are =
        ap (λ (es : List Edge). after_all (advance n) l.state (ups_of es)) (edge-next.split ∙ ap (λ (x : Edge). x ∷ edge-next.rest) same-edge)

    pub link-next : (after : Tables) → after ≡ (step_on n (up e.second e.first) (step_on n (up e.first e.second) t).after).after
        → (size : ℕ) → size ≡ length (edge_line dash e) → Linking n xs after (at + size)
    link-next after made size s =
        let place : at + length (edge_line dash edge-next.edge) ≡ at + size =
        ap (λ (x : Edge). at + length (edge_line dash x)) same-edge ∙ ap (λ (k : ℕ). at + k) (sym s) in
        let once = raised l.state l.good t l.holds (up e.first e.second) in
        let g = good-advance n l.state (up e.first e.second) l.good in record {
          state = back;
          left = edge-next.rest;
          ahead = rw (← place) edge-next.on;
          good = good-advance n forth (up e.second e.first) g;
          holds = made ∙ raised forth g (step_on n (up e.first e.second) t).after once (up e.second e.first);
          same = sym ups-are ∙ l.same;
        }

  -- tables of n nodes all have the same lengths
  pub kept-nodes : (u : Tables) → u ≡ tables_of n fresh → length t.nodes ≡ length u.nodes
  kept-nodes u e =
      ap (λ (x : Tables). length x.nodes) l.holds
      ∙ ((tables-sized n l.state.network low few).nodes ∙ (sym (tables-sized n fresh low few).nodes ∙ sym (ap (λ (x : Tables). length x.nodes) e)))

  pub kept-channels : (u : Tables) → u ≡ tables_of n fresh → length t.channels ≡ length u.channels
  kept-channels u e =
      ap (λ (x : Tables). length x.channels) l.holds
      ∙ ((tables-sized n l.state.network low few).channels ∙ (sym (tables-sized n fresh low few).channels ∙ sym
      (ap (λ (x : Tables). length x.channels) e)))
