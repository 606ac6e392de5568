-- The listing of events carried out on tables is the listing of the meaning: from fresh tables of n nodes.
-- Assumes 1 to 16 nodes.
use Prim.Native.Nat.{ℕ, suc, ◌≤◌}
use native.Mathlib.Omega.{arith}
use mathlib.Core.Bool.{Bool, true, false, cond}
use mathlib.Core.List.{List, [], ◌∷◌, ◌++◌}
use mathlib.Core.Path.{◌≡◌, refl, sym, ap, ap₂, ◌∙◌}
use lib.Dec.{eqb}
use Rattle.calls.specs.History.{State, started, advance}
use Rattle.calls.proofs.Good.{Good, good-started, good-advance}
use Rattle.commands.specs.Commands.{SaidCommand, command_of}
use Rattle.election.proofs.RunLaws.{own-call}
use Rattle.protocol.specs.Answer.{Said}
use Rattle.protocol.specs.Network.{Node, Network, fresh}
use Rattle.protocol.specs.Step.{Event}
use Rattle.refusal.specs.Outcome.{Outcome}
use Rattle.tables.specs.Load.{tables_of}
use Rattle.tables.specs.Tables.{Tables}
use Rattle.tables.proofs.Back.{storable, load-back}
use Rattle.tables.proofs.TablesLaws.{load-clock, load-height}
use Rattle.text.proofs.PourLaws.{in-turn-same}
use Rattle.bench_run.specs.Listing.{said_line, event_named, by_event, command_line, after_command, event_lines, after_lines, station_lines}
use Rattle.bench_run.specs.inner.OnTables.{command_line_on, after_command_on, event_lines_on, after_lines_on, station_line_on, station_lines_on}

-- the state after a command
state_after : ℕ → State → SaidCommand → State
state_after n s c = by_event (advance n s) s c

-- what holds between two acts at every event, and between what stands for them at a malformed line, holds between them at every command
module _ {A B : Type 0} (R : A → B → Type 0) where
  either : (t : Bool) {x z : A} {y w : B} → R x y → R z w → R (cond t x z) (cond t y w)
  either true p q = p
  either false p q = q

  by-event : {f : Event → A} {g : Event → B} {a : A} {b : B} → ((e : Event) → R (f e) (g e)) → R a b
      → (c : SaidCommand) → R (by_event f a c) (by_event g b c)
  unfolding by_event
  by-event each other c = either (eqb c.why.number 0) (each (event_named c)) other

module _ (n : ℕ) (low : 1 ≤ n) (few : n ≤ 16) where
  module _ (s : State) (good : Good n s) where
    line_same : (k : ℕ) (c : SaidCommand) → command_line_on n (tables_of n s.network) k c ≡ command_line n s.network k c
    unfolding command_line_on command_line
    line_same k c =
        by-event (λ (x y : List ℕ). x ≡ y) (λ (e : Event). ap (λ (o : Outcome Said Tables). said_line k o.said) (own-call n low few s good e)) refl c

    after_same : (c : SaidCommand) → after_command_on n (tables_of n s.network) c ≡ tables_of n (after_command n s.network c)
    unfolding after_command_on after_command
    after_same =
        by-event (λ (t : Tables) (p : Network). t ≡ tables_of n p) (λ (e : Event). ap (λ (o : Outcome Said Tables). o.after) (own-call n low few s good e)) refl

    state-network : (c : SaidCommand) → (state_after n s c).network ≡ after_command n s.network c
    unfolding state_after advance after_command
    state-network = by-event (λ (r : State) (p : Network). r.network ≡ p) (λ (e : Event). refl) refl

    state-good : (c : SaidCommand) → Good n (state_after n s c)
    unfolding state_after
    state-good = by-event (λ (r q : State). Good n r) {g = advance n s} {b = s} (λ (e : Event). good-advance n s e good) good

    stations-same : station_lines_on n (tables_of n s.network) ≡ station_lines n s.network
    unfolding station_lines_on station_line_on station_lines
    stations-same =
        let back = load-back n s.network (storable n s.network good.fits) in
        in-turn-same n _ _ (λ i l.
        let node : Node n (suc i) = record { low = omega arith; high = l } in
        let clock = sym (load-clock n (tables_of n s.network) (suc i) node) ∙ ap (λ (p : Network). p.clock (suc i)) back in
        let heights = sym (load-height n (tables_of n s.network) (suc i) node) ∙ ap (λ (p : Network). p.height (suc i)) back in
        rw (clock, heights))

  -- after any lines
  lines_same : (s : State) → Good n s → (k : ℕ) (ls : List (List ℕ))
      → (event_lines_on n (tables_of n s.network) k ls ≡ event_lines n s.network k ls)
      × (station_lines_on n (after_lines_on n (tables_of n s.network) ls) ≡ station_lines n (after_lines n s.network ls))
  unfolding event_lines_on event_lines
  lines_same s good k [] = (refl, stations-same s good)
  lines_same s good k (l ∷ ls) =
      let c = command_of l in
      let more = lines_same (state_after n s c) (state-good s good c) (suc k) ls in
      let net = state-network s good c in
      let tabs = after_same s good c ∙ ap (tables_of n) (sym net) in (
        ap₂ (λ (x y : List ℕ). x ++ y) (line_same s good k c)
            (ap (λ (t : Tables). event_lines_on n t (suc k) ls) tabs ∙ more.0 ∙ ap (λ (p : Network). event_lines n p (suc k) ls) net),
        ap (λ (t : Tables). station_lines_on n (after_lines_on n t ls)) tabs ∙ more.1 ∙ ap (λ (p : Network). station_lines n (after_lines n p ls)) net,
      )

  pub events-same : (ls : List (List ℕ)) → event_lines_on n (tables_of n fresh) 1 ls ≡ event_lines n fresh 1 ls
  events-same ls = (lines_same started (good-started n) 1 ls).0

  pub stations-after : (ls : List (List ℕ)) → station_lines_on n (after_lines_on n (tables_of n fresh) ls) ≡ station_lines n (after_lines n fresh ls)
  stations-after ls = (lines_same started (good-started n) 1 ls).1
