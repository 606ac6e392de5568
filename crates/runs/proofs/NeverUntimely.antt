-- No network grown from `fresh`, resumed or not, meets refusal 18 (document 02, [3]): after every allowed list of calls neither an event nor a save nor a
-- drawing is refused with it, whatever their numbers, nor is a restore of what a save of the list put out, or a look at it. Assumes 1 to 16 nodes.
use Prim.Native.Nat.{ℕ, ◌*◌, ◌≤◌}
use native.Mathlib.Omega.{arith}
use mathlib.Core.Bool.{true}
use mathlib.Core.List.{List, ◌∷◌}
use mathlib.Core.Logic.{◌⊎◌, inl, inr}
use mathlib.Core.Path.{◌≡◌, sym, ap, ◌∙◌}
use lib.Dec.{eqb, leb}
use lib.ListN.{length}
use Rattle.basics.proofs.Tests.{Choice, yes!, no!, choice, equal?}
use Rattle.bits.specs.Bits.{unpacked}
use Rattle.calls.specs.Run.{Call, save, start_of_run}
use Rattle.calls.proofs.Good.{answer-number}
use Rattle.calls.proofs.Runs.{state_of}
use Rattle.drawing.specs.Draw.{draw_on}
use Rattle.election.specs.StepOn.{step_at, step_checked, step_on}
use Rattle.election.proofs.RunLaws.{not-sized}
use Rattle.height.specs.Words.{height_size}
use Rattle.image.specs.Image.{image}
use Rattle.image.specs.Places.{node_place}
use Rattle.image.specs.Widths.{header_length, depth_width}
use Rattle.image_reader.specs.Record.{record_in}
use Rattle.image_reading.specs.Examine.{examined}
use Rattle.image_reading.specs.Header.{header_of}
use Rattle.image_snapshot.specs.ReadNode.{node_placed, node_examined, node_sized, node_headed, read_node_on}
use Rattle.image_snapshot.specs.Restore.{restore_of, restore_headed, restore_on}
use Rattle.image_snapshot.specs.Save.{save_on}
use Rattle.image_snapshot.proofs.ImageLaws.{image-header, image-examined}
use Rattle.image_snapshot.proofs.RestoreSaved.{restore-image}
use Rattle.lent.specs.Check.{check_on}
use Rattle.lent.proofs.CheckLaws.{check-sizes}
use Rattle.protocol.specs.Holds.{sound}
use Rattle.protocol.specs.Network.{Network, is_node, restrict}
use Rattle.protocol.specs.Refusal.{misnamed, unfit, unfit_number, late, too_deep, crowded, returned}
use Rattle.protocol.specs.Step.{Event, up, down, receive, home, local, cleared}
use Rattle.protocol.specs.Times.{timely}
use Rattle.protocol.proofs.Holding.{sound-holds, timely-holds}
use Rattle.protocol.proofs.Restrict.{restrict-is}
use Rattle.protocol.proofs.RuleLaws.{by_cases}
use Rattle.refusal.specs.Outcome.{accepted, put_front, put_checked}
use Rattle.refusal.specs.Refusal.{why}
use Rattle.refusal.specs.declared.Why.{Why}
use Rattle.tables.specs.Load.{load}
use Rattle.tables.specs.Tables.{Tables, sized}
use Rattle.runs.specs.OnTables.{put_out, fresh_tables, on_tables, Allowed}
use Rattle.runs.specs.inner.ByMeaning.{save_meant}
use Rattle.runs.proofs.Demand3.{tables_at, LastSave}
use Rattle.runs.proofs.ImageBack.{SaneRun, save-good}
use Rattle.runs.proofs.Lists.{fair-first}
use Rattle.runs.proofs.Simulation.{save-is, from-fresh}
use Rattle.runs.proofs.TablesRun.{meant_after, on-tables, tables-pass}

-- ---- the statement

abbrev pub Not18 : Why → Type 0
Not18 w = w.number ≡ 18 → ⊥

-- bytes, restored into any tables, or looked at for any node at any place
pub record BytesNot18 (b : List ℕ) : Type 0 where
  pub restores : (t : Tables) → Not18 (restore_on b t).said
  pub looks : (k place : ℕ) (row : List ℕ) → Not18 (read_node_on b k place row).said.why

pub record NeverUntimely (n : ℕ) (cs : List Call) : Type 0 where
  pub checks : check_on n (tables_at n cs) ≡ why 0 0 0
  pub events : (m : ℕ) (e : Event) → Not18 (step_on m e (tables_at n cs)).said.why
  pub saves : (m : ℕ) (out : List ℕ) → Not18 (save_on m (tables_at n cs) out).said.why
  pub drawings : (m : ℕ) (out : List ℕ) → Not18 (draw_on m (tables_at n cs) out).said.why
  -- what an accepted save of the list put out
  pub saved : (b : List ℕ) → LastSave n cs b → BytesNot18 b

abbrev pub Statement : Type 0
Statement = (n : ℕ) → 1 ≤ n → n ≤ 16 → (cs : List Call) → Allowed n cs → NeverUntimely n cs

-- ---- numbers that are not 18

unfit-not-18 : (e : Event) → unfit_number e ≡ 18 → ⊥
unfit-not-18 (up u v) z = omega arith
unfit-not-18 (down u v) z = omega arith
unfit-not-18 (receive v u) z = omega arith

returned-not-18 : (n : ℕ) (p : Network) (e : Event) → returned n p e ≡ 18 → ⊥
unfolding returned
returned-not-18 n p e =
    by_cases G (misnamed n e) 3 _ (λ _ z. omega arith)
    (λ _. by_cases G (unfit p e) (unfit_number e) _ (λ _. unfit-not-18 e)
    (λ _. by_cases G (late (local n p e)) 7 _ (λ _ z. omega arith)
    (λ _. by_cases G (too_deep (local n p e).rule ((local n p e).row (home e)).delta) 8 _ (λ _ z. omega arith)
    (λ _. by_cases G (crowded n (local n p e) (cleared p e (home e))) 9 0 (λ _ z. omega arith) (λ _ z. omega arith)))))
  where
    G : ℕ → Type 0
    G k = k ≡ 18 → ⊥

-- bytes to the front, by a check that says 0 or 1
put-not-18 : (c : Why) (b out : List ℕ) → (c ≡ why 0 0 0) ⊎ (c ≡ why 1 0 0) → Not18 (put_checked c b out).said.why
unfolding put_checked put_front
put-not-18 c b out (inl e) z = go (choice (leb (length b) (length out))) (rw e at z)
  where
    go : Choice (leb (length b) (length out)) → Not18 (put_front b out).said.why
    go (yes! i) y = let x : ◌≡◌ {A = ℕ} 0 18 = rw i at y in omega arith
    go (no! i) y = let x : ◌≡◌ {A = ℕ} 14 18 = rw i at y in omega arith
put-not-18 c b out (inr e) z = let x : ◌≡◌ {A = ℕ} 1 18 = rw e at z in omega arith

-- ---- an image of a network whose times make sense

module _ (n : ℕ) (low : 1 ≤ n) (few : n ≤ 16) (p : Network) (holds : sound n p ≡ true) (inside : restrict n p ≡ p) (times : timely n p ≡ true) where
  restores-image : (t : Tables) → Not18 (restore_on (image n p) t).said
  unfolding restore_on restore_headed restore_of
  restores-image t z = go (choice (sized n t))
    where
      go : Choice (sized n t) → ⊥
      go (yes! e) = let x : ◌≡◌ {A = ℕ} 0 18 = ap (λ o. o.said.number) (sym (restore-image n low few p holds inside times t e)) ∙ z in omega arith
      go (no! e) = let x : ◌≡◌ {A = ℕ} 1 18 = rw (image-header n low few p holds inside, e) at z in omega arith

  looks-at-image : (k place : ℕ) (row : List ℕ) → Not18 (read_node_on (image n p) k place row).said.why
  unfolding read_node_on node_headed node_sized node_examined node_placed record_in
  looks-at-image k place row z =
      go (image-header n low few p holds inside) (image-examined n low few p holds inside times)
      (choice (eqb (length row) (n * height_size))) (choice (is_node n k)) (choice (eqb place (node_place header_length depth_width n k)))
    where
      go : header_of (image n p) ≡ accepted (record { version = 1; length = 32; n = n })
          → examined header_length depth_width n (unpacked (image n p)) ≡ why 0 0 0
          → Choice (eqb (length row) (n * height_size)) → Choice (is_node n k) → Choice (eqb place (node_place header_length depth_width n k)) → ⊥
      go h x (no! a) b c = let y : ◌≡◌ {A = ℕ} 1 18 = rw (h, a) at z in omega arith
      go h x (yes! a) (no! b) c = let y : ◌≡◌ {A = ℕ} 3 18 = rw (h, a, x, b) at z in omega arith
      go h x (yes! a) (yes! b) (no! c) = let y : ◌≡◌ {A = ℕ} 13 18 = rw (h, a, x, b, c) at z in omega arith
      go h x (yes! a) (yes! b) (yes! c) = let y : ◌≡◌ {A = ℕ} 0 18 = rw (h, a, x, b, c) at z in omega arith

-- ---- the proof

module _ (n : ℕ) (low : 1 ≤ n) (few : n ≤ 16) (cs : List Call) (allowed : Allowed n cs) where
  abbrev t : Tables
  t = tables_at n cs

  checked : (m : ℕ) → (check_on m t ≡ why 0 0 0) ⊎ (check_on m t ≡ why 1 0 0)
  checked m = go (equal? m n)
    where
      go : (m ≡ n) ⊎ (m ≡ n → ⊥) → (check_on m t ≡ why 0 0 0) ⊎ (check_on m t ≡ why 1 0 0)
      go (inl q) = inl (rw q (tables-pass n low few cs allowed))
      go (inr d) =
          let good = (from-fresh n low few cs allowed).sane.good in
          inr (rw (on-tables n low few cs allowed).tables-are (sym (check-sizes m _ (not-sized n low few (state_of (meant_after n cs)) good m d))))

  events-not-18 : (m : ℕ) (e : Event) → Not18 (step_on m e t).said.why
  unfolding step_on step_checked step_at
  events-not-18 m e z = go (checked m)
    where
      go : (check_on m t ≡ why 0 0 0) ⊎ (check_on m t ≡ why 1 0 0) → ⊥
      go (inl q) = returned-not-18 m (load m t) e (sym (answer-number m (load m t) e) ∙ (rw q at z))
      go (inr q) = let x : ◌≡◌ {A = ℕ} 1 18 = rw q at z in omega arith

-- the bytes of an accepted save are an image of the network that the calls before it left
image-not-18 : (n : ℕ) → 1 ≤ n → n ≤ 16 → (before : List Call) → Allowed n before → (m : ℕ) (out b : List ℕ)
    → (save_on m (tables_at n before) out).said.why.number ≡ 0 → put_out (save_on m (tables_at n before) out) ≡ b → BytesNot18 b
image-not-18 n low few before allowed m out b zero! bytes = record {
  restores = λ t. rw (← is) (restores-image n low few p holds inside times t);
  looks = λ k place row. rw (← is) (looks-at-image n low few p holds inside times k place row);
}
  where
    sane : SaneRun n low few (meant_after n before)
    sane = (from-fresh n low few before allowed).sane

    p : Network
    p = (meant_after n before).now

    meant : save_on m (tables_at n before) out ≡ save_meant n m out (meant_after n before).now
    meant = ap (λ (t : Tables). save_on m t out) (on-tables n low few before allowed).tables-are ∙ save-is n low few (meant_after n before) sane m out

    is : image n p ≡ b
    is = sym (save-good n m out p (rw meant at zero!)).bytes ∙ (rw meant at bytes)

    holds : sound n p ≡ true
    holds = sound-holds n p sane.good.fits

    inside : restrict n p ≡ p
    inside = restrict-is n p sane.good.fits

    times : timely n p ≡ true
    times = timely-holds n p sane.good.timed

pub never-untimely : Statement
unfolding save_on draw_on
never-untimely n low few cs allowed = record {
  checks = tables-pass n low few cs allowed;
  events = events-not-18 n low few cs allowed;
  saves = λ m out. put-not-18 (check_on m (tables_at n cs)) _ out (checked n low few cs allowed m);
  drawings = λ m out. put-not-18 (check_on m (tables_at n cs)) _ out (checked n low few cs allowed m);
  saved = λ b s.
      let first = fair-first on_tables (start_of_run (fresh_tables n)) s.before (save s.size s.room ∷ s.rest) (rw s.list at allowed) in
      image-not-18 n low few s.before first s.size s.room b s.accepted s.bytes;
}
